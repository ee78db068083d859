use Rattle.std.proofs.Common.{ℕ, ◌≡◌, ◌⊎◌, ◌<◌, ◌+◌, List, [], ◌∷◌, ◌++◌, length, get_or, sym, ap, ◌∙◌, subst, arith, inl, inr, Vec, Global}
use Rattle.std.proofs.lemmas.Bool.{cases_lt}
use Rattle.std.proofs.lemmas.List.{length-append, get_or_append_left, get_or_default}
use Rattle.std.proofs.Math.Seq.{get_or-append_seam}
use Rattle.term_classes.specs.declared.node.Node.{Node}
use Rattle.term_classes.specs.declared.node.Slot.{Slot}
use Rattle.term_classes.specs.declared.node.Saved.{Saved}
use Rattle.term_classes.specs.Slots.{link_of}
use Rattle.term_classes.specs.Fits.{IsOrdered}
use Rattle.term_classes.specs.Settle.{AreRoots, IsOn}
use Rattle.term_classes.proofs.settle.strained.Goals as goal
use Rattle.term_classes.proofs.settle.strained.Goals.{then-is_strained+in_ok-push, else-is_strained}

abbrev AllSeen : List Node → List Slot → List Saved → List ℕ → ℕ → Type 0
AllSeen nodes slots saved found n = (k i : ℕ) → k < n → ((d : Saved) → (get_or saved k d).at ≡ i) → link_of slots i ≡ i → IsOrdered nodes slots i ⊎ IsOn found i

roots_more : (slots : List Slot) (found : List ℕ) (r : ℕ) → AreRoots slots found → (r < length slots) × (link_of slots r ≡ r) → AreRoots slots (found ++ r ∷ [])
roots_more slots found r h e k l = elim (cases_lt k (length found)) [
  | inl a ↦ subst (λ z. (z < length slots) × (link_of slots z ≡ z)) (sym (get_or_append_left found (r ∷ []) 0 k a)) (h k a)
  | inr a ↦
      let n = length-append found (r ∷ []) in
      let k' : k ≡ length found = omega arith in
      subst (λ z. (z < length slots) × (link_of slots z ≡ z)) (sym (ap (λ z. get_or (found ++ r ∷ []) z 0) k' ∙ get_or-append_seam found r [] 0)) e
]

on_more : (found : List ℕ) (r i : ℕ) → IsOn found i → IsOn (found ++ r ∷ []) i
on_more found r i (k, l, e) = (k, omega (arith, length-append found (r ∷ [])), get_or_append_left found (r ∷ []) 0 k l ∙ e)

on_last : (found : List ℕ) (r : ℕ) → IsOn (found ++ r ∷ []) r
on_last found r = (length found, omega (arith, length-append found (r ∷ [])), get_or-append_seam found r [] 0)

seen_more : (nodes : List Node) (slots : List Slot) (saved : List Saved) (found later : List ℕ) (n : ℕ) (s : Saved) → n < length saved → ((d : Saved) → get_or saved n d ≡ s) → AllSeen nodes slots saved found n
    → ((i : ℕ) → IsOn found i → IsOn later i) → (link_of slots s.at ≡ s.at → IsOrdered nodes slots s.at ⊎ IsOn later s.at) → AllSeen nodes slots saved later (n + 1)
seen_more nodes slots saved found later n s l at h more here k i lk e r = elim (cases_lt k n) [
  | inl a ↦ elim (h k i a e r) [ inl x ↦ inl x | inr x ↦ inr (more i x) ]
  | inr a ↦
      let k' : k ≡ n = omega arith in
      let same : s.at ≡ i = ap (λ (z : Saved). z.at) (sym (at s)) ∙ ap (λ z. (get_or saved z s).at) (sym k') ∙ e s in
      subst (λ z. IsOrdered nodes slots z ⊎ IsOn later z) same (here (subst (λ z. link_of slots z ≡ z) (sym same) r))
]

pub loop-one-preserved : goal.loop-one-preserved
loop-one-preserved c =
    let nodes = c.args.nodes.now in
    let slots = c.args.slots.now in
    let saved = c.args.saved.now in
    let n = c.loop-one.one-index in
    let s = get_or saved n (record { at = 0; slot = record { link = 0; shape = 0; rank = 0; height = 0 } }) in
    let inv = c.loop-one.invariant in
    let lt : n < length saved = c.loop-one-test.true in
    let at = λ (d : Saved). get_or_default saved n d (record { at = 0; slot = record { link = 0; shape = 0; rank = 0; height = 0 } }) lt in
    elim c.if-is_strained.branch [
      | then-is_strained+in_ok-push w ↦
          let e : c.if-is_strained.found.items ≡ c.loop-one.found.items ++ s.at ∷ [] = ap (λ (v : Vec ℕ Global). v.items) w.found-is ∙ w.in_ok-push.ensures.items in
          let k = c.requires.places n (record { at = 0; slot = record { link = 0; shape = 0; rank = 0; height = 0 } }) lt in
          record {
            roots = subst (λ (l : List ℕ). AreRoots slots l) (sym e) (roots_more slots c.loop-one.found.items s.at inv.roots (k, c.is_strained.ensures.root w.if-is_strained.true));
            all = subst (λ (l : List ℕ). AllSeen nodes slots saved l (n + 1)) (sym e)
                (seen_more nodes slots saved c.loop-one.found.items (c.loop-one.found.items ++ s.at ∷ []) n s lt at inv.all (on_more c.loop-one.found.items s.at) (λ _. inr (on_last c.loop-one.found.items s.at)));
          }
      | else-is_strained w ↦
          let e : c.if-is_strained.found.items ≡ c.loop-one.found.items = ap (λ (v : Vec ℕ Global). v.items) w.found-is in
          record {
            roots = subst (λ (l : List ℕ). AreRoots slots l) (sym e) inv.roots;
            all = subst (λ (l : List ℕ). AllSeen nodes slots saved l (n + 1)) (sym e)
                (seen_more nodes slots saved c.loop-one.found.items c.loop-one.found.items n s lt at inv.all (λ i p. p) (λ r. inl (c.is_strained.ensures.order w.if-is_strained.false r)));
          }
    ]

pub returns-clause-all : goal.returns-clause-all
returns-clause-all c i p r = c.loop-one.invariant.all p.0 i (let l = p.1 in omega arith) p.2 r
