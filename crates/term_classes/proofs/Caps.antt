-- Ceilings that go down, and what they stay above.
use Rattle.std.proofs.Common.{ℕ, zero, suc, ◌+◌, ◌-◌, ◌≡◌, ◌≢◌, ◌⊎◌, ◌<◌, ◌≤◌, List, [], ◌∷◌, length, get_or, refl, sym, ap, ◌∙◌, inl, inr, subst, arith, slice_set}
use Rattle.std.proofs.lemmas.Bool.{cases_eq, cases_lt}
use Rattle.std.proofs.lemmas.List.{get_or-set_same, get_or-set_other, length-set}
use Rattle.term_classes.specs.declared.node.Slot.{Slot}
use Rattle.term_classes.specs.declared.node.Saved.{Saved}
use Rattle.term_classes.specs.declared.node.Node.{Node}
use Rattle.term_classes.specs.declared.node.Node.TheVariants.{Free, Rigid, Con, App}
use Rattle.term_classes.specs.Slots.{slot_at, link_of, shape_of, rank_of, height_of, follow, root}
use Rattle.term_classes.specs.Undo.{IsPlace, Kept, rewound}
use Rattle.term_classes.specs.Fits.{node_at}
use Rattle.term_classes.specs.Ceilings.{ceiling_of, PartsCapped, IsCapped, AreCapped, CappedBut, Lowered, BothLow, IsFit, SameClasses}
use Rattle.term_classes.proofs.Rerank.{follow_alike}

pub lowered_same : (a : List ℕ) → Lowered a a
lowered_same a = record { len = refl; down = λ i. omega arith }

pub lowered_on : (a b c : List ℕ) → Lowered a b → Lowered b c → Lowered a c
lowered_on a b c p q = record { len = q.len ∙ p.len; down = λ i. let x = p.down i in let y = q.down i in omega arith }

pub lowered_set : (a : List ℕ) (at v : ℕ) → at < length a → v ≤ ceiling_of a at → Lowered a (slice_set a at v)
lowered_set a at v l le = record {
  len = length-set a at v;
  down = λ i. elim (cases_eq i at) [
    | inl e ↦ let x : ceiling_of (slice_set a at v) i ≡ v = ap (ceiling_of (slice_set a at v)) e ∙ get_or-set_same a at v 0 l in let y = ap (ceiling_of a) e in omega arith
    | inr e ↦ let x : ceiling_of (slice_set a at v) i ≡ ceiling_of a i = get_or-set_other a at i v 0 e in omega arith
  ];
}

-- two classes get the lower of their ceilings
pub both_low : (a b c : List ℕ) (x y m : ℕ) → m ≤ ceiling_of a x → m ≤ ceiling_of a y → Lowered a b → ceiling_of b x ≤ m → Lowered b c → ceiling_of c y ≤ m → BothLow a c x y
both_low a b c x y m mx my p ux q uy = record {
  lowered = lowered_on a b c p q;
  first = let z = q.down x in (omega arith, omega arith);
  second = (omega arith, omega arith);
}

pub parts_still : (n : Node) (slots : List Slot) (a b : List ℕ) (k : ℕ) → Lowered a b → PartsCapped n slots a k → PartsCapped n slots b k
parts_still (Free w) slots a b k p c = tt
parts_still (Rigid w) slots a b k p c = tt
parts_still (Con x) slots a b k p c = tt
parts_still (App f x) slots a b k p c =
    let u = c.0 in
    let v = c.1 in
    let y = p.down (root slots f) in
    let z = p.down (root slots x) in
    (omega arith, omega arith)

pub capped_still : (nodes : List Node) (slots : List Slot) (a b : List ℕ) → Lowered a b → AreCapped nodes slots a → AreCapped nodes slots b
capped_still nodes slots a b p h i l e = parts_still (node_at nodes (shape_of slots i)) slots a b (rank_of slots i) p (h i l e)

pub but_still : (nodes : List Node) (slots : List Slot) (a b : List ℕ) (saved : List Saved) → Lowered a b → CappedBut nodes slots a saved → CappedBut nodes slots b saved
but_still nodes slots a b saved p h i l e = elim (h i l e) [ inl c ↦ inl (parts_still (node_at nodes (shape_of slots i)) slots a b (rank_of slots i) p c) | inr c ↦ inr c ]

-- a rank is fit that is no higher than both ranks, or below both ceilings
pub fit_rank : (slots : List Slot) (ceilings : List ℕ) (x y low ceiling r : ℕ) → low ≤ rank_of slots x → low ≤ rank_of slots y → ceiling ≤ ceiling_of ceilings x → ceiling ≤ ceiling_of ceilings y → (r ≤ low) ⊎ (r < ceiling) → IsFit slots ceilings x y r
fit_rank slots ceilings x y low ceiling r a b c d e k p = elim e [
  | inl u ↦ elim p [ inl q ↦ let z = q.0 in omega arith | inr q ↦ let z = q.0 in omega arith ]
  | inr u ↦ elim p [ inl q ↦ let z = q.1 in omega arith | inr q ↦ let z = q.1 in omega arith ]
]

neither : (s : Saved) (saved : List Saved) (i : ℕ) → s.at ≢ i → (IsPlace saved i → ⊥) → (k : ℕ) → k < length (s ∷ saved) → ((d : Saved) → (get_or (s ∷ saved) k d).at ≡ i) → ⊥
neither s saved i e p zero l h = e (h s)
neither s saved i e p (suc k) l h = p (k, omega arith, h)

-- what wasn't saved wasn't written
pub place_or_not : (saved : List Saved) (i : ℕ) → IsPlace saved i ⊎ (IsPlace saved i → ⊥)
place_or_not [] i = inr (λ p. let l = p.1 in omega arith)
place_or_not (s ∷ saved) i = elim (cases_eq s.at i) [
  | inl e ↦ inl (0, omega arith, λ d. e)
  | inr e ↦ elim (place_or_not saved i) [
    | inl p ↦ inl (suc p.0, (let l = p.1 in omega arith), p.2)
    | inr p ↦ inr (λ q. neither s saved i e p q.0 q.1 q.2)
  ]
]

rewound_other : (saved : List Saved) (slots : List Slot) (i : ℕ) → (IsPlace saved i → ⊥) → slot_at (rewound saved slots) i ≡ slot_at slots i
rewound_other [] slots i p = refl
rewound_other (s ∷ saved) slots i p =
    get_or-set_other (rewound saved slots) s.at i s.slot (record { link = 0; shape = 0; rank = 0; height = 0 }) (λ e. p (0, omega arith, λ d. sym e))
    ∙ rewound_other saved slots i (λ q. p (suc q.0, (let l = q.1 in omega arith), q.2))

pub unwritten : (old new : List Slot) (before after : List Saved) (i : ℕ) → Kept old new before after → (IsPlace after i → ⊥) → slot_at new i ≡ slot_at old i
unwritten old new before after i k p = sym (rewound_other after new i p) ∙ ap (λ s. slot_at s i) k.undo ∙ rewound_other before old i (λ q. p (k.more i q))

pub root_same : (old new : List Slot) → SameClasses old new → (i : ℕ) → root new i ≡ root old i
unfolding root
root_same old new s i = ap (λ z. follow new (256 - z) i) (s.height i) ∙ follow_alike old new s.link (256 - height_of old i) i

parts_same : (n : Node) (old new : List Slot) (ceilings : List ℕ) (k : ℕ) → SameClasses old new → PartsCapped n old ceilings k → PartsCapped n new ceilings k
parts_same (Free w) old new ceilings k s c = tt
parts_same (Rigid w) old new ceilings k s c = tt
parts_same (Con x) old new ceilings k s c = tt
parts_same (App f a) old new ceilings k s c =
    let x = ap (ceiling_of ceilings) (root_same old new s f) in
    let y = ap (ceiling_of ceilings) (root_same old new s a) in
    let u = c.0 in
    let v = c.1 in
    (omega arith, omega arith)

-- the classes that were walked are capped at the end, and the others are as they were
pub capped_all : (nodes : List Node) (old new : List Slot) (before after : List Saved) (a b : List ℕ) → CappedBut nodes old a before → Kept old new before after → SameClasses old new → Lowered a b
    → ((i : ℕ) → IsPlace after i → link_of new i ≡ i → IsCapped nodes new b i) → AreCapped nodes new b
capped_all nodes old new before after a b h k s d c i l e = elim (place_or_not after i) [
  | inl p ↦ c i p e
  | inr p ↦ elim (h i (let n = s.len in omega arith) (sym (s.link i) ∙ e)) [
    | inl g ↦
        let w = unwritten old new before after i k p in
        let n = node_at nodes (shape_of old i) in
        subst (λ z. PartsCapped (node_at nodes z) new b (rank_of new i)) (sym (ap (λ (x : Slot). x.shape) w))
        (subst (λ z. PartsCapped n new b z) (sym (ap (λ (x : Slot). x.rank) w))
        (parts_still n new a b (rank_of old i) d (parts_same n old new a (rank_of old i) s g)))
    | inr g ↦ absurd (p (k.more i g))
  ]
]

abbrev pub AllCapped : List Node → List Slot → List ℕ → List Saved → ℕ → Type 0
AllCapped nodes slots ceilings saved n = (k i : ℕ) → k < n → ((d : Saved) → (get_or saved k d).at ≡ i) → link_of slots i ≡ i → IsCapped nodes slots ceilings i

pub all_capped : (nodes : List Node) (slots : List Slot) (a b : List ℕ) (saved : List Saved) (n : ℕ) (s : Saved) → ((d : Saved) → get_or saved n d ≡ s) → Lowered a b → AllCapped nodes slots a saved n
    → (link_of slots s.at ≡ s.at → IsCapped nodes slots b s.at) → AllCapped nodes slots b saved (n + 1)
all_capped nodes slots a b saved n s at p h here k i lk e r = elim (cases_lt k n) [
  | inl l ↦ parts_still (node_at nodes (shape_of slots i)) slots a b (rank_of slots i) p (h k i l e r)
  | inr l ↦
      let k' : k ≡ n = omega arith in
      let same : s.at ≡ i = ap (λ (z : Saved). z.at) (sym (at s)) ∙ ap (λ z. (get_or saved z s).at) (sym k') ∙ e s in
      subst (λ z. IsCapped nodes slots b z) same (here (subst (λ z. link_of slots z ≡ z) (sym same) r))
]
