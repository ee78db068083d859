-- Ranks of some classes lowered.
use Rattle.std.proofs.Common.{ℕ, zero, suc, ◌≡◌, ◌≤◌, List, length, refl, sym, ap, ◌∙◌, inl, inr, subst, arith, min}
use Rattle.std.proofs.lemmas.Bool.{cases_eq}
use Rattle.term_classes.specs.declared.node.Slot.{Slot}
use Rattle.term_classes.specs.declared.node.Saved.{Saved}
use Rattle.term_classes.specs.declared.node.Pair.{Pair}
use Rattle.term_classes.specs.declared.node.Node.{Node}
use Rattle.term_classes.specs.declared.node.Node.TheVariants.{Free, Rigid, Con, App}
use Rattle.term_classes.specs.Slots.{link_of, shape_of, rank_of}
use Rattle.term_classes.specs.Undo.{IsPlace, Kept}
use Rattle.term_classes.specs.Fits.{node_at, Sound, own, roots}
use Rattle.term_classes.specs.Meets.{United}
use Rattle.term_classes.specs.Settle.{Reranked}
use Rattle.term_classes.specs.Ceilings.{ceiling_of, PartsCapped}
use Rattle.term_classes.specs.Press.{Pressed}
use Rattle.term_classes.proofs.Rerank.{root_alike, sound_new, fits_old, fits_new, ordered_still}

pub pressed_same : (nodes : List Node) (slots : List Slot) (saved : List Saved) → Sound nodes slots → Pressed nodes slots slots saved saved
pressed_same nodes slots saved h = record {
  sound = h;
  fits = λ q. ((λ f. f), (λ f. f));
  order = λ o. o;
  capped = λ c u. u;
  same = record { len = refl; link = λ i. refl; height = λ i. refl };
  shape = λ i. refl;
}

pub pressed_on : (nodes : List Node) (a b c : List Slot) (xs ys zs : List Saved) → Pressed nodes a b xs ys → Pressed nodes b c ys zs → Pressed nodes a c xs zs
pressed_on nodes a b c xs ys zs p q = record {
  sound = q.sound;
  fits = λ t. ((λ f. (p.fits t).0 ((q.fits t).0 f)), (λ f. (q.fits t).1 ((p.fits t).1 f)));
  order = λ o. q.order (p.order o);
  capped = λ k u. q.capped k (p.capped k u);
  same = record { len = q.same.len ∙ p.same.len; link = λ i. q.same.link i ∙ p.same.link i; height = λ i. q.same.height i ∙ p.same.height i };
  shape = λ i. q.shape i ∙ p.shape i;
}

module _ (nodes : List Node) (old new : List Slot) (before after : List Saved) (at r : ℕ) (h : Sound nodes old) (j : Reranked old new at r) (le : r ≤ rank_of old at)
    (more : (i : ℕ) → IsPlace before i → IsPlace after i) (place : IsPlace after at) where
  caps : (n : Node) (ceilings : List ℕ) (k : ℕ) → PartsCapped n old ceilings k → PartsCapped n new ceilings k
  caps (Free w) ceilings k c = tt
  caps (Rigid w) ceilings k c = tt
  caps (Con x) ceilings k c = tt
  caps (App f a) ceilings k c =
      let x = ap (ceiling_of ceilings) (root_alike nodes old new at r j h le f) in
      let y = ap (ceiling_of ceilings) (root_alike nodes old new at r j h le a) in
      let u = c.0 in
      let v = c.1 in
      (omega arith, omega arith)

  pub pressed_one : Pressed nodes old new before after
  pressed_one = record {
    sound = sound_new nodes old new at r j h le;
    fits = λ q. (fits_old nodes old new at r j h le q, fits_new nodes old new at r j h le q);
    order = λ o i l e. elim (cases_eq i at) [
      | inl k ↦ inr (subst (λ z. IsPlace after z) (sym k) place)
      | inr k ↦ elim (o i (let n = j.len in omega arith) (sym (j.link i) ∙ e)) [
        | inl g ↦ inl (ordered_still nodes old new at r j h le i k g)
        | inr g ↦ inr (more i g)
      ]
    ];
    capped = λ c u i l e. elim (cases_eq i at) [
      | inl k ↦ inr (subst (λ z. IsPlace after z) (sym k) place)
      | inr k ↦ elim (u i (let n = j.len in omega arith) (sym (j.link i) ∙ e)) [
        | inl g ↦ inl (subst (λ z. PartsCapped (node_at nodes z) new c (rank_of new i)) (sym (j.shape i))
            (subst (λ z. PartsCapped (node_at nodes (shape_of old i)) new c z) (sym (j.other i k)) (caps (node_at nodes (shape_of old i)) c (rank_of old i) g)))
        | inr g ↦ inr (more i g)
      ]
    ];
    same = record { len = j.len; link = j.link; height = j.height };
    shape = j.shape;
  }

pub pressed_rank : (nodes : List Node) (old new : List Slot) (before after : List Saved) (at most : ℕ) → Sound nodes old → Reranked old new at (min (rank_of old at) most) → Kept old new before after → IsPlace after at → Pressed nodes old new before after
pressed_rank nodes old new before after at most h j k place = pressed_one nodes old new before after at (min (rank_of old at) most) h j (omega arith) k.more place

roots_alike : (old new : List Slot) → ((i : ℕ) → link_of new i ≡ link_of old i) → (n : ℕ) → roots new n ≡ roots old n
roots_alike old new e zero = refl
roots_alike old new e (suc n) = let a = ap (λ z. own z n) (e n) in let b = roots_alike old new e n in omega arith

-- two classes made one after ranks were lowered
pub pressed_united : (nodes : List Node) (old mid new : List Slot) (ceilings lower : List ℕ) (before between after : List Saved) (todo later : List Pair) (x y : ℕ)
    → Pressed nodes old mid before between → United nodes mid new ceilings lower between after todo later x y → United nodes old new ceilings lower before after todo later x y
pressed_united nodes old mid new ceilings lower before between after todo later x y p u = record {
  sound = u.sound;
  within = u.within;
  fits = λ q. (
    (λ z. let r = (u.fits q).0 z in ((p.fits q).0 r.0, r.1, r.2)),
    (λ (f, e, s). (u.fits q).1 ((p.fits q).1 f, e, s)),
  );
  order = λ o c. u.order (p.order o) (p.capped ceilings c);
  capped = λ c. u.capped (p.capped ceilings c);
  lowered = u.lowered;
  fewer =
      let a = u.fewer in
      let b = roots_alike old mid p.same.link (length old) in
      let c = ap (roots mid) p.same.len in
      omega arith;
}
