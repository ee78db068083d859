-- Roots of classes.
use Rattle.std.proofs.Common.{ℕ, zero, suc, ◌+◌, ◌-◌, ◌≡◌, ◌≢◌, ◌<◌, ◌≤◌, List, length, refl, sym, ap, ◌∙◌, inl, inr, subst, arith, nat_eq, true, false, if◌then◌else◌}
use Rattle.std.proofs.lemmas.Bool.{cases_eq}
use Rattle.std.proofs.lemmas.Bool.Decides.{nat_tests}
use Rattle.term_classes.specs.Slots.{link_of, height_of, AreLinked, follow, root}
use Rattle.term_classes.specs.declared.node.Slot.{Slot}

pub is_same : (k n : ℕ) → k ≡ n → nat_eq k n ≡ true
is_same k n e = grind (arith, nat_tests)

pub is_other : (k n : ℕ) → k ≢ n → nat_eq k n ≡ false
is_other k n e = grind (arith, nat_tests)

follow_last : (slots : List Slot) (k i : ℕ) → link_of slots i ≡ i → follow slots k i ≡ i
follow_last slots zero i e = refl
follow_last slots (suc k) i e = ap (λ b. if b then i else follow slots k (link_of slots i)) (is_same (link_of slots i) i e)

follow_next : (slots : List Slot) (k i : ℕ) → link_of slots i ≢ i → follow slots (suc k) i ≡ follow slots k (link_of slots i)
follow_next slots k i e = ap (λ b. if b then i else follow slots k (link_of slots i)) (is_other (link_of slots i) i e)

module _ (slots : List Slot) (h : AreLinked slots) where
  enough : (k m i : ℕ) → i < length slots → 256 ≤ height_of slots i + k → 256 ≤ height_of slots i + m → follow slots k i ≡ follow slots m i
  enough zero m i lt p q = let b = h.bounded i lt in absurd (omega arith)
  enough (suc k) zero i lt p q = let b = h.bounded i lt in absurd (omega arith)
  enough (suc k) (suc m) i lt p q = elim (cases_eq (link_of slots i) i) [
    | inl same ↦ follow_last slots (suc k) i same ∙ sym (follow_last slots (suc m) i same)
    | inr other ↦
        let up = h.rise i lt other in
        follow_next slots k i other ∙ enough k m (link_of slots i) (h.within i lt) (omega arith) (omega arith) ∙ sym (follow_next slots m i other)
  ]

  pub root_next : (i : ℕ) → i < length slots → link_of slots i ≢ i → root slots i ≡ root slots (link_of slots i)
  unfolding root
  root_next i lt other =
      let up = h.rise i lt other in
      enough (256 - height_of slots i) (suc (256 - height_of slots i)) i lt (omega arith) (omega arith)
      ∙ follow_next slots (256 - height_of slots i) i other
      ∙ enough (256 - height_of slots i) (256 - height_of slots (link_of slots i)) (link_of slots i) (h.within i lt) (omega arith) (omega arith)

  ends : (k i : ℕ) → i < length slots → 256 ≤ height_of slots i + k → (follow slots k i < length slots) × (link_of slots (follow slots k i) ≡ follow slots k i)
  ends zero i lt p = let b = h.bounded i lt in absurd (omega arith)
  ends (suc k) i lt p = elim (cases_eq (link_of slots i) i) [
    | inl same ↦
        let e = follow_last slots (suc k) i same in
        subst (λ r. (r < length slots) × (link_of slots r ≡ r)) (sym e) (lt, same)
    | inr other ↦
        let up = h.rise i lt other in
        subst (λ r. (r < length slots) × (link_of slots r ≡ r)) (sym (follow_next slots k i other)) (ends k (link_of slots i) (h.within i lt) (omega arith))
  ]

  pub root_within : (i : ℕ) → i < length slots → root slots i < length slots
  unfolding root
  root_within i lt = (ends (256 - height_of slots i) i lt (omega arith)).0

  pub root_ends : (i : ℕ) → i < length slots → link_of slots (root slots i) ≡ root slots i
  unfolding root
  root_ends i lt = (ends (256 - height_of slots i) i lt (omega arith)).1

pub root_last : (slots : List Slot) (i : ℕ) → link_of slots i ≡ i → root slots i ≡ i
unfolding root
root_last slots i e = follow_last slots (256 - height_of slots i) i e
