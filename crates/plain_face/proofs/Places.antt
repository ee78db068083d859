-- Where a name stands in a table in strict order.
use Rattle.std.proofs.Common.{◌≡◌, ℕ, ◌+◌, ◌<◌, Bool, true, false, List, length, get_or, sym, ◌∙◌, ap, subst, refl, arith, ⊎_elim}
use Rattle.std.specs.List.{HoldsAt}
use Rattle.std.specs.List.Sorted.{IsSorted, IsNonDecreasingBy, IsPartitionPoint}
use Rattle.std.specs.Ordering.{is_lt, ordering_index, ordering_reverse}
use Rattle.std.specs.declared.cmp.Ordering.{Ordering}
use Rattle.std.specs.declared.cmp.Ordering.TheVariants.{Less, Equal, Greater}
use Rattle.std.proofs.lemmas.Bool.{cases_lt}
use Rattle.std.proofs.lemmas.Cmp.{tied_itself}
use Rattle.std.proofs.lemmas.List.Sums.{position_or_len_is}
use Rattle.std.proofs.lemmas.List.Sorted.{searchable_from_sorted}
use Rattle.std.proofs.lemmas.Map.Keys.{Less-from_sorted}
use Rattle.mk_base.specs.Order.{name_cmp}
use Rattle.mk_base.specs.declared.name.Name.{Name}
use Rattle.mk_base.specs.contracts.name.NameOrd.TheImpl as ord
use Rattle.plain_scope.specs.Scope.{same_entity}
use Rattle.plain_scope.specs.Offered.{AreBefore}
use Rattle.plain_face.specs.Interface.{place}
use Rattle.plain_face.proofs.Names.{name_total, name_same, entity_same, entity_itself, derived_cmp, strict}

not_true : (b : Bool) → (b ≡ true → ⊥) → b ≡ false
not_true false n = refl
not_true true n = absurd (n refl)

not_less : (n : Name) → name_cmp n n ≡ Less → ⊥
not_less n e = let q : name_cmp n n ≡ Equal = tied_itself name_total n in let h : ⊥ = cc in h

not_greater : (n : Name) → name_cmp n n ≡ Greater → ⊥
not_greater n e = let q : name_cmp n n ≡ Equal = tied_itself name_total n in let h : ⊥ = cc in h

module _ (names : List Name) (n : Name) (s : AreBefore (λ a b. name_cmp a b ≡ Less) names) where
  pub place_found : (i : ℕ) → i < length names → HoldsAt (λ y. (ord.ghosts).cmp y n ≡ Equal) names i → i ≡ place names n
  place_found i l h =
      let e : get_or names i n ≡ n = name_same (get_or names i n) n (sym (derived_cmp (get_or names i n) n) ∙ h n) in
      sym (position_or_len_is (same_entity n) names i n (omega arith)
      (λ k j. not_true (same_entity n (get_or names k n)) (λ t.
      let q : get_or names k n ≡ n = sym (entity_same n (get_or names k n) t) in
      let less : name_cmp (get_or names k n) (get_or names i n) ≡ Less = Less-from_sorted name_cmp names k i n (strict name_cmp names s) j l in
      not_less n (subst (λ a. name_cmp a n ≡ Less) q (subst (λ b. name_cmp (get_or names k n) b ≡ Less) e less))))
      (λ j. subst (λ a. same_entity n a ≡ true) (sym e) (entity_itself n)))

  sorted : IsSorted name_cmp names
  sorted k d l h =
      let less : name_cmp (get_or names k d) (get_or names (k + 1) d) ≡ Less = Less-from_sorted name_cmp names k (k + 1) d (strict name_cmp names s) (omega arith) h in
      ap is_lt (name_total.antisymm (get_or names (k + 1) d) (get_or names k d) ∙ ap ordering_reverse less)

  abbrev Told : (Name → Name → Ordering) → ℕ → Type 0
  Told R i = IsNonDecreasingBy (λ y. ordering_index (R y n)) names → IsPartitionPoint (λ y. R y n ≡ Less) (λ y. R y n ≡ Greater) names i

  pub place_missing : (i : ℕ) → Told (ord.ghosts).cmp i → length names ≡ place names n
  place_missing i told =
      let point = subst (λ R. Told R i) (λ j a b. derived_cmp a b j) told (searchable_from_sorted name_total (λ (a : Name). a) names n sorted) in
      sym (position_or_len_is (same_entity n) names (length names) n (omega arith)
      (λ k j. not_true (same_entity n (get_or names k n)) (λ t.
      let q : get_or names k n ≡ n = sym (entity_same n (get_or names k n) t) in
      ⊎_elim (λ l. not_less n (subst (λ a. name_cmp a n ≡ Less) q (point.0 k n (omega arith) l)))
      (λ l. not_greater n (subst (λ a. name_cmp a n ≡ Greater) q (point.1 k n l j))) (cases_lt k i)))
      (λ l. absurd (omega arith)))
