-- The table that is left of sorted names once each stands there only once.
use Rattle.std.proofs.Common.{◌≡◌, Bool, true, false, List, get_or, ◌+◌, sym, ◌∙◌, subst, refl}
use Rattle.std.specs.Prelude.{◌↔◌}
use Rattle.std.specs.Cmp.{IsEquivalence}
use Rattle.std.specs.List.{Contains, dedup}
use Rattle.std.specs.List.Sorted.{IsPermutation, IsSorted}
use Rattle.std.specs.Ordering.{is_lt, is_eq}
use Rattle.std.specs.declared.cmp.Ordering.{Ordering}
use Rattle.std.specs.declared.cmp.Ordering.TheVariants.{Less, Equal, Greater}
use Rattle.std.proofs.lemmas.Cmp.{eq_by_cmp_equiv}
use Rattle.std.proofs.lemmas.List.Kept.{IsStrictlySortedBy-dedup, Contains-dedup, Contains-from_dedup}
use Rattle.std.proofs.lemmas.List.Sorted.{Contains-permutation, IsPermutation-sym}
use Rattle.mk_base.specs.Order.{name_cmp}
use Rattle.mk_base.specs.declared.name.Name.{Name}
use Rattle.mk_base.specs.contracts.name.NameOrd.TheImpl as ord
use Rattle.mk_base.specs.contracts.name.NamePartialEq.TheImpl as peq
use Rattle.plain_scope.specs.Offered.{AreBefore}
use Rattle.plain_face.proofs.Names.{name_total, name_same, derived_cmp, derived_eq, before}

abbrev same : Name → Name → Bool
same a b = (peq.ghosts).eq a b

equal_from_test : (o : Ordering) → is_eq o ≡ true → o ≡ Equal
equal_from_test Equal e = refl
equal_from_test Less e = absurd (let h : ⊥ = cc in h)
equal_from_test Greater e = absurd (let h : ⊥ = cc in h)

same_is_exact : (a b : Name) → same a b ≡ true → a ≡ b
same_is_exact a b e = name_same a b (equal_from_test (name_cmp a b) (sym (derived_eq a b) ∙ e))

same_equiv : IsEquivalence same
same_equiv = subst IsEquivalence (λ i a b. sym (derived_eq a b) i) (eq_by_cmp_equiv name_total)

pub table_sorted : (xs ys : List Name) → IsSorted (ord.ghosts).cmp xs → ys ≡ dedup same xs → AreBefore (λ a b. name_cmp a b ≡ Less) ys
table_sorted xs ys s e = subst (AreBefore (λ a b. name_cmp a b ≡ Less)) (sym e)
    (before name_cmp (dedup same xs) (IsStrictlySortedBy-dedup name_total derived_eq xs (λ k d l h. subst (λ o. is_lt o ≡ false) (derived_cmp (get_or xs (k + 1) d) (get_or xs k d)) (s k d l h))))

pub table_whole : (ns xs ys : List Name) → IsPermutation ns xs → ys ≡ dedup same xs → (n : Name) → Contains ys n ↔ Contains ns n
table_whole ns xs ys p e n = (
  (λ h. Contains-permutation xs ns n (IsPermutation-sym ns xs p) (Contains-from_dedup same xs n (subst (λ zs. Contains zs n) e h))),
  (λ h. subst (λ zs. Contains zs n) (sym e) (Contains-dedup same_equiv same_is_exact xs n (Contains-permutation ns xs n p h))),
)
