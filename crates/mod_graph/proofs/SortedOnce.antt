-- Diagnostics that are sorted, and of which those alike are dropped, are in order.
use Rattle.std.proofs.Common.{◌≡◌, ◌∙◌, Bool, true, List, [], ◌∷◌, ap, sym, refl, subst}
use Rattle.std.specs.Cmp.{IsEquivalence}
use Rattle.std.specs.List.{dedup}
use Rattle.std.specs.List.Sorted.{IsPermutation, IsSorted, IsStrictlySortedBy}
use Rattle.std.specs.Ordering.{eq_by_cmp, is_eq}
use Rattle.std.specs.declared.cmp.Ordering.{Ordering}
use Rattle.std.specs.declared.cmp.Ordering.TheVariants.{Less, Equal, Greater}
use Rattle.std.proofs.lemmas.Cmp.{eq_by_cmp_equiv, tied_itself}
use Rattle.std.proofs.lemmas.List.Kept.{Contains-dedup, Contains-from_dedup, IsStrictlySortedBy-dedup}
use Rattle.std.proofs.lemmas.List.Sorted.{Contains-permutation, IsPermutation-sym}
use Rattle.mk_base.specs.Order.{diag_cmp}
use Rattle.mk_base.specs.declared.diag.Diag.{Diag}
use Rattle.mod_graph.specs.Errors.{in_order}
use Rattle.mk_base.specs.Order.{AreInOrder}
use Rattle.mod_graph.proofs.InOrder.{diag_total, same_diag, in_order_rises, in_order_keeps, in_order_makes_none, one_in_order}
use Rattle.numbered_nodes.proofs.Below.{same_tests}

strictly_in_order : (ds : List Diag) → IsStrictlySortedBy diag_cmp ds → AreInOrder ds
unfolding IsStrictlySortedBy
strictly_in_order [] h = tt
strictly_in_order (d ∷ ds) h = (h.0, strictly_in_order ds h.1)

only_equal : (o : Ordering) → is_eq o ≡ true → o ≡ Equal
only_equal Less e = absurd (let h : ⊥ = cc in h)
only_equal Equal e = refl
only_equal Greater e = absurd (let h : ⊥ = cc in h)

module _ (same : Diag → Diag → Bool) (tells : (c d : Diag) → same c d ≡ true → c ≡ d) (itself : (d : Diag) → same d d ≡ true) where
  ties : (c d : Diag) → same c d ≡ eq_by_cmp diag_cmp c d
  ties c d =
      same_tests (same c d) (eq_by_cmp diag_cmp c d)
      (λ e. subst (λ x. eq_by_cmp diag_cmp c x ≡ true) (tells c d e) (ap is_eq (tied_itself diag_total c)))
      (λ e. subst (λ x. same c x ≡ true) (same_diag c d (only_equal (diag_cmp c d) e)) (itself c))

  equivalence : IsEquivalence same
  equivalence = subst IsEquivalence (sym (λ j c d. ties c d j)) (eq_by_cmp_equiv diag_total)

  -- sorting diagnostics and dropping those that are alike puts them in order
  pub sorted_once : (old sorted new : List Diag) → IsPermutation old sorted → IsSorted diag_cmp sorted → new ≡ dedup same sorted → new ≡ in_order old
  sorted_once old sorted new moved rises is =
      is ∙ one_in_order (dedup same sorted) (in_order old) (strictly_in_order (dedup same sorted) (IsStrictlySortedBy-dedup diag_total ties sorted rises)) (in_order_rises old)
      (λ d h. in_order_keeps old d (Contains-permutation sorted old d (IsPermutation-sym old sorted moved) (Contains-from_dedup same sorted d h)))
      (λ d h. Contains-dedup equivalence tells sorted d (Contains-permutation old sorted d moved (in_order_makes_none old d h)))
