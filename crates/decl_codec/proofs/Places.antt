-- What the derives say of names, and where a name stands in a table where they rise.
use Rattle.std.proofs.Common.{◌≡◌, ℕ, ◌+◌, ◌<◌, Bool, true, false, List, length, get_or, sym, ◌∙◌, ap, subst, refl, arith, ⊎_elim}
use Rattle.std.specs.Prelude.{nat_eq, ◌&&◌}
use Rattle.std.specs.Cmp.Lexicographic.{pointwise, texts_ties}
use Rattle.std.specs.List.{HoldsAt}
use Rattle.std.specs.List.Sorted.{IsSorted, IsNonDecreasingBy, IsPartitionPoint}
use Rattle.std.specs.Ordering.{is_eq, is_lt, eq_by_cmp, ordering_then, ordering_index, ordering_reverse}
use Rattle.std.specs.declared.cmp.Ordering.{Ordering}
use Rattle.std.specs.declared.cmp.Ordering.TheVariants.{Less, Equal, Greater}
use Rattle.std.proofs.lemmas.Bool.{cases_lt}
use Rattle.std.proofs.lemmas.Cmp.{tied_itself}
use Rattle.std.proofs.lemmas.List.Sums.{position_or_len_is}
use Rattle.std.proofs.lemmas.List.Sorted.{searchable_from_sorted}
use Rattle.std.proofs.lemmas.Map.Keys.{Less-from_sorted}
use Rattle.mk_base.specs.Order.{name_cmp, text_cmp}
use Rattle.mk_base.specs.declared.name.Name.{Name}
use Rattle.mk_base.specs.declared.name.Space.{Space}
use Rattle.mk_base.specs.declared.name.Space.TheVariants.{Var, Con, Ty}
use Rattle.mk_base.specs.contracts.name.NameOrd.TheImpl as ord
use Rattle.mk_base.specs.contracts.name.NamePartialEq.TheImpl as peq
use Rattle.decl_codec.specs.Names.{AreRising, place}
use Rattle.decl_codec.proofs.Names.{name_total, name_same, same_from_test, name_itself}

-- ---- what the derives say

abbrev entity : List ℕ → List ℕ → Space → List ℕ → Name
entity u m s t = record { unit = record { text = u }; «module» = record { text = m }; occ = record { space = s; text = t } }

equal_parts : (o p q r : Ordering) → is_eq (ordering_then o (ordering_then p (ordering_then q r))) ≡ (is_eq o && (is_eq p && (is_eq q && is_eq r)))
equal_parts Less p q r = refl
equal_parts Greater p q r = refl
equal_parts Equal Less q r = refl
equal_parts Equal Greater q r = refl
equal_parts Equal Equal Less r = refl
equal_parts Equal Equal Greater r = refl
equal_parts Equal Equal Equal r = refl

module _ (u v m n t w : List ℕ) where
  cmp_at : (s r : Space) → (ord.ghosts).cmp (entity u m s t) (entity v n r w) ≡ name_cmp (entity u m s t) (entity v n r w)
  cmp_at Var Var = refl
  cmp_at Var Con = refl
  cmp_at Var Ty = refl
  cmp_at Con Var = refl
  cmp_at Con Con = refl
  cmp_at Con Ty = refl
  cmp_at Ty Var = refl
  cmp_at Ty Con = refl
  cmp_at Ty Ty = refl

  eq_by_parts : (q : Ordering) → (pointwise nat_eq u v && (pointwise nat_eq m n && (is_eq q && pointwise nat_eq t w)))
      ≡ is_eq (ordering_then (text_cmp u v) (ordering_then (text_cmp m n) (ordering_then q (text_cmp t w))))
  eq_by_parts q = rw (texts_ties u v, texts_ties m n, texts_ties t w) (sym (equal_parts (text_cmp u v) (text_cmp m n) q (text_cmp t w)))

  eq_at : (s r : Space) → (peq.ghosts).eq (entity u m s t) (entity v n r w) ≡ eq_by_cmp name_cmp (entity u m s t) (entity v n r w)
  eq_at Var Var = eq_by_parts Equal
  eq_at Var Con = eq_by_parts Less
  eq_at Var Ty = eq_by_parts Less
  eq_at Con Var = eq_by_parts Greater
  eq_at Con Con = eq_by_parts Equal
  eq_at Con Ty = eq_by_parts Less
  eq_at Ty Var = eq_by_parts Greater
  eq_at Ty Con = eq_by_parts Greater
  eq_at Ty Ty = eq_by_parts Equal

pub derived_cmp : (a b : Name) → (ord.ghosts).cmp a b ≡ name_cmp a b
derived_cmp a b = cmp_at a.unit.text b.unit.text a.module.text b.module.text a.occ.text b.occ.text a.occ.space b.occ.space

pub derived_eq : (a b : Name) → (peq.ghosts).eq a b ≡ eq_by_cmp name_cmp a b
derived_eq a b = eq_at a.unit.text b.unit.text a.module.text b.module.text a.occ.text b.occ.text a.occ.space b.occ.space

-- ---- where a name stands

not_true : (b : Bool) → (b ≡ true → ⊥) → b ≡ false
not_true false n = refl
not_true true n = absurd (n refl)

not_less : (n : Name) → name_cmp n n ≡ Less → ⊥
not_less n e = let q : name_cmp n n ≡ Equal = tied_itself name_total n in let h : ⊥ = cc in h

not_greater : (n : Name) → name_cmp n n ≡ Greater → ⊥
not_greater n e = let q : name_cmp n n ≡ Equal = tied_itself name_total n in let h : ⊥ = cc in h

module _ (names : List Name) (n : Name) (s : AreRising names) where
  pub place_found : (i : ℕ) → i < length names → HoldsAt (λ y. (ord.ghosts).cmp y n ≡ Equal) names i → i ≡ place names n
  place_found i l h =
      let e : get_or names i n ≡ n = name_same (get_or names i n) n (sym (derived_cmp (get_or names i n) n) ∙ h n) in
      sym (position_or_len_is (λ m. is_eq (name_cmp n m)) names i n (omega arith)
      (λ k j. not_true (is_eq (name_cmp n (get_or names k n))) (λ t.
      let q : get_or names k n ≡ n = sym (same_from_test n (get_or names k n) t) in
      let less : name_cmp (get_or names k n) (get_or names i n) ≡ Less = Less-from_sorted name_cmp names k i n s j l in
      not_less n (subst (λ a. name_cmp a n ≡ Less) q (subst (λ b. name_cmp (get_or names k n) b ≡ Less) e less))))
      (λ j. subst (λ a. is_eq (name_cmp n a) ≡ true) (sym e) (name_itself n)))

  sorted : IsSorted name_cmp names
  sorted k d l h =
      let less : name_cmp (get_or names k d) (get_or names (k + 1) d) ≡ Less = Less-from_sorted name_cmp names k (k + 1) d s (omega arith) h in
      ap is_lt (name_total.antisymm (get_or names (k + 1) d) (get_or names k d) ∙ ap ordering_reverse less)

  abbrev pub Told : (Name → Name → Ordering) → ℕ → Type 0
  Told R i = IsNonDecreasingBy (λ y. ordering_index (R y n)) names → IsPartitionPoint (λ y. R y n ≡ Less) (λ y. R y n ≡ Greater) names i

  pub place_missing : (i : ℕ) → Told (ord.ghosts).cmp i → length names ≡ place names n
  place_missing i told =
      let point = subst (λ R. Told R i) (λ j a b. derived_cmp a b j) told (searchable_from_sorted name_total (λ (a : Name). a) names n sorted) in
      sym (position_or_len_is (λ m. is_eq (name_cmp n m)) names (length names) n (omega arith)
      (λ k j. not_true (is_eq (name_cmp n (get_or names k n))) (λ t.
      let q : get_or names k n ≡ n = sym (same_from_test n (get_or names k n) t) in
      ⊎_elim (λ l. not_less n (subst (λ a. name_cmp a n ≡ Less) q (point.0 k n (omega arith) l)))
      (λ l. not_greater n (subst (λ a. name_cmp a n ≡ Greater) q (point.1 k n l j))) (cases_lt k i)))
      (λ l. absurd (omega arith)))
