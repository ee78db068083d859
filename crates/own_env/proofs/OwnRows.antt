-- The rows of one face's tables.
use Rattle.std.proofs.Common.{◌≡◌, ℕ, ◌+◌, suc, Bool, true, false, List, [], ◌∷◌, ◌++◌, Option, Some, None, length, cond, refl, ap, sym, ◌∙◌, subst, append_assoc, append-nil, arith}
use Rattle.std.specs.Prelude.{filter, slice_get}
use Rattle.std.specs.List.{AllByRecursion}
use Rattle.std.specs.Option.{option_and_then, option_to_list}
use Rattle.mk_base.specs.declared.name.Name.{Name}
use Rattle.mk_base.specs.declared.name.ModName.{ModName}
use Rattle.face_model.specs.declared.decl.Decl.{Decl}
use Rattle.face_model.specs.declared.inst.Inst.{Inst}
use Rattle.face_model.specs.Environments.{same_name, is_inst}
use Rattle.face_envs.specs.declared.tables.InstPlace.{InstPlace}
use Rattle.face_envs.specs.Tables.{is_later, decls_from, insts_from, module_at, put_behind, put_all}
use Rattle.face_envs.proofs.Sorting.{by_cases, itself}
use Rattle.face_envs.proofs.Lookups.{Fits, fits_here, fits_next, fits_whole}
use Rattle.own_env.specs.Own.{decl_of, at_row}

module _ (n : Name) (all : List Decl) where
  abbrev pub at_place : ℕ × ℕ → Option Decl
  at_place q = slice_get all q.1

  first_from : (d : ℕ) (ds : List Decl) → Fits all d ds → option_and_then at_place (slice_get (decls_from n 0 d ds) 0) ≡ decl_of n ds
  first_from d [] at = refl
  first_from d (x ∷ xs) at =
      let rest = decls_from n 0 (d + 1) xs in
      by_cases (same_name n x.name)
      (λ e. ap (λ b. option_and_then at_place (slice_get (cond b ((0, d) ∷ rest) rest) 0)) e
      ∙ (fits_here all d x xs at
      ∙ sym (ap (λ b. cond b (Some x) (decl_of n xs)) e)))
      (λ e. ap (λ b. option_and_then at_place (slice_get (cond b ((0, d) ∷ rest) rest) 0)) e
      ∙ (first_from (d + 1) xs (fits_next all d x xs at)
      ∙ sym (ap (λ b. cond b (Some x) (decl_of n xs)) e)))

  pub first_is : option_and_then at_place (slice_get (decls_from n 0 0 all) 0) ≡ decl_of n all
  first_is = first_from 0 all (fits_whole all)

-- one module's instances stand in their own order
behind_all : (m : ModName) (x : InstPlace) (ys : List InstPlace) → x.module ≡ m → AllByRecursion (λ (b : InstPlace). b.module ≡ m) ys → put_behind module_at x ys ≡ ys ++ x ∷ []
behind_all m x [] h a = refl
behind_all m x (y ∷ ys) h a =
    let e : is_later y.module x.module ≡ false = (λ i. is_later (a.0 i) (h i)) ∙ itself m in
    ap (λ b. cond b (x ∷ y ∷ ys) (y ∷ put_behind module_at x ys)) e ∙ ap (λ (zs : List InstPlace). y ∷ zs) (behind_all m x ys h a.1)

all_one_more : (m : ModName) (x : InstPlace) (ys : List InstPlace) → x.module ≡ m → AllByRecursion (λ (b : InstPlace). b.module ≡ m) ys → AllByRecursion (λ (b : InstPlace). b.module ≡ m) (ys ++ x ∷ [])
all_one_more m x [] h a = (h, tt)
all_one_more m x (y ∷ ys) h a = (a.0, all_one_more m x ys h a.1)

in_order : (m : ModName) (xs ys : List InstPlace) → AllByRecursion (λ (b : InstPlace). b.module ≡ m) xs → AllByRecursion (λ (b : InstPlace). b.module ≡ m) ys → put_all module_at xs ys ≡ ys ++ xs
in_order m [] ys h a = sym (append-nil ys)
in_order m (x ∷ xs) ys h a =
    ap (put_all module_at xs) (behind_all m x ys h.0 a)
    ∙ (in_order m xs (ys ++ x ∷ []) h.1 (all_one_more m x ys h.0 a)
    ∙ append_assoc ys (x ∷ []) xs)

module _ (class head : Name) (m : ModName) where
  abbrev place_at : ℕ → InstPlace
  place_at i = record { «module» = m; face = 0; place = i }

  all_from : (i : ℕ) (xs : List Inst) → AllByRecursion (λ (b : InstPlace). b.module ≡ m) (insts_from class head m 0 i xs)
  all_from i [] = tt
  all_from i (x ∷ xs) =
      let rest = insts_from class head m 0 (i + 1) xs in
      by_cases (is_inst class head x)
      (λ e. subst (AllByRecursion (λ (b : InstPlace). b.module ≡ m)) (sym (ap (λ c. cond c (place_at i ∷ rest) rest) e)) (refl, all_from (i + 1) xs))
      (λ e. subst (AllByRecursion (λ (b : InstPlace). b.module ≡ m)) (sym (ap (λ c. cond c (place_at i ∷ rest) rest) e)) (all_from (i + 1) xs))

  abbrev row_in : List Inst → List InstPlace
  row_in is = put_all module_at (insts_from class head m 0 0 is) []

  row_is : (is : List Inst) → row_in is ≡ insts_from class head m 0 0 is
  row_is is = in_order m (insts_from class head m 0 0 is) [] (all_from 0 is) tt

  found_from : (all : List Inst) (i : ℕ) (xs : List Inst) → Fits all i xs → at_row all (insts_from class head m 0 i xs) ≡ filter (is_inst class head) xs
  found_from all i [] at = refl
  found_from all i (x ∷ xs) at =
      let rest = insts_from class head m 0 (i + 1) xs in
      let more = filter (is_inst class head) xs in
      let on : at_row all rest ≡ more = found_from all (i + 1) xs (fits_next all i x xs at) in
      by_cases (is_inst class head x)
      (λ e. ap (λ c. at_row all (cond c (place_at i ∷ rest) rest)) e
      ∙ (ap (λ o. option_to_list o ++ at_row all rest) (fits_here all i x xs at)
      ∙ (ap (λ (zs : List Inst). x ∷ zs) on
      ∙ sym (ap (λ c. cond c (x ∷ more) more) e))))
      (λ e. ap (λ c. at_row all (cond c (place_at i ∷ rest) rest)) e ∙ (on ∙ sym (ap (λ c. cond c (x ∷ more) more) e)))

  pub found_in : (is : List Inst) → at_row is (row_in is) ≡ filter (is_inst class head) is
  found_in is = ap (at_row is) (row_is is) ∙ found_from is 0 is (fits_whole is)

  count_from : (i : ℕ) (xs : List Inst) → length (insts_from class head m 0 i xs) ≡ length (filter (is_inst class head) xs)
  count_from i [] = refl
  count_from i (x ∷ xs) =
      let rest = insts_from class head m 0 (i + 1) xs in
      let more = filter (is_inst class head) xs in
      by_cases (is_inst class head x)
      (λ e. ap (λ c. length (cond c (place_at i ∷ rest) rest)) e ∙ (ap (λ n. suc n) (count_from (i + 1) xs) ∙ sym (ap (λ c. length (cond c (x ∷ more) more)) e)))
      (λ e. ap (λ c. length (cond c (place_at i ∷ rest) rest)) e ∙ (count_from (i + 1) xs ∙ sym (ap (λ c. length (cond c (x ∷ more) more)) e)))

  pub count_in : (is : List Inst) → length (row_in is) ≡ length (filter (is_inst class head) is)
  count_in is = ap length (row_is is) ∙ count_from 0 is
