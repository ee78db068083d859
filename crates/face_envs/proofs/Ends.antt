-- One more face at the end of a list of faces.
use Rattle.std.proofs.Common.{◌≡◌, ℕ, ◌+◌, suc, zero, Bool, true, false, List, [], ◌∷◌, ◌++◌, Option, Some, None, length, map, take, drop, cond, refl, ap, sym, ◌∙◌, subst, append_assoc, append-nil, length-append, arith}
use Rattle.std.specs.Prelude.{not, filter, find, flat_map}
use Rattle.std.specs.List.{AllByRecursion}
use Rattle.std.specs.Option.{option_or}
use Rattle.std.proofs.lemmas.List.Elements.{filter-append}
use Rattle.std.proofs.lemmas.List.Concat.{flat_map-append}
use Rattle.mk_base.specs.declared.name.Name.{Name}
use Rattle.mk_base.specs.declared.name.ModName.{ModName}
use Rattle.mk_base.specs.Texts.{same_text}
use Rattle.face_model.specs.declared.inst.Inst.{Inst}
use Rattle.face_model.specs.Environments.{Known, Faces, Entry, same_name, with_prints, entries, first_entry, insts_in, is_behind, put, by_module, insts_of, insts_up_to}
use Rattle.face_envs.specs.Tables.{is_later, put_behind}
use Rattle.face_envs.proofs.Sorting.{by_cases, IsOrdered, all_later}
use Rattle.face_envs.proofs.Instances.{module_of, by_module_last, by_module_ordered}

pub find_append : {A : Type 0} (p : A → Bool) (xs ys : List A) → find p (xs ++ ys) ≡ option_or (find p xs) (find p ys)
find_append p [] ys = refl
find_append p (x ∷ xs) ys =
    by_cases (p x)
    (λ e. ap (λ b. cond b (Some x) (find p (xs ++ ys))) e ∙ sym (ap (λ b. option_or (cond b (Some x) (find p xs)) (find p ys)) e))
    (λ e. ap (λ b. cond b (Some x) (find p (xs ++ ys))) e ∙ (find_append p xs ys ∙ sym (ap (λ b. option_or (cond b (Some x) (find p xs)) (find p ys)) e)))

pub entry_last : (fs : Faces) (k : Known) (n : Name) → first_entry (fs ++ k ∷ []) n ≡ option_or (first_entry fs n) (first_entry (k ∷ []) n)
entry_last fs k n =
    ap (find (λ (e : Entry). same_name n e.0.name)) (flat_map-append (λ (j : Known). with_prints j.face.decls j.prints) fs (k ∷ []))
    ∙ find_append (λ (e : Entry). same_name n e.0.name) (entries fs) (entries (k ∷ []))

-- ---- instances

module _ (g : Known → List Inst) where
  abbrev count : List Known → ℕ
  count ys = length (flat_map g ys)

  swapped : (q : Known → Bool) (cj ck : Bool) (j k : Known) (xs zs : Faces) → count xs ≡ count (cond ck (k ∷ zs) zs) → count (cond cj (j ∷ xs) xs) ≡ count (cond ck (k ∷ cond cj (j ∷ zs) zs) (cond cj (j ∷ zs) zs))
  swapped q true true j k xs zs e =
      length-append (g j) (flat_map g xs)
      ∙ (ap (λ n. length (g j) + n) (e ∙ length-append (g k) (flat_map g zs))
      ∙ (let h : length (g j) + (length (g k) + count zs) ≡ length (g k) + (length (g j) + count zs) = omega arith in h)
      ∙ (ap (λ n. length (g k) + n) (sym (length-append (g j) (flat_map g zs))) ∙ sym (length-append (g k) (g j ++ flat_map g zs))))
  swapped q true false j k xs zs e = length-append (g j) (flat_map g xs) ∙ (ap (λ n. length (g j) + n) e ∙ sym (length-append (g j) (flat_map g zs)))
  swapped q false true j k xs zs e = e
  swapped q false false j k xs zs e = e

  count_put : (q : Known → Bool) (k : Known) (js : Faces) → count (filter q (put k js)) ≡ count (filter q (k ∷ js))
  count_put q k [] = refl
  count_put q k (j ∷ js) =
      by_cases (is_behind k (module_of j))
      (λ e. ap (λ b. count (filter q (cond b (j ∷ put k js) (k ∷ j ∷ js)))) e ∙ swapped q (q j) (q k) j k (filter q (put k js)) (filter q js) (count_put q k js))
      (λ e. ap (λ b. count (filter q (cond b (j ∷ put k js) (k ∷ j ∷ js)))) e)

  count_cons : (q : Known → Bool) (b : Bool) (k : Known) (xs zs : Faces) → count xs ≡ count zs → count (cond b (k ∷ xs) xs) ≡ count (cond b (k ∷ zs) zs)
  count_cons q true k xs zs e = length-append (g k) (flat_map g xs) ∙ (ap (λ n. length (g k) + n) e ∙ sym (length-append (g k) (flat_map g zs)))
  count_cons q false k xs zs e = e

  count_sorted : (q : Known → Bool) (fs : Faces) → count (filter q (by_module fs)) ≡ count (filter q fs)
  count_sorted q [] = refl
  count_sorted q (k ∷ fs) = count_put q k (by_module fs) ∙ count_cons q (q k) k (filter q (by_module fs)) (filter q fs) (count_sorted q fs)

  take_past : (s t : List Inst) (n : ℕ) → take (length s + n) (s ++ t) ≡ s ++ take n t
  take_past [] t n =
      let e : 0 + n ≡ n = omega arith in
      ap (λ i. take i t) e
  take_past (x ∷ s) t n =
      let e : suc (length s) + n ≡ suc (length s + n) = omega arith in
      ap (λ i. take i (x ∷ (s ++ t))) e ∙ ap (λ zs. x ∷ zs) (take_past s t n)

  drop_past : (s t : List Inst) (n : ℕ) → drop (length s + n) (s ++ t) ≡ drop n t
  drop_past [] t n =
      let e : 0 + n ≡ n = omega arith in
      ap (λ i. drop i t) e
  drop_past (x ∷ s) t n =
      let e : suc (length s) + n ≡ suc (length s + n) = omega arith in
      ap (λ i. drop i (x ∷ (s ++ t))) e ∙ drop_past s t n

  module _ (k : Known) where
    abbrev upto : Known → Bool
    upto y = not (is_later (module_of y) (module_of k))

    none_left : (zs : Faces) → AllByRecursion (λ (z : Known). is_later (module_of z) (module_of k) ≡ true) zs → filter upto zs ≡ []
    none_left [] a = refl
    none_left (z ∷ zs) a = ap (λ b. cond (not b) (z ∷ filter upto zs) (filter upto zs)) a.0 ∙ none_left zs a.1

    abbrev Split : Faces → ℕ → Type 0
    Split ys j = flat_map g (put_behind module_of k ys) ≡ take j (flat_map g ys) ++ (g k ++ drop j (flat_map g ys))

    put_split : (ys : Faces) → IsOrdered module_of ys → Split ys (count (filter upto ys))
    put_split [] o = refl
    put_split (y ∷ ys) o =
        by_cases (is_later (module_of y) (module_of k))
        (λ e. let none : filter upto (y ∷ ys) ≡ [] = none_left (y ∷ ys) (e, all_later module_of k y ys e o.0) in
        subst (Split (y ∷ ys)) (sym (ap count none)) (ap (λ b. flat_map g (cond b (k ∷ y ∷ ys) (y ∷ put_behind module_of k ys))) e))
        (λ e. let j : ℕ = count (filter upto ys) in
        let whole : count (filter upto (y ∷ ys)) ≡ length (g y) + j = ap (λ b. count (cond (not b) (y ∷ filter upto ys) (filter upto ys))) e ∙ length-append (g y) (flat_map g (filter upto ys)) in
        let rest = flat_map g ys in
        subst (Split (y ∷ ys)) (sym whole)
        (ap (λ b. flat_map g (cond b (k ∷ y ∷ ys) (y ∷ put_behind module_of k ys))) e
        ∙ (ap (λ zs. g y ++ zs) (put_split ys o.1)
        ∙ (sym (append_assoc (g y) (take j rest) (g k ++ drop j rest))
        ∙ (ap (λ zs. zs ++ (g k ++ drop j rest)) (sym (take_past (g y) rest j))
        ∙ ap (λ zs. take (length (g y) + j) (g y ++ rest) ++ (g k ++ zs)) (sym (drop_past (g y) rest j)))))))

-- those of the last face stand behind those of modules up to its own by name
pub insts_last : (fs : Faces) (k : Known) (class head : Name)
    → insts_of (fs ++ k ∷ []) class head ≡ take (insts_up_to fs class head (module_of k)) (insts_of fs class head) ++ (insts_in class head k ++ drop (insts_up_to fs class head (module_of k)) (insts_of fs class head))
insts_last fs k class head =
    let g : Known → List Inst = insts_in class head in
    ap (flat_map g) (by_module_last fs k)
    ∙ subst (Split g k (by_module fs)) (count_sorted g (upto g k) fs) (put_split g k (by_module fs) (by_module_ordered fs))

pub insts_up_to_last : (fs : Faces) (k : Known) (class head : Name) (m : ModName)
    → insts_up_to (fs ++ k ∷ []) class head m ≡ insts_up_to fs class head m + insts_up_to (k ∷ []) class head m
insts_up_to_last fs k class head m =
    let g : Known → List Inst = insts_in class head in
    let q : Known → Bool = λ j. not (is_behind j m) in
    ap (λ xs. length (flat_map g xs)) (filter-append q fs (k ∷ []))
    ∙ (ap length (flat_map-append g (filter q fs) (filter q (k ∷ [])))
    ∙ length-append (flat_map g (filter q fs)) (flat_map g (filter q (k ∷ []))))
