-- The order of names and of declarations, and what a list in strict order says.
use Rattle.std.proofs.Common.{◌≡◌, ℕ, ◌+◌, Bool, true, false, Some, None, Option, List, [], ◌∷◌, get_or, refl, ap, sym, ◌∙◌, arith}
use Rattle.std.specs.Prelude.{nat_eq, ◌&&◌}
use Rattle.std.specs.Cmp.{IsTotalOrder}
use Rattle.std.specs.Cmp.Lexicographic.{pointwise, on_texts, texts_ties, nat_list_eq_equiv}
use Rattle.std.specs.Cmp.Lexicographic.{same_text as told_same}
use Rattle.std.specs.List.{AllByRecursion, IsDistinct, flat_map}
use Rattle.std.specs.List.Sorted.{IsStrictlySortedBy, IsSorted}
use Rattle.std.specs.Ordering.{nat_cmp, ordering_then, is_lt, is_eq, eq_by_cmp, ordering_reverse}
use Rattle.std.specs.declared.cmp.Ordering.{Ordering}
use Rattle.std.specs.declared.cmp.Ordering.TheVariants.{Less, Equal, Greater}
use Rattle.std.proofs.lemmas.Cmp.{then_total, on_total, nat_cmp_total}
use Rattle.std.proofs.lemmas.Map.Keys.{sorted_from_all_adjacent, apart_from_distinct}
use Rattle.mk_base.specs.Order.{name_cmp, text_cmp, place_of_space}
use Rattle.mk_base.specs.declared.name.Name.{Name}
use Rattle.mk_base.specs.declared.name.Space.{Space}
use Rattle.mk_base.specs.declared.name.Space.TheVariants.{Var, Con, Ty}
use Rattle.plain_scope.specs.Scope.{entity, same_entity, same_space}
use Rattle.plain_scope.specs.declared.scope.DataDecl.{DataDecl}
use Rattle.plain_scope.specs.Offered.{AreBefore}
use Rattle.mk_base.specs.contracts.name.NameOrd.TheImpl as ord
use Rattle.mk_base.specs.contracts.name.NamePartialEq.TheImpl as peq

pub name_total : IsTotalOrder name_cmp
name_total = then_total (on_texts (λ (n : Name). n.unit.text)) (then_total (on_texts (λ (n : Name). n.module.text))
    (then_total (on_total (λ (n : Name). place_of_space n.occ.space) nat_cmp_total) (on_texts (λ (n : Name). n.occ.text))))

-- ---- texts and names that are the same

pub text_itself : (a : List ℕ) → pointwise nat_eq a a ≡ true
text_itself a = nat_list_eq_equiv.refl a

pub same_from_test : (a b : List ℕ) → pointwise nat_eq a b ≡ true → a ≡ b
same_from_test a b e = told_same a b (sym e)

pub text_same : (a b : List ℕ) → text_cmp a b ≡ Equal → a ≡ b
text_same a b e = same_from_test a b (texts_ties a b ∙ ap is_eq e)

both : (a b : Bool) → (a && b) ≡ true → (a ≡ true) × (b ≡ true)
both true b e = (refl, e)
both false b e = absurd (let h : ⊥ = cc in h)

not_either : (a b : Bool) → b ≡ false → (a && b) ≡ false
not_either true b e = e
not_either false b e = refl

both_equal : (o p : Ordering) → ordering_then o p ≡ Equal → (o ≡ Equal) × (p ≡ Equal)
both_equal Less p e = absurd (let h : ⊥ = cc in h)
both_equal Equal p e = (refl, e)
both_equal Greater p e = absurd (let h : ⊥ = cc in h)

name_path : (a b : Name) → a.unit.text ≡ b.unit.text → a.module.text ≡ b.module.text → a.occ.space ≡ b.occ.space → a.occ.text ≡ b.occ.text → a ≡ b
name_path a b u m s t = λ i. record { unit = record { text = u i }; «module» = record { text = m i }; occ = record { space = s i; text = t i } }

space_from_cmp : (s t : Space) → nat_cmp (place_of_space s) (place_of_space t) ≡ Equal → s ≡ t
space_from_cmp Var Var e = refl
space_from_cmp Con Con e = refl
space_from_cmp Ty Ty e = refl
space_from_cmp Var Con e = absurd (let h : ⊥ = cc in h)
space_from_cmp Var Ty e = absurd (let h : ⊥ = cc in h)
space_from_cmp Con Var e = absurd (let h : ⊥ = cc in h)
space_from_cmp Con Ty e = absurd (let h : ⊥ = cc in h)
space_from_cmp Ty Var e = absurd (let h : ⊥ = cc in h)
space_from_cmp Ty Con e = absurd (let h : ⊥ = cc in h)

space_from_test : (s t : Space) → same_space s t ≡ true → s ≡ t
space_from_test Con Con e = refl
space_from_test Ty Ty e = refl
space_from_test Var Var e = refl
space_from_test Var Con e = absurd (let h : ⊥ = cc in h)
space_from_test Var Ty e = absurd (let h : ⊥ = cc in h)
space_from_test Con Var e = absurd (let h : ⊥ = cc in h)
space_from_test Con Ty e = absurd (let h : ⊥ = cc in h)
space_from_test Ty Var e = absurd (let h : ⊥ = cc in h)
space_from_test Ty Con e = absurd (let h : ⊥ = cc in h)

pub name_same : (a b : Name) → name_cmp a b ≡ Equal → a ≡ b
name_same a b e =
    let p = both_equal (text_cmp a.unit.text b.unit.text) _ e in
    let q = both_equal (text_cmp a.module.text b.module.text) _ p.1 in
    let r = both_equal (nat_cmp (place_of_space a.occ.space) (place_of_space b.occ.space)) _ q.1 in
    name_path a b (text_same _ _ p.0) (text_same _ _ q.0) (space_from_cmp _ _ r.0) (text_same _ _ r.1)

pub entity_same : (a b : Name) → same_entity a b ≡ true → a ≡ b
entity_same a b e =
    let p = both (pointwise nat_eq a.unit.text b.unit.text) _ e in
    let q = both (pointwise nat_eq a.module.text b.module.text) _ p.1 in
    let r = both (same_space a.occ.space b.occ.space) _ q.1 in
    name_path a b (same_from_test _ _ p.0) (same_from_test _ _ q.0) (space_from_test _ _ r.0) (same_from_test _ _ r.1)

space_itself : (s : Space) → same_space s s ≡ true
space_itself Var = refl
space_itself Con = refl
space_itself Ty = refl

pub entity_itself : (n : Name) → same_entity n n ≡ true
entity_itself n = rw (text_itself n.unit.text, text_itself n.module.text, space_itself n.occ.space, text_itself n.occ.text)

-- ---- what the derives say

equal_parts : (o p q r : Ordering) → is_eq (ordering_then o (ordering_then p (ordering_then q r))) ≡ (is_eq o && (is_eq p && (is_eq q && is_eq r)))
equal_parts Less p q r = refl
equal_parts Greater p q r = refl
equal_parts Equal Less q r = refl
equal_parts Equal Greater q r = refl
equal_parts Equal Equal Less r = refl
equal_parts Equal Equal Greater r = refl
equal_parts Equal Equal Equal r = refl

module _ (u v m n t w : List ℕ) where
  cmp_at : (s r : Space) → (ord.ghosts).cmp (entity u m s t) (entity v n r w) ≡ name_cmp (entity u m s t) (entity v n r w)
  cmp_at Var Var = refl
  cmp_at Var Con = refl
  cmp_at Var Ty = refl
  cmp_at Con Var = refl
  cmp_at Con Con = refl
  cmp_at Con Ty = refl
  cmp_at Ty Var = refl
  cmp_at Ty Con = refl
  cmp_at Ty Ty = refl

  eq_by_parts : (q : Ordering) → (pointwise nat_eq u v && (pointwise nat_eq m n && (is_eq q && pointwise nat_eq t w)))
      ≡ is_eq (ordering_then (text_cmp u v) (ordering_then (text_cmp m n) (ordering_then q (text_cmp t w))))
  eq_by_parts q = rw (texts_ties u v, texts_ties m n, texts_ties t w) (sym (equal_parts (text_cmp u v) (text_cmp m n) q (text_cmp t w)))

  eq_at : (s r : Space) → (peq.ghosts).eq (entity u m s t) (entity v n r w) ≡ eq_by_cmp name_cmp (entity u m s t) (entity v n r w)
  eq_at Var Var = eq_by_parts Equal
  eq_at Var Con = eq_by_parts Less
  eq_at Var Ty = eq_by_parts Less
  eq_at Con Var = eq_by_parts Greater
  eq_at Con Con = eq_by_parts Equal
  eq_at Con Ty = eq_by_parts Less
  eq_at Ty Var = eq_by_parts Greater
  eq_at Ty Con = eq_by_parts Greater
  eq_at Ty Ty = eq_by_parts Equal

pub derived_cmp : (a b : Name) → (ord.ghosts).cmp a b ≡ name_cmp a b
derived_cmp a b = cmp_at a.unit.text b.unit.text a.module.text b.module.text a.occ.text b.occ.text a.occ.space b.occ.space

pub derived_eq : (a b : Name) → (peq.ghosts).eq a b ≡ eq_by_cmp name_cmp a b
derived_eq a b = eq_at a.unit.text b.unit.text a.module.text b.module.text a.occ.text b.occ.text a.occ.space b.occ.space

-- ---- lists in strict order

pub before : {X : Type 0} (R : X → X → Ordering) (xs : List X) → IsStrictlySortedBy R xs → AreBefore (λ a b. R a b ≡ Less) xs
unfolding IsStrictlySortedBy
before R [] s = tt
before R (x ∷ xs) s = (s.0, before R xs s.1)

pub strict : {X : Type 0} (R : X → X → Ordering) (xs : List X) → AreBefore (λ a b. R a b ≡ Less) xs → IsStrictlySortedBy R xs
unfolding IsStrictlySortedBy
strict R [] s = tt
strict R (x ∷ xs) s = (s.0, strict R xs s.1)

less_from : (o p : Ordering) → o ≡ ordering_reverse p → is_lt p ≡ false → is_eq o ≡ false → o ≡ Less
less_from o Less e l q = absurd (let h : ⊥ = cc in h)
less_from o Equal e l q = absurd (let h : true ≡ false = sym (ap is_eq e) ∙ q in let i : ⊥ = cc in i)
less_from o Greater e l q = e

-- a sorted list of which no two tie is in strict order
pub strictly : {X : Type 0} (R : X → X → Ordering) (o : IsTotalOrder R) (xs : List X) → IsSorted R xs → IsDistinct (eq_by_cmp R) xs → AreBefore (λ a b. R a b ≡ Less) xs
strictly R o [] s d = tt
strictly R o (x ∷ xs) s d = before R (x ∷ xs) (sorted_from_all_adjacent o (x ∷ xs) x (λ k l.
    less_from (R (get_or (x ∷ xs) k x) (get_or (x ∷ xs) (k + 1) x)) (R (get_or (x ∷ xs) (k + 1) x) (get_or (x ∷ xs) k x))
    (o.antisymm _ _) (s k x (omega arith) l) (apart_from_distinct (eq_by_cmp R) (x ∷ xs) k (k + 1) x d (omega arith) l)))

all_weaker : {X : Type 0} (P Q : X → Type 0) → ((x : X) → P x → Q x) → (xs : List X) → AllByRecursion P xs → AllByRecursion Q xs
all_weaker P Q f [] h = tt
all_weaker P Q f (x ∷ xs) h = (f x h.0, all_weaker P Q f xs h.1)

not_tied : (o : Ordering) → (o ≡ Equal → ⊥) → is_eq o ≡ false
not_tied Less n = refl
not_tied Equal n = absurd (n refl)
not_tied Greater n = refl

-- ---- declarations and exports

pub types_total : IsTotalOrder (λ (a b : DataDecl). text_cmp a.ty b.ty)
types_total = on_texts (λ (d : DataDecl). d.ty)

pub types_apart : (ds : List DataDecl) → AreBefore (λ (a b : DataDecl). a.ty ≡ b.ty → ⊥) ds → IsDistinct (eq_by_cmp (λ (a b : DataDecl). text_cmp a.ty b.ty)) ds
unfolding IsDistinct
types_apart [] h = tt
types_apart (d ∷ ds) h = (
  all_weaker (λ (y : DataDecl). d.ty ≡ y.ty → ⊥) (λ (y : DataDecl). is_eq (text_cmp d.ty y.ty) ≡ false)
      (λ y n. not_tied (text_cmp d.ty y.ty) (λ e. n (text_same _ _ e))) ds h.0,
  types_apart ds h.1,
)

abbrev pub Export : Type 0
Export = Name × Option Name

pub exports_total : IsTotalOrder (λ (a b : Export). name_cmp a.0 b.0)
exports_total = on_total (λ (a : Export). a.0) name_total

names_apart : (a b : Name) → (a ≡ b → ⊥) → is_eq (name_cmp a b) ≡ false
names_apart a b n = not_tied (name_cmp a b) (λ e. n (name_same a b e))

module _ (unit m : List ℕ) where
  abbrev type_of : DataDecl → Name
  type_of d = entity unit m Ty d.ty

  abbrev con_of : DataDecl → Name
  con_of d = entity unit m Con d.con

  abbrev pub exported : List DataDecl → List Export
  exported ds = flat_map (λ (d : DataDecl). (type_of d, None) ∷ (con_of d, Some (type_of d)) ∷ []) ds

  space_apart : (s t : List ℕ) → entity unit m Ty s ≡ entity unit m Con t → ⊥
  space_apart s t e = let h : Ty ≡ Con = ap (λ (n : Name). n.occ.space) e in let i : ⊥ = cc in i

  all_exported : (P : Name → Type 0) (ds : List DataDecl) → AllByRecursion (λ d. P (type_of d) × P (con_of d)) ds → AllByRecursion (λ (e : Export). P e.0) (exported ds)
  all_exported P [] h = tt
  all_exported P (d ∷ ds) h = (h.0.0, (h.0.1, all_exported P ds h.1))

  pub exports_apart : (ds : List DataDecl) → AreBefore (λ (a b : DataDecl). a.ty ≡ b.ty → ⊥) ds → AreBefore (λ (a b : DataDecl). a.con ≡ b.con → ⊥) ds
      → IsDistinct (eq_by_cmp (λ (a b : Export). name_cmp a.0 b.0)) (exported ds)
  unfolding IsDistinct
  exports_apart [] h g = tt
  exports_apart (d ∷ ds) h g =
      let of_type = all_weaker (λ (y : DataDecl). d.ty ≡ y.ty → ⊥) (λ y. (is_eq (name_cmp (type_of d) (type_of y)) ≡ false) × (is_eq (name_cmp (type_of d) (con_of y)) ≡ false))
      (λ y n. (names_apart (type_of d) (type_of y) (λ e. n (ap (λ (k : Name). k.occ.text) e)), names_apart (type_of d) (con_of y) (space_apart d.ty y.con))) ds h.0 in
      let of_con = all_weaker (λ (y : DataDecl). d.con ≡ y.con → ⊥) (λ y. (is_eq (name_cmp (con_of d) (type_of y)) ≡ false) × (is_eq (name_cmp (con_of d) (con_of y)) ≡ false))
      (λ y n. (names_apart (con_of d) (type_of y) (λ e. space_apart y.ty d.con (sym e)), names_apart (con_of d) (con_of y) (λ e. n (ap (λ (k : Name). k.occ.text) e)))) ds g.0 in (
        (names_apart (type_of d) (con_of d) (space_apart d.ty d.con), all_exported (λ n. is_eq (name_cmp (type_of d) n) ≡ false) ds of_type),
        (all_exported (λ n. is_eq (name_cmp (con_of d) n) ≡ false) ds of_con, exports_apart ds h.1 g.1),
      )
