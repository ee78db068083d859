-- The face of `Prim` is well formed: how many variables a spelling reaches, and each declaration and instance in turn.
use Rattle.std.proofs.Common.{◌≡◌, ℕ, zero, suc, ◌+◌, ◌-◌, ◌<◌, ◌≤◌, Bool, true, false, List, [], ◌∷◌, ◌++◌, length, refl, sym, ap, ◌∙◌, subst, arith, length-append}
use Rattle.std.specs.Prelude.{codes, max, leb, nat_eq, nat_lt, if◌then◌else◌}
use Rattle.std.specs.List.{AllByRecursion}
use Rattle.std.proofs.lemmas.Bool.{leb-true}
use Rattle.mk_base.specs.declared.name.Name.{Name}
use Rattle.mk_base.specs.declared.kind.Kind.TheVariants as kinds
use Rattle.mk_base.specs.declared.ty.Ty.{Ty}
use Rattle.mk_base.specs.declared.ty.Ty.TheOpen.Ty-F.{Var, Con, App}
use Rattle.mk_base.specs.declared.ty.Ty.TheVariants as types
use Rattle.mk_base.specs.declared.ty.Ty.TheVariants.{rolls-Var, rolls-Con, rolls-App}
use Rattle.mk_base.specs.declared.ty.Ty.TheFolds.{fold-roll-Ty}
use Rattle.face_model.specs.declared.decl.Decl.{Decl}
use Rattle.face_model.specs.declared.decl.Method.{Method}
use Rattle.face_model.specs.declared.inst.Inst.{Inst}
use Rattle.face_model.specs.declared.scheme.Constraint.{Constraint}
use Rattle.face_model.specs.Formed.{vars_of, vars_step, IsBelow, ConstraintFormed, FieldFormed, MethodFormed, DeclFormed, OnVariable, InstFormed, FaceFormed}
use Rattle.prim_table.specs.Spelled.{Read, read, read_as, one, two, con, list, pair, function, applied, spelled, letter, on, type_name, ◌⊳◌}
use Rattle.prim_table.specs.Classes as classes
use Rattle.prim_table.specs.Types as t
use Rattle.prim_table.specs.Insts as i
use Rattle.prim_table.specs.Table.{prim_face}

-- ---- how many variables a type reaches

vars_var : (n : ℕ) → vars_of (types.Var n) ≡ n + 1
vars_var n = ap vars_of (sym (rolls-Var n)) ∙ fold-roll-Ty ℕ vars_step (Var n)

vars_con : (a : Name) → vars_of (types.Con a) ≡ 0
vars_con a = ap vars_of (sym (rolls-Con a)) ∙ fold-roll-Ty ℕ vars_step (Con a)

vars_app : (f x : Ty) → vars_of (types.App f x) ≡ max (vars_of f) (vars_of x)
vars_app f x = ap vars_of (sym (rolls-App f x)) ∙ fold-roll-Ty ℕ vars_step (App f x)

abbrev behind : ℕ → ℕ
behind a = max 0 a

abbrev joined : ℕ → ℕ → ℕ
joined a b = max (max 0 a) b

vars_list : (a : Ty) → vars_of (list a) ≡ behind (vars_of a)
vars_list a = vars_app (con (codes "[]")) a ∙ ap (λ k. max k (vars_of a)) (vars_con (type_name (codes "[]")))

vars_pair : (a b : Ty) → vars_of (pair a b) ≡ joined (vars_of a) (vars_of b)
vars_pair a b =
    vars_app (applied (con (codes "(,)")) a) b
    ∙ ap (λ k. max k (vars_of b)) (vars_app (con (codes "(,)")) a ∙ ap (λ k. max k (vars_of a)) (vars_con (type_name (codes "(,)"))))

vars_function : (a b : Ty) → vars_of (function a b) ≡ joined (vars_of a) (vars_of b)
vars_function a b =
    vars_app (applied (con (codes "->")) a) b
    ∙ ap (λ k. max k (vars_of b)) (vars_app (con (codes "->")) a ∙ ap (λ k. max k (vars_of a)) (vars_con (type_name (codes "->"))))

-- ---- how many a spelling reaches

abbrev Bound : Type 0
Bound = ℕ × List ℕ

abbrev one_bound : (List ℕ → Bound) → (ℕ → ℕ) → List ℕ → Bound
one_bound g make cs = (make (g cs).0, (g cs).1)

abbrev two_bound : (List ℕ → Bound) → (ℕ → ℕ → ℕ) → List ℕ → Bound
two_bound g make cs = (make (g cs).0 (g (g cs).1).0, (g (g cs).1).1)

abbrev bound_as : (List ℕ → Bound) → ℕ → List ℕ → Bound
bound_as g c cs =
    if nat_eq c 62 then two_bound g joined cs
    else (if nat_eq c 91 then one_bound g behind cs
    else (if nat_eq c 44 then two_bound g joined cs
    else (if nat_eq c 64 then two_bound g max cs
    else (if nat_lt c 58 then (c - 48 + 1, cs)
    else (0, cs)))))

abbrev bound : ℕ → List ℕ → Bound
bound zero cs = (0, cs)
bound (suc n) [] = (0, [])
bound (suc n) (c ∷ cs) = bound_as (bound n) c cs

abbrev IsBound : Read → Bound → Type 0
IsBound r b = (vars_of r.0 ≡ b.0) × (r.1 ≡ b.1)

if_is : (b : Bool) (r s : Read) (p q : Bound) → IsBound r p → IsBound s q → IsBound (if b then r else s) (if b then p else q)
if_is true r s p q h k = h
if_is false r s p q h k = k

module _ (f : List ℕ → Read) (g : List ℕ → Bound) (h : (cs : List ℕ) → IsBound (f cs) (g cs)) where
  one_is : (make : Ty → Ty) (join : ℕ → ℕ) → ((a : Ty) → vars_of (make a) ≡ join (vars_of a)) → (cs : List ℕ) → IsBound (one f make cs) (one_bound g join cs)
  one_is make join is cs = (is (f cs).0 ∙ ap join (h cs).0, (h cs).1)

  two_is : (make : Ty → Ty → Ty) (join : ℕ → ℕ → ℕ) → ((a b : Ty) → vars_of (make a b) ≡ join (vars_of a) (vars_of b)) → (cs : List ℕ) → IsBound (two f make cs) (two_bound g join cs)
  two_is make join is cs =
      let a = h cs in
      let b = subst (λ (r : List ℕ). IsBound (f r) (g (g cs).1)) (sym a.1) (h (g cs).1) in (
        is (f cs).0 (f (f cs).1).0 ∙ ap (λ k. join k (vars_of (f (f cs).1).0)) a.0 ∙ ap (join (g cs).0) b.0,
        b.1,
      )

  as_is : (c : ℕ) (cs : List ℕ) → IsBound (read_as f c cs) (bound_as g c cs)
  as_is c cs =
      if_is (nat_eq c 62) _ _ _ _ (two_is function joined vars_function cs)
      (if_is (nat_eq c 91) _ _ _ _ (one_is list behind vars_list cs)
      (if_is (nat_eq c 44) _ _ _ _ (two_is pair joined vars_pair cs)
      (if_is (nat_eq c 64) _ _ _ _ (two_is applied max vars_app cs)
      (if_is (nat_lt c 58) _ _ _ _ (vars_var (c - 48), refl)
      (vars_con (type_name (letter c)), refl)))))

reads_bound : (n : ℕ) (cs : List ℕ) → IsBound (read n cs) (bound n cs)
unfolding read
reads_bound zero cs = (vars_con (type_name (codes "()")), refl)
reads_bound (suc n) [] = (vars_con (type_name (codes "()")), refl)
reads_bound (suc n) (c ∷ cs) = as_is (read n) (bound n) (reads_bound n) c cs

abbrev Reaches : ℕ → List ℕ → Type 0
Reaches vars ty = leb (bound (length ty) ty).0 vars ≡ true

below : (vars : ℕ) (ty : List ℕ) → Reaches vars ty → IsBelow vars (spelled ty)
below vars ty h = subst (λ k. k ≤ vars) (sym (reads_bound (length ty) ty).0) (leb-true (bound (length ty) ty).0 vars h)

below_var : (vars n : ℕ) → n < vars → IsBelow vars (types.Var n)
below_var vars n h = omega (arith, h, vars_var n)

-- ---- schemes

fits : (vars : ℕ) (ty : List ℕ) → Reaches vars ty → AllByRecursion (ConstraintFormed vars) [] × IsBelow vars (spelled ty)
fits vars ty h = (tt, below vars ty h)

rounds : (ty : List ℕ) → Reaches 2 ty → AllByRecursion (ConstraintFormed 2) classes.integral × IsBelow 2 (spelled ty)
rounds ty h = ((below_var 2 1 (omega arith), tt), below 2 ty h)

abbrev Methods : List Method → Type 0
Methods ms = AllByRecursion MethodFormed ms

eq_methods : Methods classes.eq_methods
eq_methods = (
  fits 1 (codes ">0>0B") refl,
  (fits 1 (codes ">0>0B") refl, tt),
)

ord_methods : Methods classes.ord_methods
ord_methods = (
  fits 1 (codes ">0>0O") refl,
  (
    fits 1 (codes ">0>0B") refl,
    (
      fits 1 (codes ">0>0B") refl,
      (
        fits 1 (codes ">0>0B") refl,
        (
          fits 1 (codes ">0>0B") refl,
          (
            fits 1 (codes ">0>00") refl,
            (fits 1 (codes ">0>00") refl, tt),
          ),
        ),
      ),
    ),
  ),
)

enum_methods : Methods classes.enum_methods
enum_methods = (
  fits 1 (codes ">00") refl,
  (
    fits 1 (codes ">00") refl,
    (
      fits 1 (codes ">I0") refl,
      (
        fits 1 (codes ">0I") refl,
        (
          fits 1 (codes ">0[0") refl,
          (
            fits 1 (codes ">0>0[0") refl,
            (
              fits 1 (codes ">0>0[0") refl,
              (fits 1 (codes ">0>0>0[0") refl, tt),
            ),
          ),
        ),
      ),
    ),
  ),
)

bounded_methods : Methods classes.bounded_methods
bounded_methods = (
  fits 1 (codes "0") refl,
  (fits 1 (codes "0") refl, tt),
)

num_methods : Methods classes.num_methods
num_methods = (
  fits 1 (codes ">0>00") refl,
  (
    fits 1 (codes ">0>00") refl,
    (
      fits 1 (codes ">0>00") refl,
      (
        fits 1 (codes ">00") refl,
        (
          fits 1 (codes ">00") refl,
          (
            fits 1 (codes ">00") refl,
            (fits 1 (codes ">Z0") refl, tt),
          ),
        ),
      ),
    ),
  ),
)

real_methods : Methods classes.real_methods
real_methods =
    (fits 1 (codes ">0@RZ") refl, tt)

integral_methods : Methods classes.integral_methods
integral_methods = (
  fits 1 (codes ">0>00") refl,
  (
    fits 1 (codes ">0>00") refl,
    (
      fits 1 (codes ">0>00") refl,
      (
        fits 1 (codes ">0>00") refl,
        (
          fits 1 (codes ">0>0,00") refl,
          (
            fits 1 (codes ">0>0,00") refl,
            (fits 1 (codes ">0Z") refl, tt),
          ),
        ),
      ),
    ),
  ),
)

fractional_methods : Methods classes.fractional_methods
fractional_methods = (
  fits 1 (codes ">0>00") refl,
  (
    fits 1 (codes ">00") refl,
    (fits 1 (codes ">@RZ0") refl, tt),
  ),
)

floating_methods : Methods classes.floating_methods
floating_methods = (
  fits 1 (codes "0") refl,
  (
    fits 1 (codes ">00") refl,
    (
      fits 1 (codes ">00") refl,
      (
        fits 1 (codes ">00") refl,
        (
          fits 1 (codes ">00") refl,
          (
            fits 1 (codes ">00") refl,
            (
              fits 1 (codes ">00") refl,
              (
                fits 1 (codes ">00") refl,
                (
                  fits 1 (codes ">00") refl,
                  (
                    fits 1 (codes ">00") refl,
                    (
                      fits 1 (codes ">00") refl,
                      (
                        fits 1 (codes ">00") refl,
                        (
                          fits 1 (codes ">00") refl,
                          (
                            fits 1 (codes ">00") refl,
                            (
                              fits 1 (codes ">00") refl,
                              (
                                fits 1 (codes ">00") refl,
                                (
                                  fits 1 (codes ">0>00") refl,
                                  (fits 1 (codes ">0>00") refl, tt),
                                ),
                              ),
                            ),
                          ),
                        ),
                      ),
                    ),
                  ),
                ),
              ),
            ),
          ),
        ),
      ),
    ),
  ),
)

real_frac_methods : Methods classes.real_frac_methods
real_frac_methods = (
  rounds (codes ">0,10") refl,
  (
    rounds (codes ">01") refl,
    (
      rounds (codes ">01") refl,
      (
        rounds (codes ">01") refl,
        (rounds (codes ">01") refl, tt),
      ),
    ),
  ),
)

functor_methods : Methods classes.functor_methods
functor_methods =
    (fits 3 (codes ">>12>@01@02") refl, tt)

monad_methods : Methods classes.monad_methods
monad_methods = (
  fits 3 (codes ">@01>>1@02@02") refl,
  (
    fits 3 (codes ">@01>@02@02") refl,
    (
      fits 2 (codes ">1@01") refl,
      (fits 2 (codes ">[C@01") refl, tt),
    ),
  ),
)

show_methods : Methods classes.show_methods
show_methods = (
  fits 1 (codes ">I>0>[C[C") refl,
  (
    fits 1 (codes ">0[C") refl,
    (fits 1 (codes ">[0>[C[C") refl, tt),
  ),
)

read_methods : Methods classes.read_methods
read_methods = (
  fits 1 (codes ">I>[C[,0[C") refl,
  (fits 1 (codes ">[C[,[0[C") refl, tt),
)

-- ---- declarations

module _ {A : Type 0} (P : A → Type 0) where
  more : (xs : List A) (x : A) → AllByRecursion P xs → P x → AllByRecursion P (xs ++ x ∷ [])
  more [] x p q = (q, tt)
  more (y ∷ xs) x p q = (p.0, more xs x p.1 q)

abbrev Decls : List Decl → Type 0
Decls ds = AllByRecursion DeclFormed ds

put : (ds : List Decl) (d : Decl) → Decls ds → DeclFormed d → Decls (ds ⊳ d)
put ds d p q = more DeclFormed ds d p q

length_stars : (n : ℕ) → length (t.stars n) ≡ n
unfolding t.stars
length_stars zero = refl
length_stars (suc n) =
    let long : length (t.stars n ++ kinds.Star ∷ []) ≡ length (t.stars n) + 1 = length-append (t.stars n) (kinds.Star ∷ []) in
    let all : length (t.stars n ++ kinds.Star ∷ []) ≡ suc n = omega (arith, long, length_stars n) in
    all

fields_formed : (count n : ℕ) → n ≤ count → AllByRecursion (FieldFormed count) (t.fields n)
unfolding t.fields
fields_formed count zero h = tt
fields_formed count (suc n) h = more (FieldFormed count) (t.fields n) (t.field (types.Var n)) (fields_formed count n (omega (arith, h))) (below_var count n (omega (arith, h)))

tuple_formed : (n : ℕ) → DeclFormed (t.tuple n)
tuple_formed n = (subst (λ k. AllByRecursion (FieldFormed k) (t.fields (n + 1))) (sym (length_stars (n + 1))) (fields_formed (n + 1) (n + 1) (omega arith)), tt)

tuples_formed : (n : ℕ) (ds : List Decl) → Decls ds → Decls (t.tuples n ds)
unfolding t.tuples
tuples_formed zero ds h = h
tuples_formed (suc n) ds h = put (t.tuples n ds) (t.tuple (suc n)) (tuples_formed n ds h) (tuple_formed (suc n))

lists_formed : DeclFormed t.lists
lists_formed =
    let e = sym (length_stars 1) in
    (tt, ((subst (λ k. IsBelow k (types.Var 0)) e (below_var 1 0 (omega arith)), (subst (λ k. IsBelow k (spelled (codes "[0"))) e (below 1 (codes "[0") refl), tt)), tt))

synonym_formed : (occ : List ℕ) (n : ℕ) (ty : List ℕ) → Reaches n ty → DeclFormed (t.synonym occ n ty)
synonym_formed occ n ty h = subst (λ k. IsBelow k (spelled ty)) (sym (length_stars n)) (below n ty h)

values_formed : Decls t.values
values_formed = (
  fits 0 (codes ">[C>[C@WU") refl,
  (
    fits 1 (codes ">[C0") refl,
    (
      fits 0 (codes "@WC") refl,
      (
        fits 0 (codes "@W[C") refl,
        (
          fits 0 (codes "@W[C") refl,
          (
            fits 0 (codes ">C@WU") refl,
            (
              fits 0 (codes ">[C@WU") refl,
              (
                fits 0 (codes ">[C@W[C") refl,
                (
                  fits 2 (codes ">0>11") refl,
                  (fits 0 (codes ">[C>[C@WU") refl, tt),
                ),
              ),
            ),
          ),
        ),
      ),
    ),
  ),
)

first_types_formed : (out : List Decl) → Decls out → Decls (t.first_types out)
first_types_formed out p0 =
    let p1 = put out (t.booleans) p0 (tt, (tt, tt)) in
    let p2 = put (out ⊳ t.booleans) (classes.bounded_class) p1 bounded_methods in
    let p3 = put (out ⊳ t.booleans ⊳ classes.bounded_class) (t.opaque (codes "Char") 0) p2 tt in
    let p4 = put (out ⊳ t.booleans ⊳ classes.bounded_class ⊳ t.opaque (codes "Char") 0) (t.opaque (codes "Double") 0) p3 tt in
    put _ (classes.enum_class) p4 enum_methods

second_types_formed : (out : List Decl) → Decls out → Decls (t.second_types out)
second_types_formed out p0 =
    let p1 = put out (classes.eq_class) p0 eq_methods in
    let p2 = put (out ⊳ classes.eq_class) (t.opaque (codes "Float") 0) p1 tt in
    let p3 = put (out ⊳ classes.eq_class ⊳ t.opaque (codes "Float") 0) (classes.floating_class) p2 floating_methods in
    put _ (classes.fractional_class) p3 fractional_methods

third_types_formed : (out : List Decl) → Decls out → Decls (t.third_types out)
third_types_formed out p0 =
    let p1 = put out (classes.functor_class) p0 functor_methods in
    let p2 = put (out ⊳ classes.functor_class) (t.opaque (codes "IO") 1) p1 tt in
    let p3 = put (out ⊳ classes.functor_class ⊳ t.opaque (codes "IO") 1) (t.opaque (codes "Int") 0) p2 tt in
    let p4 = put (out ⊳ classes.functor_class ⊳ t.opaque (codes "IO") 1 ⊳ t.opaque (codes "Int") 0) (t.opaque (codes "Integer") 0) p3 tt in
    put _ (classes.integral_class) p4 integral_methods

fourth_types_formed : (out : List Decl) → Decls out → Decls (t.fourth_types out)
fourth_types_formed out p0 =
    let p1 = put out (classes.monad_class) p0 monad_methods in
    let p2 = put (out ⊳ classes.monad_class) (classes.num_class) p1 num_methods in
    let p3 = put (out ⊳ classes.monad_class ⊳ classes.num_class) (classes.ord_class) p2 ord_methods in
    put _ (t.orderings) p3 (tt, (tt, (tt, tt)))

fifth_types_formed : (out : List Decl) → Decls out → Decls (t.fifth_types out)
fifth_types_formed out p0 =
    let p1 = put out (t.opaque (codes "Ratio") 1) p0 tt in
    let p2 = put (out ⊳ t.opaque (codes "Ratio") 1) (t.synonym (codes "Rational") 0 (codes "@RZ")) p1 (synonym_formed (codes "Rational") 0 (codes "@RZ") refl) in
    let p3 = put (out ⊳ t.opaque (codes "Ratio") 1 ⊳ t.synonym (codes "Rational") 0 (codes "@RZ")) (classes.read_class) p2 read_methods in
    let p4 = put (out ⊳ t.opaque (codes "Ratio") 1 ⊳ t.synonym (codes "Rational") 0 (codes "@RZ") ⊳ classes.read_class) (t.synonym (codes "ReadS") 1 (codes ">[C[,0[C")) p3 (synonym_formed (codes "ReadS") 1 (codes ">[C[,0[C") refl) in
    put _ (classes.real_class) p4 real_methods

sixth_types_formed : (out : List Decl) → Decls out → Decls (t.sixth_types out)
sixth_types_formed out p0 =
    let p1 = put out (classes.real_frac_class) p0 real_frac_methods in
    let p2 = put (out ⊳ classes.real_frac_class) (classes.show_class) p1 show_methods in
    let p3 = put (out ⊳ classes.real_frac_class ⊳ classes.show_class) (t.synonym (codes "ShowS") 0 (codes ">[C[C")) p2 (synonym_formed (codes "ShowS") 0 (codes ">[C[C") refl) in
    put _ (t.synonym (codes "String") 0 (codes "[C")) p3 (synonym_formed (codes "String") 0 (codes "[C") refl)

lower_types_formed : (out : List Decl) → Decls out → Decls (t.lower_types out)
lower_types_formed out p = second_types_formed (t.first_types out) (first_types_formed out p)

middle_types_formed : (out : List Decl) → Decls out → Decls (t.middle_types out)
middle_types_formed out p = fourth_types_formed (t.third_types out) (third_types_formed out p)

upper_types_formed : (out : List Decl) → Decls out → Decls (t.upper_types out)
upper_types_formed out p = sixth_types_formed (t.fifth_types out) (fifth_types_formed out p)

up_to_orderings_formed : (out : List Decl) → Decls out → Decls (t.up_to_orderings out)
up_to_orderings_formed out p = middle_types_formed (t.lower_types out) (lower_types_formed out p)

named_types_formed : (out : List Decl) → Decls out → Decls (t.named_types out)
named_types_formed out p = upper_types_formed (t.up_to_orderings out) (up_to_orderings_formed out p)

special_types_formed : (out : List Decl) → Decls out → Decls (t.special_types out)
special_types_formed out p =
    let units = put out t.units p (tt, tt) in
    put (t.tuples 14 (out ⊳ t.units)) (t.opaque (codes "->") 2) (tuples_formed 14 (out ⊳ t.units) units) tt

decls_formed : Decls t.decls
decls_formed =
    let special = special_types_formed t.values values_formed in
    let named = named_types_formed (t.special_types t.values) special in
    put (t.named_types (t.special_types t.values)) t.lists named lists_formed

-- ---- instances

abbrev Insts : List Inst → Type 0
Insts is = AllByRecursion InstFormed is

add : (is : List Inst) (x : Inst) → Insts is → InstFormed x → Insts (is ⊳ x)
add is x p q = more InstFormed is x p q

each_formed : (class : List ℕ) (count n : ℕ) → n ≤ count → AllByRecursion (OnVariable count) (i.each class n)
unfolding i.each
each_formed class count zero h = tt
each_formed class count (suc n) h = more (OnVariable count) (i.each class n) (on class n) (each_formed class count n (omega (arith, h))) (n, (let lt : n < count = omega (arith, h) in lt), refl)

at_tuples_formed : (class : List ℕ) (n : ℕ) (is : List Inst) → Insts is → Insts (i.at_tuples class n is)
unfolding i.at_tuples
at_tuples_formed class zero is h = h
at_tuples_formed class (suc n) is h = add (i.at_tuples class n is) (i.at_tuple class (suc n)) (at_tuples_formed class n is h) (each_formed class (suc n + 1) (suc n + 1) (omega arith))

first_variable : (class : List ℕ) → OnVariable 1 (on class 0)
first_variable class = (0, (let lt : 0 < 1 = omega arith in lt), refl)

integral_formed : AllByRecursion (OnVariable 1) i.integral
integral_formed = (first_variable (codes "Integral"), tt)

basic_formed : (class : List ℕ) (out : List Inst) → Insts out → Insts (i.basic class out)
basic_formed class out p0 =
    let p1 = add out (i.plain class (codes "Bool")) p0 tt in
    let p2 = add (out ⊳ i.plain class (codes "Bool")) (i.plain class (codes "Char")) p1 tt in
    let p3 = add ((out ⊳ i.plain class (codes "Bool")) ⊳ i.plain class (codes "Char")) (i.plain class (codes "Double")) p2 tt in
    let p4 = add (((out ⊳ i.plain class (codes "Bool")) ⊳ i.plain class (codes "Char")) ⊳ i.plain class (codes "Double")) (i.plain class (codes "Float")) p3 tt in
    let p5 = add ((((out ⊳ i.plain class (codes "Bool")) ⊳ i.plain class (codes "Char")) ⊳ i.plain class (codes "Double")) ⊳ i.plain class (codes "Float")) (i.plain class (codes "Int")) p4 tt in
    let p6 = add (((((out ⊳ i.plain class (codes "Bool")) ⊳ i.plain class (codes "Char")) ⊳ i.plain class (codes "Double")) ⊳ i.plain class (codes "Float")) ⊳ i.plain class (codes "Int")) (i.plain class (codes "Integer")) p5 tt in
    add ((((((out ⊳ i.plain class (codes "Bool")) ⊳ i.plain class (codes "Char")) ⊳ i.plain class (codes "Double")) ⊳ i.plain class (codes "Float")) ⊳ i.plain class (codes "Int")) ⊳ i.plain class (codes "Integer")) (i.plain class (codes "Ordering")) p6 tt

general_formed : (class : List ℕ) (context : List Constraint) (out : List Inst) → AllByRecursion (OnVariable 1) context → Insts out → Insts (i.general class context out)
general_formed class context out h p =
    let unit : List Inst = out ⊳ i.plain class (codes "()") in
    let tuples : List Inst = i.at_tuples class 14 unit in
    let p1 = basic_formed class tuples (at_tuples_formed class 14 unit (add out (i.plain class (codes "()")) p tt)) in
    let p2 = add (i.basic class tuples) (i.at_ratio class context) p1 h in
    add (i.basic class tuples ⊳ i.at_ratio class context) (i.at_lists class) p2 (first_variable class, tt)

compared_formed : (class : List ℕ) (out : List Inst) → Insts out → Insts (i.compared class out)
compared_formed class out p = general_formed class i.integral out integral_formed p

printed_formed : (class : List ℕ) (out : List Inst) → Insts out → Insts (i.printed class out)
printed_formed class out p = general_formed class (i.integral ++ on class 0 ∷ []) out (more (OnVariable 1) i.integral (on class 0) integral_formed (first_variable class)) p

bounded_formed : (out : List Inst) → Insts out → Insts (i.bounded out)
bounded_formed out p0 =
    let p1 = add out (i.plain (codes "Bounded") (codes "()")) p0 tt in
    let p2 = at_tuples_formed (codes "Bounded") 14 (out ⊳ i.plain (codes "Bounded") (codes "()")) p1 in
    let p3 = add (i.at_tuples (codes "Bounded") 14 (out ⊳ i.plain (codes "Bounded") (codes "()"))) (i.plain (codes "Bounded") (codes "Bool")) p2 tt in
    let p4 = add ((i.at_tuples (codes "Bounded") 14 (out ⊳ i.plain (codes "Bounded") (codes "()"))) ⊳ i.plain (codes "Bounded") (codes "Bool")) (i.plain (codes "Bounded") (codes "Char")) p3 tt in
    let p5 = add (((i.at_tuples (codes "Bounded") 14 (out ⊳ i.plain (codes "Bounded") (codes "()"))) ⊳ i.plain (codes "Bounded") (codes "Bool")) ⊳ i.plain (codes "Bounded") (codes "Char")) (i.plain (codes "Bounded") (codes "Int")) p4 tt in
    add ((((i.at_tuples (codes "Bounded") 14 (out ⊳ i.plain (codes "Bounded") (codes "()"))) ⊳ i.plain (codes "Bounded") (codes "Bool")) ⊳ i.plain (codes "Bounded") (codes "Char")) ⊳ i.plain (codes "Bounded") (codes "Int")) (i.plain (codes "Bounded") (codes "Ordering")) p5 tt

enumerated_formed : (out : List Inst) → Insts out → Insts (i.enumerated out)
enumerated_formed out p0 =
    let p1 = add out (i.plain (codes "Enum") (codes "()")) p0 tt in
    let p2 = basic_formed (codes "Enum") (out ⊳ i.plain (codes "Enum") (codes "()")) p1 in
    add (i.basic (codes "Enum") (out ⊳ i.plain (codes "Enum") (codes "()"))) (i.at_ratio (codes "Enum") i.integral) p2 integral_formed

floating_formed : (class : List ℕ) (out : List Inst) → Insts out → Insts (i.floating class out)
floating_formed class out p0 =
    let p1 = add out (i.plain class (codes "Double")) p0 tt in
    add (out ⊳ i.plain class (codes "Double")) (i.plain class (codes "Float")) p1 tt

fractional_formed : (class : List ℕ) (out : List Inst) → Insts out → Insts (i.fractional class out)
fractional_formed class out p0 =
    let p1 = floating_formed class out p0 in
    add (i.floating class (out)) (i.at_ratio class i.integral) p1 integral_formed

integers_formed : (class : List ℕ) (out : List Inst) → Insts out → Insts (i.integers class out)
integers_formed class out p0 =
    let p1 = add out (i.plain class (codes "Int")) p0 tt in
    add (out ⊳ i.plain class (codes "Int")) (i.plain class (codes "Integer")) p1 tt

numeric_formed : (class : List ℕ) (out : List Inst) → Insts out → Insts (i.numeric class out)
numeric_formed class out p0 =
    let p1 = floating_formed class out p0 in
    let p2 = integers_formed class (i.floating class (out)) p1 in
    add (i.integers class (i.floating class (out))) (i.at_ratio class i.integral) p2 integral_formed

constructors_formed : (class : List ℕ) (out : List Inst) → Insts out → Insts (i.constructors class out)
constructors_formed class out p0 =
    let p1 = add out (i.plain class (codes "IO")) p0 tt in
    add (out ⊳ i.plain class (codes "IO")) (i.plain class (codes "[]")) p1 tt

first_insts_formed : Insts i.first_insts
first_insts_formed =
    let p1 = bounded_formed [] tt in
    let p2 = enumerated_formed (i.bounded []) p1 in
    let p3 = compared_formed (codes "Eq") (i.enumerated (i.bounded [])) p2 in
    let p4 = floating_formed (codes "Floating") (i.compared (codes "Eq") (i.enumerated (i.bounded []))) p3 in
    let p5 = fractional_formed (codes "Fractional") (i.floating (codes "Floating") (i.compared (codes "Eq") (i.enumerated (i.bounded [])))) p4 in
    let p6 = constructors_formed (codes "Functor") (i.fractional (codes "Fractional") (i.floating (codes "Floating") (i.compared (codes "Eq") (i.enumerated (i.bounded []))))) p5 in
    integers_formed (codes "Integral") (i.constructors (codes "Functor") (i.fractional (codes "Fractional") (i.floating (codes "Floating") (i.compared (codes "Eq") (i.enumerated (i.bounded [])))))) p6

second_insts_formed : (out : List Inst) → Insts out → Insts (i.second_insts out)
second_insts_formed out p0 =
    let p1 = constructors_formed (codes "Monad") out p0 in
    let p2 = numeric_formed (codes "Num") (i.constructors (codes "Monad") (out)) p1 in
    compared_formed (codes "Ord") (i.numeric (codes "Num") (i.constructors (codes "Monad") (out))) p2

third_insts_formed : (out : List Inst) → Insts out → Insts (i.third_insts out)
third_insts_formed out p0 =
    let p1 = printed_formed (codes "Read") out p0 in
    numeric_formed (codes "Real") (i.printed (codes "Read") (out)) p1

fourth_insts_formed : (out : List Inst) → Insts out → Insts (i.fourth_insts out)
fourth_insts_formed out p0 =
    let p1 = fractional_formed (codes "RealFrac") out p0 in
    printed_formed (codes "Show") (i.fractional (codes "RealFrac") (out)) p1

insts_formed : Insts i.insts
insts_formed =
    let second = second_insts_formed i.first_insts first_insts_formed in
    let third = third_insts_formed (i.second_insts i.first_insts) second in
    fourth_insts_formed (i.third_insts (i.second_insts i.first_insts)) third

pub face_formed : FaceFormed prim_face
face_formed = (decls_formed, insts_formed)
