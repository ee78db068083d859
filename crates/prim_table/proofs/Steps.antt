-- What the reader of types does with steps left, and without, and lists by their counts.
use Rattle.std.proofs.Common.{◌≡◌, ℕ, suc, zero, ◌-◌, ◌<◌, List, [], ◌∷◌, ◌++◌, length, refl, ap, arith}
use Rattle.std.specs.Prelude.{codes}
use Rattle.mk_base.specs.declared.kind.Kind.TheVariants as kinds
use Rattle.mk_base.specs.declared.ty.Ty.TheVariants as types
use Rattle.face_model.specs.declared.decl.Decl.{Decl}
use Rattle.face_model.specs.declared.inst.Inst.{Inst}
use Rattle.prim_table.specs.Spelled.{read, read_as, con, on}
use Rattle.prim_table.specs.Insts.{each, at_tuple, at_tuples}
use Rattle.prim_table.specs.Types.{stars, field, fields, commas, tuple, tuples}

pub read_end : (cs : List ℕ) → read 0 cs ≡ (con (codes "()"), cs)
unfolding read
read_end cs = refl

pub read_nothing : (n : ℕ) → 0 < n → (cs : List ℕ) → length cs ≡ 0 → read n cs ≡ (con (codes "()"), cs)
unfolding read
read_nothing zero h cs e = absurd (let f : ⊥ = omega arith in f)
read_nothing (suc n) h [] e = refl
read_nothing (suc n) h (c ∷ cs) e = absurd (let f : ⊥ = omega arith in f)

pub read_step : (n : ℕ) → 0 < n → (c : ℕ) (cs : List ℕ) → read n (c ∷ cs) ≡ read_as (read (n - 1)) c cs
unfolding read
read_step zero h c cs = absurd (let e : ⊥ = omega arith in e)
read_step (suc n) h c cs = let e : n ≡ suc n - 1 = omega arith in ap (λ k. read_as (read k) c cs) e

pub stars_end : stars 0 ≡ []
unfolding stars
stars_end = refl

pub stars_step : (n : ℕ) → 0 < n → stars n ≡ stars (n - 1) ++ kinds.Star ∷ []
unfolding stars
stars_step zero h = absurd (let e : ⊥ = omega arith in e)
stars_step (suc n) h = let e : n ≡ suc n - 1 = omega arith in ap (λ k. stars k ++ kinds.Star ∷ []) e

pub fields_end : fields 0 ≡ []
unfolding fields
fields_end = refl

pub fields_step : (n : ℕ) → 0 < n → fields n ≡ fields (n - 1) ++ field (types.Var (n - 1)) ∷ []
unfolding fields
fields_step zero h = absurd (let e : ⊥ = omega arith in e)
fields_step (suc n) h = let e : n ≡ suc n - 1 = omega arith in ap (λ k. fields k ++ field (types.Var k) ∷ []) e

pub commas_end : commas 0 ≡ []
unfolding commas
commas_end = refl

pub commas_step : (n : ℕ) → 0 < n → commas n ≡ commas (n - 1) ++ 44 ∷ []
unfolding commas
commas_step zero h = absurd (let e : ⊥ = omega arith in e)
commas_step (suc n) h = let e : n ≡ suc n - 1 = omega arith in ap (λ k. commas k ++ 44 ∷ []) e

pub tuples_end : (out : List Decl) → tuples 0 out ≡ out
unfolding tuples
tuples_end out = refl

pub tuples_step : (n : ℕ) → 0 < n → (out : List Decl) → tuples n out ≡ tuples (n - 1) out ++ tuple n ∷ []
unfolding tuples
tuples_step zero h out = absurd (let e : ⊥ = omega arith in e)
tuples_step (suc n) h out = let e : n ≡ suc n - 1 = omega arith in ap (λ k. tuples k out ++ tuple (suc n) ∷ []) e

pub each_end : (class : List ℕ) → each class 0 ≡ []
unfolding each
each_end class = refl

pub each_step : (class : List ℕ) (n : ℕ) → 0 < n → each class n ≡ each class (n - 1) ++ on class (n - 1) ∷ []
unfolding each
each_step class zero h = absurd (let e : ⊥ = omega arith in e)
each_step class (suc n) h = let e : n ≡ suc n - 1 = omega arith in ap (λ k. each class k ++ on class k ∷ []) e

pub at_tuples_end : (class : List ℕ) (out : List Inst) → at_tuples class 0 out ≡ out
unfolding at_tuples
at_tuples_end class out = refl

pub at_tuples_step : (class : List ℕ) (n : ℕ) → 0 < n → (out : List Inst) → at_tuples class n out ≡ at_tuples class (n - 1) out ++ at_tuple class n ∷ []
unfolding at_tuples
at_tuples_step class zero h out = absurd (let e : ⊥ = omega arith in e)
at_tuples_step class (suc n) h out = let e : n ≡ suc n - 1 = omega arith in ap (λ k. at_tuples class k out ++ at_tuple class (suc n) ∷ []) e
