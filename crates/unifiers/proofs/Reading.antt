-- What is read under two most general solutions is equal.
use Rattle.std.proofs.Common.{ℕ, Bool, true, false, ◌≡◌, nat_eq, List, [], ◌∷◌, ◌++◌, length, Some, None, Option, if◌then◌else◌, refl, sym, ap, ◌∙◌, subst}
use Rattle.std.specs.Option.{option_map}
use Rattle.std.proofs.lemmas.Bool.{eqb-true, eq-eqb}
use Rattle.unifiers.specs.Term.{Term, apply}
use Rattle.unifiers.specs.Term.Term.{var, con, app}
use Rattle.unifiers.specs.Unifier.{Solves, MostGeneral, after}
use Rattle.unifiers.proofs.Laws.{apply_after, apply_alike}
use Rattle.unifiers.specs.Solver.{solve}
use Rattle.unifiers.specs.Reading.{closed, stands_in, places, place, Scheme, scheme_of, MostGeneralAreInstances, ClosedIsOne, SchemeIsOne, SolverReadsTheSame}
use Rattle.unifiers.proofs.Solving.{none_where, most_general_solution}

instance_of : (rigid : ℕ → Bool) (pairs : List (Term × Term)) (s r : ℕ → Term) → MostGeneral rigid pairs s → Solves rigid pairs r → (t : Term) → apply r (apply s t) ≡ apply r t
instance_of rigid pairs s r h g t = apply_after r s t ∙ apply_alike (after r s) r (h.general r g) t

pub instances : MostGeneralAreInstances
instances rigid pairs s r h g t = (instance_of rigid pairs s r h g.solves t, instance_of rigid pairs r s g h.solves t)

pub same_tests : (a b : Bool) → (a ≡ true → b ≡ true) → (b ≡ true → a ≡ true) → a ≡ b
same_tests true true f g = refl
same_tests false false f g = refl
same_tests true false f g = sym (f refl)
same_tests false true f g = g refl

module _ (u w : ℕ → Term) where
  abbrev pub Back : Term → Type 0
  Back a = apply w (apply u a) ≡ a

  -- what stands for a variable is a variable
  var_at : (t : Term) (v : ℕ) → apply w t ≡ var v → (x : ℕ) × (t ≡ var x) × (w x ≡ var v)
  var_at (var x) v e = (x, refl, e)
  var_at (con c) v e = let h : con c ≡ var v = e in absurd (cc)
  var_at (app f a) v e = let h : app (apply w f) (apply w a) ≡ var v = e in absurd (cc)

  left_of : (f a : Term) → Back (app f a) → Back f
  left_of f a e = let h : app (apply w (apply u f)) (apply w (apply u a)) ≡ app f a = e in cc

  right_of : (f a : Term) → Back (app f a) → Back a
  right_of f a e = let h : app (apply w (apply u f)) (apply w (apply u a)) ≡ app f a = e in cc

  pub closed_alike : (k a : Term) → Back a → closed k a ≡ closed k (apply u a)
  closed_alike k (var v) e = let x = var_at (u v) v e in ap (closed k) (sym x.1)
  closed_alike k (con c) e = refl
  closed_alike k (app f a) e = let l = closed_alike k f (left_of f a e) in let r = closed_alike k a (right_of f a e) in cc

  -- the variables of one list stand for those of the other
  abbrev pub Paired : List ℕ → List ℕ → Type 0
  Paired [] [] = Unit {0}
  Paired [] (x ∷ xs) = ⊥
  Paired (v ∷ vs) [] = ⊥
  Paired (v ∷ vs) (x ∷ xs) = (u v ≡ var x) × (w x ≡ var v) × Paired vs xs

  one_name : (h v g x : ℕ) → u h ≡ var g → u v ≡ var x → h ≡ v → g ≡ x
  one_name h v g x uh uv e = let k : u h ≡ u v = ap u e in let j : var g ≡ var x = sym uh ∙ k ∙ uv in cc

  back_name : (h v g x : ℕ) → w g ≡ var h → w x ≡ var v → g ≡ x → h ≡ v
  back_name h v g x wg wx e = let k : w g ≡ w x = ap w e in let j : var h ≡ var v = sym wg ∙ k ∙ wx in cc

  same_test : (h v g x : ℕ) → u h ≡ var g → w g ≡ var h → u v ≡ var x → w x ≡ var v → nat_eq h v ≡ nat_eq g x
  same_test h v g x uh wg uv wx = same_tests (nat_eq h v) (nat_eq g x) (λ e. eq-eqb g x (one_name h v g x uh uv (eqb-true h v e))) (λ e. eq-eqb h v (back_name h v g x wg wx (eqb-true g x e)))

  in_alike : (vs xs : List ℕ) (v x : ℕ) → Paired vs xs → u v ≡ var x → w x ≡ var v → stands_in vs v ≡ stands_in xs x
  in_alike [] [] v x p uv wx = refl
  in_alike [] (g ∷ xs) v x p uv wx = absurd p
  in_alike (h ∷ vs) [] v x p uv wx = absurd p
  in_alike (h ∷ vs) (g ∷ xs) v x p uv wx = let t = same_test h v g x p.0 p.1 uv wx in let r = in_alike vs xs v x p.2 uv wx in cc

  place_alike : (vs xs : List ℕ) (v x : ℕ) → Paired vs xs → u v ≡ var x → w x ≡ var v → place vs v ≡ place xs x
  place_alike [] [] v x p uv wx = refl
  place_alike [] (g ∷ xs) v x p uv wx = absurd p
  place_alike (h ∷ vs) [] v x p uv wx = absurd p
  place_alike (h ∷ vs) (g ∷ xs) v x p uv wx = let t = same_test h v g x p.0 p.1 uv wx in let r = place_alike vs xs v x p.2 uv wx in cc

  length_alike : (vs xs : List ℕ) → Paired vs xs → length vs ≡ length xs
  length_alike [] [] p = refl
  length_alike [] (g ∷ xs) p = absurd p
  length_alike (h ∷ vs) [] p = absurd p
  length_alike (h ∷ vs) (g ∷ xs) p = let r = length_alike vs xs p.2 in cc

  paired_last : (vs xs : List ℕ) (v x : ℕ) → Paired vs xs → u v ≡ var x → w x ≡ var v → Paired (vs ++ v ∷ []) (xs ++ x ∷ [])
  paired_last [] [] v x p uv wx = (uv, wx, tt)
  paired_last [] (g ∷ xs) v x p uv wx = absurd p
  paired_last (h ∷ vs) [] v x p uv wx = absurd p
  paired_last (h ∷ vs) (g ∷ xs) v x p uv wx = (p.0, p.1, paired_last vs xs v x p.2 uv wx)

  paired_cond : (b : Bool) (vs xs ys zs : List ℕ) → Paired vs xs → Paired ys zs → Paired (if b then vs else ys) (if b then xs else zs)
  paired_cond true vs xs ys zs p q = p
  paired_cond false vs xs ys zs p q = q

  places_alike : (a : Term) (vs xs : List ℕ) → Back a → Paired vs xs → Paired (places vs a) (places xs (apply u a))
  places_alike (var v) vs xs e p =
      let k = var_at (u v) v e in
      let uv : u v ≡ var k.0 = k.1 in
      let q : Paired (if stands_in vs v then vs else (vs ++ v ∷ [])) (if stands_in xs k.0 then xs else (xs ++ k.0 ∷ [])) =
      subst (λ (b : Bool). Paired (if stands_in vs v then vs else (vs ++ v ∷ [])) (if b then xs else (xs ++ k.0 ∷ []))) (in_alike vs xs v k.0 p uv k.2)
      (paired_cond (stands_in vs v) vs xs (vs ++ v ∷ []) (xs ++ k.0 ∷ []) p (paired_last vs xs v k.0 p uv k.2)) in
      subst (λ (t : Term). Paired (places vs (var v)) (places xs t)) (sym uv) q
  places_alike (con c) vs xs e p = p
  places_alike (app f a) vs xs e p = places_alike a (places vs f) (places xs (apply u f)) (right_of f a e) (places_alike f vs xs (left_of f a e) p)

  body_alike : (a : Term) (vs xs : List ℕ) → Back a → Paired vs xs → apply (λ v. var (place vs v)) a ≡ apply (λ v. var (place xs v)) (apply u a)
  body_alike (var v) vs xs e p =
      let k = var_at (u v) v e in
      let uv : u v ≡ var k.0 = k.1 in
      let q : var (place vs v) ≡ var (place xs k.0) = ap var (place_alike vs xs v k.0 p uv k.2) in
      subst (λ (t : Term). var (place vs v) ≡ apply (λ y. var (place xs y)) t) (sym uv) q
  body_alike (con c) vs xs e p = refl
  body_alike (app f a) vs xs e p = let l = body_alike f vs xs (left_of f a e) p in let r = body_alike a vs xs (right_of f a e) p in cc

  pub schemes_alike : (a : Term) → Back a → scheme_of a ≡ scheme_of (apply u a)
  schemes_alike a e =
      let p : Paired (places [] a) (places [] (apply u a)) = places_alike a [] [] e tt in
      let l = length_alike (places [] a) (places [] (apply u a)) p in
      let b = body_alike a (places [] a) (places [] (apply u a)) e p in
      cc

-- two terms each of which is what a substitution makes of the other
schemes_one : (u w : ℕ → Term) (a b : Term) → apply u a ≡ b → apply w b ≡ a → scheme_of a ≡ scheme_of b
schemes_one u w a b e f = schemes_alike u w a (ap (apply w) e ∙ f) ∙ ap scheme_of e

closed_term : (u w : ℕ → Term) (k a b : Term) → apply u a ≡ b → apply w b ≡ a → closed k a ≡ closed k b
closed_term u w k a b e f = closed_alike u w k a (ap (apply w) e ∙ f) ∙ ap (closed k) e

pub closed_one : ClosedIsOne
closed_one rigid pairs s r h g k t = let i = instances rigid pairs s r h g t in closed_term r s k (apply s t) (apply r t) i.0 i.1

pub scheme_one : SchemeIsOne
scheme_one rigid pairs s r h g t = let i = instances rigid pairs s r h g t in schemes_one r s (apply s t) (apply r t) i.0 i.1

read_by : (A : Type 0) (f : (ℕ → Term) → A) (rigid : ℕ → Bool) (pairs : List (Term × Term)) (s : ℕ → Term) → MostGeneral rigid pairs s
    → ((r : ℕ → Term) → MostGeneral rigid pairs r → f r ≡ f s) → option_map f (solve rigid pairs) ≡ Some (f s)
read_by A f rigid pairs s h one = by (solve rigid pairs) refl
  where
    by : (o : Option (ℕ → Term)) → solve rigid pairs ≡ o → option_map f o ≡ Some (f s)
    by None e = absurd ((none_where rigid pairs).0 e s h.solves)
    by (Some r) e = ap Some (one r (most_general_solution rigid pairs r e))

pub reads_the_same : SolverReadsTheSame
reads_the_same rigid pairs s h k t = (
  read_by Term (λ r. closed k (apply r t)) rigid pairs s h (λ r g. closed_one rigid pairs r s g h k t),
  read_by Scheme (λ r. scheme_of (apply r t)) rigid pairs s h (λ r g. scheme_one rigid pairs r s g h t),
)
