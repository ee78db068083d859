-- A plain solver: where pairs of terms differ first, a variable has to be a term; put it there, and go on.
use Rattle.std.specs.Prelude.{ℕ, zero, suc, Bool, true, false, ◌≡◌, ◌↔◌, ◌||◌, nat_eq, if◌then◌else◌, List, [], ◌∷◌, ◌++◌, map, length, Some, None, is_some}
use Rattle.std.specs.declared.option.Option.{Option}
use Rattle.std.specs.Option.{option_map}
use Rattle.std.specs.Ordering.{is_eq}
use Rattle.mk_base.specs.declared.name.Name.{Name}
use Rattle.mk_base.specs.Order.{name_cmp}
use Rattle.unifiers.specs.Term.{Term}
use Rattle.unifiers.specs.Term.Term.{var, con, app}
use Rattle.unifiers.specs.Unifier.{Solves, MostGeneral, after, image}

abbrev pub same_name : Name → Name → Bool
same_name a b = is_eq (name_cmp a b)

-- the variable stands in the term
abbrev pub has : ℕ → Term → Bool
has v (var n) = nat_eq n v
has v (con c) = false
has v (app f a) = has v f || has v a

-- where two terms differ first: nowhere, where nothing makes them equal, or where a variable has to be a term
pub data Difference : Type 0 where
  Same : Difference
  Clash : Difference
  Bind : ℕ → Term → Difference

abbrev pub first : Difference → Difference → Difference
first Same d = d
first Clash d = Clash
first (Bind v t) d = Bind v t

-- a variable against another term
abbrev pub bind : (ℕ → Bool) → ℕ → Term → Difference
bind rigid v t = if rigid v || has v t then Clash else Bind v t

abbrev pub difference : (ℕ → Bool) → Term → Term → Difference
difference rigid (var m) (var n) = if nat_eq m n then Same else (if rigid m then bind rigid n (var m) else bind rigid m (var n))
difference rigid (var m) (con d) = bind rigid m (con d)
difference rigid (var m) (app g b) = bind rigid m (app g b)
difference rigid (con c) (var n) = bind rigid n (con c)
difference rigid (con c) (con d) = if same_name c d then Same else Clash
difference rigid (con c) (app g b) = Clash
difference rigid (app f a) (var n) = bind rigid n (app f a)
difference rigid (app f a) (con d) = Clash
difference rigid (app f a) (app g b) = first (difference rigid f g) (difference rigid a b)

abbrev pub first_difference : (ℕ → Bool) → List (Term × Term) → Difference
first_difference rigid [] = Same
first_difference rigid (p ∷ ps) = first (difference rigid p.0 p.1) (first_difference rigid ps)

-- the variable is the term, and each other one stays
abbrev pub put : ℕ → Term → ℕ → Term
put v t n = if nat_eq n v then t else var n

abbrev pub settle : Difference → (ℕ → Term → Option (ℕ → Term)) → Option (ℕ → Term)
settle Same go = Some (λ n. var n)
settle Clash go = None
settle (Bind v t) go = go v t

-- the solution, where the pairs have at most so many variables
abbrev pub solve_within : (ℕ → Bool) → ℕ → List (Term × Term) → Option (ℕ → Term)
solve_within rigid zero pairs = settle (first_difference rigid pairs) (λ v t. None)
solve_within rigid (suc k) pairs =
    settle (first_difference rigid pairs) (λ v t. option_map (λ s. after s (put v t)) (solve_within rigid k (map (image (put v t)) pairs)))

abbrev pub variables : Term → List ℕ
variables (var n) = n ∷ []
variables (con c) = []
variables (app f a) = variables f ++ variables a

abbrev pub variables_of : List (Term × Term) → List ℕ
variables_of [] = []
variables_of (p ∷ ps) = variables p.0 ++ (variables p.1 ++ variables_of ps)

unfoldable pub solve : (ℕ → Bool) → List (Term × Term) → Option (ℕ → Term)
solve rigid pairs = solve_within rigid (length (variables_of pairs)) pairs

abbrev pub NoneWhereNothingSolves : Type 0
NoneWhereNothingSolves = (rigid : ℕ → Bool) (pairs : List (Term × Term)) → (solve rigid pairs ≡ None) ↔ ((s : ℕ → Term) → Solves rigid pairs s → ⊥)

-- so whether there is a solution is a test
abbrev pub SolvedIsATest : Type 0
SolvedIsATest = (rigid : ℕ → Bool) (pairs : List (Term × Term)) → (is_some (solve rigid pairs) ≡ true) ↔ ((s : ℕ → Term) × Solves rigid pairs s)

abbrev pub SolutionIsMostGeneral : Type 0
SolutionIsMostGeneral = (rigid : ℕ → Bool) (pairs : List (Term × Term)) (s : ℕ → Term) → solve rigid pairs ≡ Some s → MostGeneral rigid pairs s
