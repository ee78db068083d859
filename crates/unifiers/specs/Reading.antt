-- What is read under a most general solution: closed terms and schemes.
use Rattle.std.specs.Prelude.{ℕ, Bool, false, ◌≡◌, ◌+◌, ◌||◌, nat_eq, if◌then◌else◌, List, [], ◌∷◌, ◌++◌, length, Some}
use Rattle.std.specs.declared.option.Option.{Option}
use Rattle.std.specs.Option.{option_map}
use Rattle.unifiers.specs.Term.{Term, apply}
use Rattle.unifiers.specs.Term.Term.{var, con, app}
use Rattle.unifiers.specs.Unifier.{MostGeneral}
use Rattle.unifiers.specs.Solver.{solve}

-- the term with another one for each variable, as a kind has `*` for what is free
abbrev pub closed : Term → Term → Term
closed k t = apply (λ n. k) t

pub record Scheme : Type 0 where
  pub vars : ℕ
  pub body : Term

abbrev pub stands_in : List ℕ → ℕ → Bool
stands_in [] v = false
stands_in (w ∷ ws) v = nat_eq w v || stands_in ws v

-- the variables so far and those of the term, by first place
abbrev pub places : List ℕ → Term → List ℕ
places vs (var v) = if stands_in vs v then vs else (vs ++ v ∷ [])
places vs (con c) = vs
places vs (app f a) = places (places vs f) a

-- the place of a variable
abbrev pub place : List ℕ → ℕ → ℕ
place [] v = 0
place (w ∷ ws) v = if nat_eq w v then 0 else (1 + place ws v)

-- the scheme that has every variable of a term
abbrev pub scheme_of : Term → Scheme
scheme_of t = record { vars = length (places [] t); body = apply (λ v. var (place (places [] t) v)) t }

-- what the solver's solution makes of a term, read
abbrev pub solved_closed : (ℕ → Bool) → List (Term × Term) → Term → Term → Option Term
solved_closed rigid pairs k t = option_map (λ s. closed k (apply s t)) (solve rigid pairs)

abbrev pub solved_scheme : (ℕ → Bool) → List (Term × Term) → Term → Option Scheme
solved_scheme rigid pairs t = option_map (λ s. scheme_of (apply s t)) (solve rigid pairs)

-- of two most general solutions each gives what a substitution makes of what the other gives
abbrev pub MostGeneralAreInstances : Type 0
MostGeneralAreInstances = (rigid : ℕ → Bool) (pairs : List (Term × Term)) (s r : ℕ → Term)
    → MostGeneral rigid pairs s → MostGeneral rigid pairs r → (t : Term) → (apply r (apply s t) ≡ apply r t) × (apply s (apply r t) ≡ apply s t)

-- and what is read under them is equal
abbrev pub ClosedIsOne : Type 0
ClosedIsOne = (rigid : ℕ → Bool) (pairs : List (Term × Term)) (s r : ℕ → Term)
    → MostGeneral rigid pairs s → MostGeneral rigid pairs r → (k t : Term) → closed k (apply s t) ≡ closed k (apply r t)

abbrev pub SchemeIsOne : Type 0
SchemeIsOne = (rigid : ℕ → Bool) (pairs : List (Term × Term)) (s r : ℕ → Term)
    → MostGeneral rigid pairs s → MostGeneral rigid pairs r → (t : Term) → scheme_of (apply s t) ≡ scheme_of (apply r t)

-- so the solver reads what any most general solution does
abbrev pub SolverReadsTheSame : Type 0
SolverReadsTheSame = (rigid : ℕ → Bool) (pairs : List (Term × Term)) (s : ℕ → Term) → MostGeneral rigid pairs s
    → (k t : Term) → (solved_closed rigid pairs k t ≡ Some (closed k (apply s t))) × (solved_scheme rigid pairs t ≡ Some (scheme_of (apply s t)))
