-- The same pairs over other numbers for the variables, as an arena has numbers of its own.
use Rattle.std.specs.Prelude.{ℕ, zero, suc, Bool, false, ◌≡◌, ◌↔◌, ◌+◌, ◌<◌, List, [], ◌∷◌, ◌++◌, map, length, Some, None}
use Rattle.unifiers.specs.Term.{Term, apply}
use Rattle.unifiers.specs.Term.Term.{var, con, app}
use Rattle.unifiers.specs.Unifier.{Solves, MostGeneral, image}
use Rattle.unifiers.specs.Solver.{solve}
use Rattle.unifiers.specs.Reading.{closed, stands_in, scheme_of, solved_closed, solved_scheme}

abbrev pub number : (ℕ → ℕ) → ℕ → Term
number f n = var (f n)

abbrev pub renamed : (ℕ → ℕ) → Term → Term
renamed f t = apply (number f) t

abbrev pub renamed_pairs : (ℕ → ℕ) → List (Term × Term) → List (Term × Term)
renamed_pairs f pairs = map (image (number f)) pairs

-- distinct numbers have distinct ones, and the rigid variables are the same
abbrev pub IsRenaming : (ℕ → ℕ) → (ℕ → Bool) → (ℕ → Bool) → Type 0
IsRenaming f own rigid = ((m n : ℕ) → f m ≡ f n → m ≡ n) × ((n : ℕ) → rigid (f n) ≡ own n)

-- the numbers of a list, and behind its end those from a size on
abbrev pub numbering : List ℕ → ℕ → ℕ → ℕ
numbering [] size n = size + n
numbering (v ∷ vs) size zero = v
numbering (v ∷ vs) size (suc n) = numbering vs size n

-- the numbers of a list are below a size, and none stands there twice
abbrev pub AreNumbers : ℕ → List ℕ → Type 0
AreNumbers size [] = Unit {0}
AreNumbers size (v ∷ vs) = (v < size) × (stands_in vs v ≡ false) × AreNumbers size vs

-- such a list numbers variables, and one more term, which may be a variable, keeps it so
abbrev pub ListsNumberVariables : Type 0
ListsNumberVariables = (size : ℕ) (vs : List ℕ) → AreNumbers size vs
    → ((m n : ℕ) → numbering vs size m ≡ numbering vs size n → m ≡ n) × AreNumbers (size + 1) vs × AreNumbers (size + 1) (vs ++ size ∷ [])

-- each variable of a term is below a number
abbrev pub IsBelow : ℕ → Term → Type 0
IsBelow k (var n) = n < k
IsBelow k (con c) = Unit {0}
IsBelow k (app f a) = IsBelow k f × IsBelow k a

abbrev pub AreBelow : ℕ → List (Term × Term) → Type 0
AreBelow k [] = Unit {0}
AreBelow k (p ∷ ps) = IsBelow k p.0 × IsBelow k p.1 × AreBelow k ps

-- what was numbered stays so when more terms are made
abbrev pub NumbersStay : Type 0
NumbersStay = (vs more : List ℕ) (size larger : ℕ)
    → ((t : Term) → IsBelow (length vs) t → renamed (numbering (vs ++ more) larger) t ≡ renamed (numbering vs size) t)
    × ((pairs : List (Term × Term)) → AreBelow (length vs) pairs → renamed_pairs (numbering (vs ++ more) larger) pairs ≡ renamed_pairs (numbering vs size) pairs)

abbrev pub RenamedHasNoneAlike : Type 0
RenamedHasNoneAlike = (f : ℕ → ℕ) (own rigid : ℕ → Bool) → IsRenaming f own rigid → (pairs : List (Term × Term))
    → (solve own pairs ≡ None) ↔ ((s : ℕ → Term) → Solves rigid (renamed_pairs f pairs) s → ⊥)

abbrev pub SolverReadsRenamed : Type 0
SolverReadsRenamed = (f : ℕ → ℕ) (own rigid : ℕ → Bool) → IsRenaming f own rigid → (pairs : List (Term × Term)) (s : ℕ → Term)
    → MostGeneral rigid (renamed_pairs f pairs) s
    → (k t : Term) → (solved_closed own pairs k t ≡ Some (closed k (apply s (renamed f t)))) × (solved_scheme own pairs t ≡ Some (scheme_of (apply s (renamed f t))))
