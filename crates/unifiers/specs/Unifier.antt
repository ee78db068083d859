-- Substitutions that make pairs of terms equal, and the most general one.
use Rattle.std.specs.Prelude.{ℕ, Bool, true, ◌≡◌, ◌↔◌, List, ◌++◌, map}
use Rattle.std.specs.List.{Contains}
use Rattle.unifiers.specs.Term.{Term, apply, Occurs}
use Rattle.unifiers.specs.Term.Term.{var}

-- s leaves the rigid variables alone and makes both sides of each pair equal
pub record Solves (rigid : ℕ → Bool) (pairs : List (Term × Term)) (s : ℕ → Term) : Type 0 where
  pub rigid_stay : (n : ℕ) → rigid n ≡ true → s n ≡ var n
  pub equal : (t u : Term) → Contains pairs (t, u) → apply s t ≡ apply s u

-- s solves the pairs, and each substitution that does is an instance of s: of itself after s
pub record MostGeneral (rigid : ℕ → Bool) (pairs : List (Term × Term)) (s : ℕ → Term) : Type 0 where
  pub solves : Solves rigid pairs s
  pub general : (r : ℕ → Term) → Solves rigid pairs r → (n : ℕ) → apply r (s n) ≡ r n

-- one substitution after another
abbrev pub after : (ℕ → Term) → (ℕ → Term) → ℕ → Term
after r s n = apply r (s n)

abbrev pub image : (ℕ → Term) → Term × Term → Term × Term
image s p = (apply s p.0, apply s p.1)

abbrev pub MostGeneralOneAfterAnother : Type 0
MostGeneralOneAfterAnother = (rigid : ℕ → Bool) (first more : List (Term × Term)) (s r : ℕ → Term)
    → MostGeneral rigid first s → MostGeneral rigid (map (image s) more) r → MostGeneral rigid (first ++ more) (after r s)

-- a substitution that leaves the rigid variables alone
abbrev pub Fixes : (ℕ → Bool) → (ℕ → Term) → Type 0
Fixes rigid s = (n : ℕ) → rigid n ≡ true → s n ≡ var n

-- what solves the pairs is exactly what is an instance of a most general solution
abbrev pub SolutionsAreInstances : Type 0
SolutionsAreInstances = (rigid : ℕ → Bool) (pairs : List (Term × Term)) (s : ℕ → Term) → MostGeneral rigid pairs s
    → (r : ℕ → Term) → Solves rigid pairs r ↔ ((u : ℕ → Term) × (Fixes rigid u × ((n : ℕ) → r n ≡ apply u (s n))))

-- two most general solutions give terms that differ in the names of their variables alone: each variable of the one is
-- a variable of the other, and that leads back to it
abbrev pub UniqueUpToRenaming : Type 0
UniqueUpToRenaming = (rigid : ℕ → Bool) (pairs : List (Term × Term)) (s r : ℕ → Term) → MostGeneral rigid pairs s → MostGeneral rigid pairs r
    → (t : Term) → (apply r (apply s t) ≡ apply r t) × ((v : ℕ) → Occurs v (apply s t) → (w : ℕ) × ((r v ≡ var w) × (s w ≡ var v)))
