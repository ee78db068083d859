-- Chains of steps between numbers, as a test: what is reached over numbers below a bound.
use Rattle.std.specs.Prelude.{◌≡◌, ◌↔◌, ◌<◌, ℕ, zero, suc, Bool, true, false, ◌&&◌, ◌||◌, List, [], ◌∷◌, ◌++◌, Some, None, Option, nat_eq, if◌then◌else◌}
use Rattle.numbered_nodes.specs.Reach.{Reach}

-- the option is this number
abbrev pub is_at : Option ℕ → ℕ → Bool
is_at None k = false
is_at (Some i) k = nat_eq i k

-- some number below the bound passes
abbrev pub any_below : ℕ → (ℕ → Bool) → Bool
any_below zero p = false
any_below (suc k) p = any_below k p || p k

-- the numbers below the bound that pass, rising
abbrev pub below : ℕ → (ℕ → Bool) → List ℕ
below zero p = []
below (suc k) p = below k p ++ (if p k then k ∷ [] else [])

-- one comes from a to b by one step or more, over numbers below the bound alone
abbrev pub over : (ℕ → ℕ → Bool) → ℕ → ℕ → ℕ → Bool
over e zero a b = e a b
over e (suc k) a b = over e k a b || (over e k a k && over e k k b)

-- the steps lie between numbers below n
abbrev pub AreBelow : (ℕ → ℕ → Bool) → ℕ → Type 0
AreBelow e n = (a b : ℕ) → e a b ≡ true → (a < n) × (b < n)

-- the test as a relation
abbrev pub IsStep : (ℕ → ℕ → Bool) → ℕ → ℕ → Type 0
IsStep e a b = e a b ≡ true

-- Where the steps lie below n, the test over n is the transitive closure of the steps.
abbrev pub OverIsReach : (ℕ → ℕ → Bool) → ℕ → Type 0
OverIsReach e n = AreBelow e n → (a b : ℕ) → (over e n a b ≡ true) ↔ Reach (IsStep e) a b
