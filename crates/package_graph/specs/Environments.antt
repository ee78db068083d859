-- What single nodes bring in, put together to environments.
use Rattle.std.specs.Prelude.{ℕ, Bool, ◌&&◌, ◌||◌, List, [], get_or, length}
use Rattle.numbered_nodes.specs.Bits.{has}
use Rattle.numbered_nodes.specs.Chains.{any_below}

-- the number k stands in the row a, or in that of a number in the set
abbrev pub among : List (List ℕ) → List ℕ → ℕ → ℕ → Bool
among own needed a k = has (get_or own a []) k || any_below (length own) (λ b. has needed b && has (get_or own b []) k)
