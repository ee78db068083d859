-- Nodes that have a name for their loop, some of them.
use Rattle.std.specs.Prelude.{ℕ, ◌≡◌, ◌⊎◌, ◌<◌, List, get_or}
use Rattle.numbered_nodes.specs.Reach.{InOneLoop}

-- Of the nodes below n those whose name isn't n have one: a node of their loop, and all of a loop have the same. No
-- mark is a node that has no name.
pub record AreParted (E : ℕ → ℕ → Type 0) (n : ℕ) (names marks : List ℕ) : Type 0 where
  pub named : (a : ℕ) → a < n → (get_or names a 0 ≡ n) ⊎ ((get_or names a 0 < n) × InOneLoop E a (get_or names a 0))
  pub whole : (a b : ℕ) → a < n → b < n → (get_or names a 0 ≡ n → ⊥) → InOneLoop E a b → get_or names b 0 ≡ get_or names a 0
  pub used : (a : ℕ) → a < n → get_or marks a 0 < n → get_or names (get_or marks a 0) 0 ≡ n → ⊥
