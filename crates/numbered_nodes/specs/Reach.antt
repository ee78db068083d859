-- What is reached over edges between numbered nodes, whatever the edges are. Over imports: an import leads to a node,
-- and a node reaches what a chain of imports leads to.
use Rattle.std.specs.Prelude.{ℕ, ◌≡◌, ◌⊎◌}

-- b is reached from a by one edge or more; so a node reaches itself only over a cycle
pub data Reach (E : ℕ → ℕ → Type 0) : ℕ → ℕ → Type 0 where
  edge : {a b : ℕ} → E a b → Reach E a b
  onward : {a b c : ℕ} → E a b → Reach E b c → Reach E a c

-- in one loop: the same, or each reaches the other. The loop of a node is its class of mutual reach.
abbrev pub InOneLoop : (ℕ → ℕ → Type 0) → ℕ → ℕ → Type 0
InOneLoop E a b = (a ≡ b) ⊎ (Reach E a b × Reach E b a)
