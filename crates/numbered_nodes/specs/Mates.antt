-- Loops of a relation that is given by rows.
use Rattle.std.specs.Prelude.{ℕ, ◌≡◌, ◌⊎◌, List}
use Rattle.numbered_nodes.specs.Edges.{Relates}

-- the same node, or each related to the other
abbrev pub AreMates : List (List ℕ) → ℕ → ℕ → Type 0
AreMates rows a b = (a ≡ b) ⊎ (Relates rows a b × Relates rows b a)
