-- Rows of numbers that have one in common.
use Rattle.std.specs.Prelude.{ℕ, List}
use Rattle.numbered_nodes.specs.Edges.{HasEdge}

-- some number stands in row i of `used` and in row j of `bound`
abbrev pub Meets : List (List ℕ) → List (List ℕ) → ℕ → ℕ → Type 0
Meets used bound i j = (x : ℕ) × HasEdge used i x × HasEdge bound j x
