-- The first module of a loop.
use Rattle.std.specs.Prelude.{ℕ, ◌<◌}
use Rattle.numbered_nodes.specs.Reach.{InOneLoop}

-- m is in the loop of x over these edges of modules, and no lesser number is
abbrev pub IsFirstInLoop : (ℕ → ℕ → Type 0) → ℕ → ℕ → Type 0
IsFirstInLoop M x m = InOneLoop M x m × ((y : ℕ) → y < m → InOneLoop M x y → ⊥)
