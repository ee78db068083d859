-- The test whether two texts are the same.
use Rattle.std.specs.Prelude.{ℕ, Bool, nat_eq, List}
use Rattle.std.specs.Cmp.Lexicographic.{pointwise}

-- byte by byte
abbrev pub same_text : List ℕ → List ℕ → Bool
same_text a b = pointwise nat_eq a b
