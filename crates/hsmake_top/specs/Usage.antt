-- What is printed for a faulty command line.
use Rattle.std.specs.Prelude.{ℕ, List, ◌∷◌, [], ◌++◌, codes}

abbrev pub usage_line : List ℕ
usage_line = codes "usage: hsmake session | make [--jobs N] [--unit NAME] [--prelude] [EXT ...] | show FILE" ++ 10 ∷ []
