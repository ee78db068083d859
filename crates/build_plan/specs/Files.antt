-- What is asked of the files of a tree.
use Rattle.std.specs.Prelude.{◌<◌, ◌^◌, ◌≡◌, List, [], ◌∷◌, length}
use Rattle.std.specs.List.{AllByRecursion}
use Rattle.mk_io.specs.declared.file.File.{File}

-- no two files have one name
abbrev pub AreDistinct : List File → Type 0
AreDistinct [] = Unit {0}
AreDistinct (f ∷ fs) = AllByRecursion (λ (g : File). f.name ≡ g.name → ⊥) fs × AreDistinct fs

-- the names of the files have fewer than 2^32 bytes
abbrev pub AreShort : List File → Type 0
AreShort files = AllByRecursion (λ (f : File). length f.name < 2 ^ 32) files
