-- The order of places in a source.
use Rattle.std.specs.Prelude.{◌≡◌, ◌⊎◌, ◌<◌, List, [], ◌∷◌}
use Rattle.std.specs.List.{AllByRecursion}
use Rattle.mk_base.specs.declared.place.Pos.{Pos}

-- on an earlier line, or further left on the same line
abbrev pub IsBefore : Pos → Pos → Type 0
IsBefore p q = (p.line < q.line) ⊎ ((p.line ≡ q.line) × (p.col < q.col))

-- each place stands before all that are behind it
abbrev pub AreRising : List Pos → Type 0
AreRising [] = Unit {0}
AreRising (p ∷ ps) = AllByRecursion (IsBefore p) ps × AreRising ps
