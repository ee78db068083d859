-- Places in a source.
use Rattle.mk_base.specs.declared.place.Pos.{Pos}

-- the first character of a source
abbrev pub first_place : Pos
first_place = record { line = 1; col = 1 }
