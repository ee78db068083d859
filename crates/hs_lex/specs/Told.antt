-- What is told of a source with a place at which no lexeme begins.
use Rattle.std.specs.Prelude.{codes}
use Rattle.mk_base.specs.declared.diag.Diag.{Diag}
use Rattle.mk_base.specs.declared.place.Pos.{Pos}

abbrev pub no_lexeme : Pos → Diag
no_lexeme at = record { at = at; code = 1; text = codes "no lexeme begins here" }
