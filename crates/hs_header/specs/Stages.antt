-- How far the tokens of a header go, by the signs alone.
use Rattle.std.specs.Prelude.{Bool, true, false, List, [], ◌∷◌}
use Rattle.hs_syntax.specs.declared.token.Token.{Token}
use Rattle.hs_syntax.specs.declared.sign.Sign.{Sign}
use Rattle.hs_syntax.specs.declared.sign.Sign.TheVariants.{OpenBrace, CloseBrace, Semicolon, Import}
use Rattle.hs_syntax.specs.Signs.{sign_of}
use Rattle.hs_header.specs.declared.stage.Stage.{Stage}
use Rattle.hs_header.specs.declared.stage.Stage.TheVariants as stage

abbrev pub in_line : Sign → Stage
in_line (OpenBrace put) = stage.Part
in_line _ = stage.Line

abbrev pub at_part : Sign → Stage
at_part Import = stage.Import
at_part Semicolon = stage.Part
at_part _ = stage.Over

abbrev pub in_import : Sign → Stage
in_import Semicolon = stage.Part
in_import (CloseBrace put) = stage.Over
in_import _ = stage.Import

abbrev pub over : Stage → Token → Stage
over stage.Line t = in_line (sign_of t)
over stage.Part t = at_part (sign_of t)
over stage.Import t = in_import (sign_of t)
over stage.Over t = stage.Over

abbrev pub behind : Stage → List Token → Stage
behind s [] = s
behind s (t ∷ ts) = behind (over s t) ts

abbrev pub is_over : Stage → Bool
is_over stage.Over = true
is_over _ = false
