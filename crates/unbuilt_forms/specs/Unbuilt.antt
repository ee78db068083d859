-- The forms of sources that aren't built yet.
use Rattle.std.specs.Prelude.{Bool, ◌&&◌, not, nat_eq, List, Result, Ok, Err, codes, if◌then◌else◌}
use Rattle.mk_base.specs.declared.name.Node.{Node}
use Rattle.mk_base.specs.declared.diag.Diag.{Diag}
use Rattle.mk_base.specs.declared.place.Pos.{Pos}
use Rattle.hs_syntax.specs.declared.token.Token.{Token}
use Rattle.mk_base.specs.Places.{first_place}
use Rattle.plain_form.specs.Form.{read_form}
use Rattle.plain_form.specs.declared.form.Written.{Written}
use Rattle.plain_form.specs.declared.form.Reading.{Reading}
use Rattle.plain_form.specs.declared.form.Reading.TheVariants.{Form, Leaves}

-- a part of a source, or the source, that isn't of the form that is built
abbrev pub unbuilt : Pos → Diag
unbuilt at = record { at = at; code = 0; text = codes "this form is not built yet" }

abbrev pub formed : Reading → Result Written Diag
formed (Form w) = Ok w
formed (Leaves at) = Err (unbuilt at)

-- The items of a node's source, from its braced tokens, or the first part that leaves the form. A boot file is of another form.
abbrev pub items : Node → List Token → Result Written Diag
items n ts = if n.boot then Err (unbuilt first_place) else formed (read_form ts)

-- until boot files are built, one without its real file is told only that it isn't built
abbrev pub is_told : Node → Diag → Bool
is_told n d = not (n.boot && nat_eq d.code 10)
