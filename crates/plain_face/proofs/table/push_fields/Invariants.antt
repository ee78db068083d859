use Rattle.std.proofs.Common.{◌≡◌, ◌++◌, take}
use Rattle.plain_face.proofs.table.push_fields.Given as goal

abbrev pub invariant-loop-field : goal.invariant-loop-field
invariant-loop-field l = l.names.items ≡ l.fn.names.items ++ take l.field-index l.fields
