use Rattle.std.proofs.Common.{◌≡◌, ◌++◌, take}
use Rattle.std.specs.List.{flat_map}
use Rattle.plain_face.specs.Interface.{field_bytes}
use Rattle.plain_face.proofs.sections.put_fields.Given as goal

abbrev pub invariant-loop-field : goal.invariant-loop-field
invariant-loop-field l = l.out ≡ l.fn.out ++ flat_map (field_bytes l.names) (take l.field-index l.fields)
