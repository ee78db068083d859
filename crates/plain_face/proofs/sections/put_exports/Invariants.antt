use Rattle.std.proofs.Common.{◌≡◌, ◌++◌, take}
use Rattle.std.specs.List.{flat_map}
use Rattle.plain_face.specs.Interface.{export_bytes}
use Rattle.plain_face.proofs.sections.put_exports.Given as goal

abbrev pub invariant-loop-export : goal.invariant-loop-export
invariant-loop-export l = l.out ≡ l.fn.out ++ flat_map (export_bytes l.names) (take l.export-index l.exports)
