use Rattle.std.proofs.Common.{◌≡◌, ◌++◌, take}
use Rattle.std.specs.List.{flat_map}
use Rattle.plain_face.specs.Interface.{blob}
use Rattle.plain_face.proofs.sections.put_blobs.Given as goal

abbrev pub invariant-loop-decl : goal.invariant-loop-decl
invariant-loop-decl l = l.out ≡ l.fn.out ++ flat_map (blob l.names) (take l.decl-index l.decls)
