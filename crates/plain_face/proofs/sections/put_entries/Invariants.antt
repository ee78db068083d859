use Rattle.std.proofs.Common.{◌≡◌, ◌++◌, take}
use Rattle.std.specs.List.{flat_map}
use Rattle.plain_face.specs.Sizes.{entry_bytes}
use Rattle.plain_face.proofs.sections.put_entries.Given as goal

abbrev pub invariant-loop-decl : goal.invariant-loop-decl
invariant-loop-decl l = l.out ≡ l.fn.out ++ flat_map (entry_bytes l.unit l.module_name l.names) (take l.decl-index l.decls)
