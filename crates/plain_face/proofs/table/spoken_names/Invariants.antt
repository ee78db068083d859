use Rattle.std.proofs.Common.{◌≡◌, ◌∷◌, take}
use Rattle.std.specs.List.{flat_map}
use Rattle.mk_base.specs.declared.name.Space.TheVariants.{Con, Ty}
use Rattle.plain_scope.specs.declared.scope.DataDecl.{DataDecl}
use Rattle.plain_scope.specs.Scope.{entity}
use Rattle.plain_face.proofs.table.spoken_names.Given as goal

abbrev pub invariant-loop-decl : goal.invariant-loop-decl
invariant-loop-decl l = l.names.items ≡ flat_map (λ (d : DataDecl). entity l.unit l.content.module Ty d.ty ∷ entity l.unit l.content.module Con d.con ∷ d.fields) (take l.decl-index l.decl-items)
