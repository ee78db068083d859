use Rattle.std.proofs.Common.{◌≡◌, ◌∷◌, [], take, Some, None}
use Rattle.std.specs.List.{flat_map}
use Rattle.mk_base.specs.declared.name.Space.TheVariants.{Con}
use Rattle.plain_scope.specs.declared.scope.DataDecl.{DataDecl}
use Rattle.plain_scope.specs.Scope.{entity}
use Rattle.plain_face.specs.Interface.{type_name}
use Rattle.plain_face.proofs.exports.written_exports.Given as goal

abbrev pub invariant-loop-decl : goal.invariant-loop-decl
invariant-loop-decl l = l.exports.items ≡ flat_map (λ (d : DataDecl). (type_name l.unit l.content d, None) ∷ (entity l.unit l.content.module Con d.con, Some (type_name l.unit l.content d)) ∷ []) (take l.decl-index l.decl-items)
