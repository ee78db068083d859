use Rattle.std.proofs.Common.{take}
use Rattle.std.specs.List.{Contains}
use Rattle.face_model.specs.declared.scheme.Constraint.{Constraint}
use Rattle.class_env.specs.Defaults.{Permits}
use Rattle.class_env.proofs.defaults.all_permit.Given as goal

abbrev pub invariant-loop-w : goal.invariant-loop-w
invariant-loop-w l = (w : Constraint) → Contains (take l.w-index l.wanted) w → Permits l.var w
