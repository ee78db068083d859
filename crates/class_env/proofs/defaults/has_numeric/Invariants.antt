use Rattle.std.proofs.Common.{◌≡◌, take}
use Rattle.std.specs.List.{Contains}
use Rattle.face_model.specs.declared.scheme.Constraint.{Constraint}
use Rattle.class_env.specs.Supers.{supers_of, Gives}
use Rattle.class_env.specs.Defaults.{IsOn}
use Rattle.class_env.proofs.defaults.has_numeric.Given as goal

abbrev pub invariant-loop-w : goal.invariant-loop-w
invariant-loop-w g l = record {
  same : g.E.Env.faces l.env ≡ g.E.Env.faces l.fn.env;
  none : (w : Constraint) → Contains (take l.w-index l.wanted) w → (IsOn l.var w × Gives (supers_of (g.E.Env.faces l.fn.env)) w.class l.number) → ⊥;
}
