use Rattle.std.proofs.Common.{◌≡◌, take}
use Rattle.std.specs.List.{Contains}
use Rattle.face_model.specs.declared.scheme.Constraint.{Constraint}
use Rattle.face_model.specs.Environments.{insts_of}
use Rattle.class_env.specs.Defaults.{FitsAt}
use Rattle.class_env.proofs.defaults.fits.Given as goal

abbrev pub invariant-loop-w : goal.invariant-loop-w
invariant-loop-w g l = record {
  same : g.E.Env.faces l.env ≡ g.E.Env.faces l.fn.env;
  on : (w : Constraint) → Contains (take l.w-index l.wanted) w → FitsAt (insts_of (g.E.Env.faces l.fn.env)) l.var l.t w;
}
