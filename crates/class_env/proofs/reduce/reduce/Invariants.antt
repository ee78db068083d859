use Rattle.std.proofs.Common.{◌≡◌, None, drop}
use Rattle.face_model.specs.Environments.{insts_of}
use Rattle.class_env.specs.Instances.{then}
use Rattle.class_env.specs.Reduce.{so_far, reduced_all, stops}
use Rattle.class_env.proofs.reduce.reduce.Given as goal

abbrev pub invariant-loop-at : goal.invariant-loop-at
invariant-loop-at g l = record {
  same : g.E.Env.faces l.env ≡ g.E.Env.faces l.fn.env;
  on : then (so_far l.out None) (reduced_all (insts_of (g.E.Env.faces l.fn.env)) (drop l.at l.wanted)) ≡ reduced_all (insts_of (g.E.Env.faces l.fn.env)) l.wanted;
  stop : stops (insts_of (g.E.Env.faces l.fn.env)) (drop l.at l.wanted) l.at ≡ stops (insts_of (g.E.Env.faces l.fn.env)) l.wanted 0;
}
