use Rattle.std.proofs.Common.{◌≡◌, None, drop, ◌*◌, ◌+◌}
use Rattle.face_model.specs.Environments.{insts_of}
use Rattle.class_env.specs.Terms.{term_of}
use Rattle.class_env.specs.Spine.{depth}
use Rattle.class_env.specs.Instances.{then}
use Rattle.class_env.specs.Reduce.{at_arguments, given, so_far}
use Rattle.class_env.proofs.reduce.+reduce.Given as goal

abbrev pub decreases-reduce_one : goal.decreases-reduce_one
decreases-reduce_one g l = 3 * depth (term_of l.t.now) + 2

abbrev pub decreases-reduce_by : goal.decreases-reduce_by
decreases-reduce_by g l = 3 * depth (term_of l.t.now) + 1

abbrev pub decreases-reduce_context : goal.decreases-reduce_context
decreases-reduce_context g l = 3 * depth (term_of l.t.now)

abbrev pub invariant-reduce_context-loop-k : goal.invariant-reduce_context-loop-k
invariant-reduce_context-loop-k g l = record {
  same : g.E.Env.faces l.env ≡ g.E.Env.faces l.fn.env;
  on : then (so_far l.out None) (at_arguments (drop l.k-index l.context) (given (insts_of (g.E.Env.faces l.fn.env)) (term_of l.t)))
      ≡ then (so_far l.fn.out None) (at_arguments l.context (given (insts_of (g.E.Env.faces l.fn.env)) (term_of l.t)));
}
