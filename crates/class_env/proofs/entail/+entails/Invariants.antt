use Rattle.std.proofs.Common.{◌≡◌, ◌*◌, ◌+◌, take}
use Rattle.face_model.specs.Environments.{insts_of}
use Rattle.class_env.specs.Terms.{term_of}
use Rattle.class_env.specs.Spine.{depth}
use Rattle.class_env.specs.Entails.{KnownIn, Holds}
use Rattle.class_env.proofs.entail.+entails.Given as goal

abbrev pub decreases-entails_one : goal.decreases-entails_one
decreases-entails_one g l = 4 * depth (term_of l.t.now) + 3

abbrev pub decreases-entails_by : goal.decreases-entails_by
decreases-entails_by g l = 4 * depth (term_of l.t.now) + 2

abbrev pub decreases-entails_context : goal.decreases-entails_context
decreases-entails_context g l = 4 * depth (term_of l.t.now) + 1

abbrev pub decreases-entails_argument : goal.decreases-entails_argument
decreases-entails_argument g l = 4 * depth (term_of l.t.now)

abbrev pub invariant-entails_context-loop-k : goal.invariant-entails_context-loop-k
invariant-entails_context-loop-k g l = record {
  same : g.E.Env.faces l.env ≡ g.E.Env.faces l.fn.env;
  on : Holds (KnownIn l.held) (insts_of (g.E.Env.faces l.fn.env)) (take l.k-index l.context) (term_of l.t);
}
