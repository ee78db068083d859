use Rattle.std.proofs.Common.{◌≡◌, ◌-◌, length}
use Rattle.class_env.specs.Supers.{supers_of, Swept}
use Rattle.class_env.proofs.Sweeping.{universe}
use Rattle.class_env.proofs.supers.above.Given as goal

abbrev pub invariant-loop-done : goal.invariant-loop-done
invariant-loop-done g l = record {
  same : g.E.Env.faces l.env ≡ g.E.Env.faces l.fn.env;
  swept : Swept (supers_of (g.E.Env.faces l.fn.env)) l.class l.found.keys l.done;
}

abbrev pub decreases-loop-done : goal.decreases-loop-done
decreases-loop-done g l = length (universe (g.E.Env.faces l.fn.env) l.class) - l.done
