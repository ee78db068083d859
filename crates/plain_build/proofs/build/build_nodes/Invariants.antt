use Rattle.std.proofs.Common.{◌≡◌, ◌+◌}
use Rattle.plain_build.specs.Result.{checks_in}
use Rattle.plain_build.specs.Done.{IsDone, judged_before, sorted_tree}
use Rattle.plain_build.proofs.build.build_nodes.Given as goal

abbrev pub invariant-loop-place : goal.invariant-loop-place
invariant-loop-place g l = record {
  done : IsDone (sorted_tree l.input) l.done l.place;
  checks : l.steps ≡ l.initial.steps + checks_in (judged_before (sorted_tree l.input) l.place);
}
