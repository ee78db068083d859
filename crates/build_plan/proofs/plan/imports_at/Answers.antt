use Rattle.std.proofs.Common.{arith}
use Rattle.build_plan.proofs.Planning.{plan_count}
use Rattle.build_plan.proofs.Seen.{planned_few}
use Rattle.build_plan.proofs.plan.imports_at.Goals as goal

pub seen_places-requires-clause-few : goal.seen_places-requires-clause-few
seen_places-requires-clause-few c = planned_few c.requires.plan.0 c.args.plan.now.graph c.requires.plan.1.graph

pub seen_places-requires-clause-place : goal.seen_places-requires-clause-place
seen_places-requires-clause-place c = let count = plan_count c.requires.plan.0 c.args.plan.now c.requires.plan.1 in let lt = c.requires.place in omega (arith, count, lt)
