use Rattle.std.proofs.Common.{◌≡◌, map}
use Rattle.build_plan.specs.Plan.{IsPlanned}
use Rattle.build_plan.specs.Positions.{pairs}
use Rattle.build_plan.specs.Tree.{SourceTree, header_for}
use Rattle.build_plan.proofs.Planning.{AreFirst}
use Rattle.build_plan.proofs.plan.nodes_in_order.Given as goal

abbrev pub invariant-loop-node : goal.invariant-loop-node
invariant-loop-node l = (t : SourceTree) → IsPlanned t l.graph → pairs l.sources ≡ t.sources → l.headers ≡ map header_for t.sources → AreFirst t l.headers l.nodes.items l.node-index
