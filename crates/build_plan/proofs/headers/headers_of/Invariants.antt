use Rattle.std.proofs.Common.{◌≡◌, ◌++◌, drop, map}
use Rattle.build_plan.specs.Tree.{header_for}
use Rattle.build_plan.specs.Positions.{pairs}
use Rattle.build_plan.proofs.headers.headers_of.Given as goal

abbrev pub invariant-loop-source : goal.invariant-loop-source
invariant-loop-source l = l.headers ++ map header_for (pairs (drop l.source-index l.sources)) ≡ map header_for (pairs l.sources)
