use Rattle.std.proofs.Common.{◌≡◌, ◌++◌, [], replicate}
use Rattle.numbered_nodes.specs.Edges.{lists}
use Rattle.numbered_nodes.proofs.steps.add_empty_rows.Given as goal

abbrev pub invariant-loop-turn : goal.invariant-loop-turn
invariant-loop-turn l = lists l.rows.items ≡ lists l.initial.rows.items ++ replicate l.turn []
