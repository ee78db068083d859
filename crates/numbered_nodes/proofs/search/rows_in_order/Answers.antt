use Rattle.std.proofs.Common.{arith}
use Rattle.numbered_nodes.proofs.Searches.{all_done}
use Rattle.numbered_nodes.proofs.search.rows_in_order.Goals as goal

pub returns-clause-reach : goal.returns-clause-reach
returns-clause-reach c =
    let inv = c.loop-a-2.invariant in
    all_done c.args.graph.now c.loop-a-2.done.items c.loop-a-2.rows.items c.loop-a-2.a c.loop-a-2-test.false (omega arith) inv.exact inv.all
