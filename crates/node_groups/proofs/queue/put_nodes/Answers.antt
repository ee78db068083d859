use Rattle.std.proofs.Common.{ℕ, suc, List, get_or, drop, drop-cons, sym, subst}
use Rattle.std.specs.List.{Contains}
use Rattle.node_groups.proofs.Keys.{cons_first}
use Rattle.node_groups.proofs.queue.put_nodes.Goals as goal

pub put_node-requires-clause-node : goal.put_node-requires-clause-node
put_node-requires-clause-node c =
    let nodes = c.args.nodes.now in
    let i = c.loop-node.node-index in
    let y : ℕ = get_or nodes i 0 in
    let q = c.loop-node.invariant.queue in
    let there = subst (λ (l : List ℕ). Contains l y) (sym (drop-cons nodes i 0 c.loop-node-test.true)) (cons_first y (drop (suc i) nodes)) in
    (q.nodes y there).0
