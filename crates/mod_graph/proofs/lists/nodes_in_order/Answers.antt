use Rattle.std.proofs.Common.{[], ◌∷◌, ◌++◌, get_or, ap, ◌∙◌}
use Rattle.std.proofs.lemmas.List.{get_or_default}
use Rattle.mod_graph.proofs.Placed.{node_next}
use Rattle.mod_graph.proofs.lists.nodes_in_order.Goals as goal

pub loop-number-preserved : goal.loop-number-preserved
loop-number-preserved c =
    let i = c.loop-number.number-index in
    let o = get_or c.args.order.now i 0 in
    node_next c.args.entries.now c.args.order.now i o c.index-entries-number.result c.loop-number.nodes c.push.new.self
    c.loop-number-test.true (get_or_default c.args.order.now i 0 o c.loop-number-test.true) (c.requires i 0 c.loop-number-test.true) c.loop-number.invariant
    (c.in_ok-push.ensures.ok ∙ ap (λ n. c.loop-number.nodes ++ n ∷ []) c.in_ok-copy.ensures)
