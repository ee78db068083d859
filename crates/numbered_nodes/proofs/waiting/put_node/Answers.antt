use Rattle.std.proofs.Common.{length}
use Rattle.std.proofs.lemmas.Result.{IfOk-weaker}
use Rattle.numbered_nodes.specs.Edges.{lists}
use Rattle.numbered_nodes.proofs.WaitingLists.{left_of, ready_of, more_waiting, more_ready, placed_waiting, placed_ready, on_both}
use Rattle.numbered_nodes.proofs.waiting.put_node.Goals as goal

pub returns-in-Some-clause-placed : goal.returns-in-Some-clause-placed
returns-in-Some-clause-placed c =
    let needs = c.args.needs.now in
    let some = c.in-Some.ensures.some in
    let left = left_of needs (length needs) c.args.listed.now c.index-needs-node.result c.args.node c.in-Some.need c.requires.node c.index-needs-node.is some.0 some.1 some.2 some.3 in
    IfOk-weaker c.wait_for.result _ _ (λ x more. placed_waiting needs (length needs) c.args.listed.now c.args.ready.now (lists c.args.waiting.now) (lists c.wait_for.new.waiting) c.in-Some.need c.args.node left more) c.wait_for.ensures.more

pub returns-in-Some-clause-more : goal.returns-in-Some-clause-more
returns-in-Some-clause-more c =
    let needs = c.args.needs.now in
    let some = c.in-Some.ensures.some in
    let left = left_of needs (length needs) c.args.listed.now c.index-needs-node.result c.args.node c.in-Some.need c.requires.node c.index-needs-node.is some.0 some.1 some.2 some.3 in
    on_both c.wait_for.result (more_waiting needs (length needs) c.args.listed.now c.args.ready.now (lists c.args.waiting.now) (lists c.wait_for.new.waiting) c.in-Some.need c.args.node left c.requires.node) c.wait_for.ensures.more c.wait_for.ensures.others

pub returns-in-None-clause-more : goal.returns-in-None-clause-more
returns-in-None-clause-more c =
    let needs = c.args.needs.now in
    let is = ready_of needs (length needs) c.args.listed.now c.index-needs-node.result c.args.node c.requires.node c.index-needs-node.is c.in-None.ensures.none in
    more_ready needs (length needs) c.args.listed.now c.args.ready.now c.insert.new.self (lists c.args.waiting.now) c.args.node is c.insert.ensures.has

pub returns-in-None-clause-placed : goal.returns-in-None-clause-placed
returns-in-None-clause-placed c = placed_ready c.args.needs.now (length c.args.needs.now) c.args.listed.now c.args.ready.now c.insert.new.self (lists c.args.waiting.now) c.args.node c.insert.ensures.has
