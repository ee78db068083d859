use Rattle.std.proofs.Common.{◌<◌, ◌∙◌, [], get_or, length, arith}
use Rattle.numbered_nodes.specs.Edges.{lists}
use Rattle.numbered_nodes.specs.Waiting.{IsPlaced}
use Rattle.numbered_nodes.proofs.WaitingLists.{waiter_at, stands, holds_next, holds_of_each, more_then, still_placed}
use Rattle.numbered_nodes.proofs.waiting.put_again.Goals as goal

pub put_node-requires-clause-node : goal.put_node-requires-clause-node
put_node-requires-clause-node c =
    let inv = c.loop-i.invariant in
    let old = get_or (lists c.args.waiting.now) c.args.node [] in
    let lt : c.loop-i.i < length old = (let end = inv.end in omega arith) in
    let at = waiter_at c.loop-i.waiting c.args.waiting.now c.args.node c.loop-i.i c.index-waiter.result.now c.index-waiting-node-in-loop-i.result (omega arith) (inv.more.behind c.args.node c.requires.node.1) lt c.index-waiter.ensures in
    c.requires.range c.index-waiter.result.now (stands old c.loop-i.i c.index-waiter.result.now lt at)

pub loop-i-preserved : goal.loop-i-preserved
loop-i-preserved c =
    let inv = c.loop-i.invariant in
    let needs = c.args.needs.now in
    let n = length needs in
    let listed = c.args.listed.now in
    let old = get_or (lists c.args.waiting.now) c.args.node [] in
    let lt : c.loop-i.i < length old = (let end = inv.end in omega arith) in
    let at = waiter_at c.loop-i.waiting c.args.waiting.now c.args.node c.loop-i.i c.index-waiter.result.now c.index-waiting-node-in-loop-i.result (omega arith) (inv.more.behind c.args.node c.requires.node.1) lt c.index-waiter.ensures in
    let put = c.in_ok-put_node.ensures in
    record {
      room = put.room ∙ inv.room;
      len = put.len ∙ inv.len;
      end = inv.end;
      more = more_then needs n listed c.args.ready.now c.loop-i.ready c.put_node.new.ready (lists c.args.waiting.now) (lists c.loop-i.waiting) (lists c.put_node.new.waiting) inv.more put.more;
      placed = holds_next (IsPlaced needs n listed c.loop-i.ready (lists c.loop-i.waiting)) (IsPlaced needs n listed c.put_node.new.ready (lists c.put_node.new.waiting)) old c.loop-i.i c.index-waiter.result.now
          (still_placed needs n listed c.loop-i.ready c.put_node.new.ready (lists c.loop-i.waiting) (lists c.put_node.new.waiting) put.more) inv.placed at put.placed;
    }

pub returns-clause-placed : goal.returns-clause-placed
returns-clause-placed c =
    let inv = c.loop-i.invariant in
    let old = get_or (lists c.args.waiting.now) c.args.node [] in
    holds_of_each (IsPlaced c.args.needs.now (length c.args.needs.now) c.args.listed.now c.loop-i.ready (lists c.loop-i.waiting)) old (λ k lt. inv.placed k (let end = inv.end in omega arith))
