use Rattle.std.proofs.Common.{◌∙◌, length}
use Rattle.numbered_nodes.specs.Edges.{lists}
use Rattle.numbered_nodes.specs.Waiting.{IsPlaced}
use Rattle.numbered_nodes.proofs.WaitingLists.{holds_below, more_then, still_placed}
use Rattle.numbered_nodes.proofs.waiting.put_all.Goals as goal

pub loop-node-preserved : goal.loop-node-preserved
loop-node-preserved c =
    let inv = c.loop-node.invariant in
    let needs = c.args.needs.now in
    let n = length needs in
    let listed = c.args.listed.now in
    let put = c.in_ok-put_node.ensures in
    record {
      room = put.room ∙ inv.room;
      len = put.len ∙ inv.len;
      more = more_then needs n listed c.args.ready.now c.loop-node.ready c.put_node.new.ready (lists c.args.waiting.now) (lists c.loop-node.waiting) (lists c.put_node.new.waiting) inv.more put.more;
      placed = holds_below (IsPlaced needs n listed c.loop-node.ready (lists c.loop-node.waiting)) (IsPlaced needs n listed c.put_node.new.ready (lists c.put_node.new.waiting)) c.loop-node.node
          (still_placed needs n listed c.loop-node.ready c.put_node.new.ready (lists c.loop-node.waiting) (lists c.put_node.new.waiting) put.more) inv.placed put.placed;
    }
