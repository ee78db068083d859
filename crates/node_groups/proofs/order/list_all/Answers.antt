use Rattle.std.proofs.Common.{◌≡◌, ◌<◌, ◌↔◌, ℕ, List, Bool, true, set, length, ap, ◌∙◌, sym, subst, arith}
use Rattle.std.specs.List.{Contains}
use Rattle.std.proofs.lemmas.List.{length-set}
use Rattle.numbered_nodes.specs.Edges.{lists}
use Rattle.node_groups.proofs.Searching.{edges_within}
use Rattle.node_groups.specs.Queue.{Is, unlisted}
use Rattle.node_groups.proofs.Queueing.{one_less, all_listed}
use Rattle.node_groups.proofs.Listing.{chosen, same_next, nexts, whole_order}
use Rattle.node_groups.proofs.order.list_all.Goals as goal

pub list_node-requires-clause-node : goal.list_node-requires-clause-node
list_node-requires-clause-node c = (c.loop-node.invariant.queue.now c.in-Some.node c.in-Some.ensures.some).0

pub loop-node-smaller : goal.loop-node-smaller
loop-node-smaller c =
    let node = c.in-Some.node in
    let here = c.loop-node.invariant.queue.now node c.in-Some.ensures.some in
    let lt : node < length c.loop-node.listed = (let a = here.0 in let b = c.loop-node.invariant.listed in omega arith) in
    let less = one_less c.loop-node.listed node lt here.1.0 in
    let e : unlisted c.list_node.new.listed ≡ unlisted (set c.loop-node.listed node true) = ap unlisted c.list_node.ensures.listed in
    omega arith

pub loop-node-preserved : goal.loop-node-preserved
loop-node-preserved c =
    let g = lists c.args.graph.now in
    let n = length c.args.graph.now in
    let node = c.in-Some.node in
    let some = c.in-Some.ensures in
    let inv = c.loop-node.invariant in
    let listed = c.loop-node.listed in
    let done : List ℕ = c.loop-node.order.items in
    let more : List ℕ = c.push.new.self.items in
    let push = c.in_ok-push.ensures.items in
    let here = inv.queue.now node some.some in
    let lt : node < length listed = (let a = here.0 in let b = inv.listed in omega arith) in
    let e = c.list_node.ensures.listed in
    record {
      listed = ap (λ (l : List Bool). length l) e ∙ length-set listed node true ∙ inv.listed;
      len = c.list_node.ensures.ends.0;
      ends = c.list_node.ensures.ends.1;
      waiting = c.list_node.ensures.waiting;
      queue = c.in_ok-list_node.ensures.queue;
      same = subst (λ (l : List Bool). (k : ℕ) → Is l k true ↔ Contains more k) (sym e) (same_next listed done more node lt push inv.same);
      next = nexts g n done more node push (chosen g n listed c.loop-node.ends (lists c.loop-node.waiting) c.loop-node.ready.keys done node inv.queue inv.same some.some some.least) inv.next;
    }

pub returns : goal.returns
returns c =
    let g = lists c.args.graph.now in
    let n = length c.args.graph.now in
    let inv = c.loop-node.invariant in
    let all = all_listed g n c.loop-node.listed c.loop-node.ends (lists c.loop-node.waiting) c.loop-node.ready.keys inv.queue c.in_default.ensures.none (λ a b e. (edges_within c.args.graph.now n c.requires.range a b e).1) c.requires.free in
    record { order = whole_order g n c.loop-node.listed c.loop-node.order.items all inv.same inv.next }
