use Rattle.std.proofs.Common.{◌≡◌, ◌<◌, ◌≤◌, ◌-◌, ℕ, List, [], true, get_or, length, arith, sym, subst, ap}
use Rattle.std.proofs.lemmas.Result.{on_ok_weaker}
use Rattle.numbered_nodes.specs.Edges.{lists}
use Rattle.node_groups.proofs.Searching.{row_here, target_here}
use Rattle.node_groups.specs.Queue.{Is}
use Rattle.node_groups.proofs.Queueing.{put_waiting, put_in}
use Rattle.node_groups.proofs.queue.put_node.Goals as goal

pub returns-then-left-gt0-clause-queue : goal.returns-then-left-gt0-clause-queue
returns-then-left-gt0-clause-queue c =
    let g = lists c.args.graph.now in
    let n = length c.args.graph.now in
    let node = c.args.node in
    let ends = c.args.ends.now in
    let left = c.left_of-left.result in
    let items = c.as_slice-targets.result.now in
    let here : get_or g node [] ≡ items = row_here c.args.graph.now node c.index-graph-node.result items c.requires.node c.index-graph-node.is c.as_slice-targets.ensures.value in
    let gone = subst (λ (l : List ℕ). (i : ℕ) → left ≤ i → i < get_or ends node 0 → Is c.args.listed.now (get_or l i 0) true) (sym here) c.left_of-left.ensures.listed in
    let long : length (get_or g node []) ≡ length items = ap (λ (l : List ℕ). length l) here in
    let within = c.requires.ends.1 node in
    let less = c.left_of-left.ensures.within in
    let edge' = target_here g node (left - 1) items here (let t = c.if-left-gt0.true in omega arith) in
    let lt : node < length ends = (let a = c.requires.ends.0 in let b = c.requires.node in omega arith) in
    on_ok_weaker c.wait_for.result
    (λ step rest q. put_waiting g n c.args.listed.now ends (lists c.args.waiting.now) c.args.ready.now.keys rest node left q lt gone (lists c.wait_for.new.waiting) (get_or items (left - 1) 0) edge' (c.left_of-left.ensures.out c.if-left-gt0.true) step)
    c.wait_for.ensures.edges

pub returns-else-left-gt0-clause-queue : goal.returns-else-left-gt0-clause-queue
returns-else-left-gt0-clause-queue c =
    let g = lists c.args.graph.now in
    let n = length c.args.graph.now in
    let node = c.args.node in
    let ends = c.args.ends.now in
    let left = c.left_of-left.result in
    let items = c.as_slice-targets.result.now in
    let here : get_or g node [] ≡ items = row_here c.args.graph.now node c.index-graph-node.result items c.requires.node c.index-graph-node.is c.as_slice-targets.ensures.value in
    let gone = subst (λ (l : List ℕ). (i : ℕ) → left ≤ i → i < get_or ends node 0 → Is c.args.listed.now (get_or l i 0) true) (sym here) c.left_of-left.ensures.listed in
    let lt : node < length ends = (let a = c.requires.ends.0 in let b = c.requires.node in omega arith) in
    let none : left ≡ 0 = (let t = c.if-left-gt0.false in omega arith) in
    on_ok_weaker c.put_ready.result
    (λ step rest q. put_in g n c.args.listed.now ends (lists c.args.waiting.now) c.args.ready.now.keys rest node left q lt gone c.put_ready.new.ready.keys none step)
    c.put_ready.ensures
