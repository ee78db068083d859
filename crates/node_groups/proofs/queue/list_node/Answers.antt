use Rattle.std.proofs.Common.{◌≡◌, ℕ, List, Vec, [], set, get_or, length, ap, ◌∙◌, sym, arith}
use Rattle.std.specs.Global.{Global}
use Rattle.std.proofs.lemmas.List.{map-set, length-map}
use Rattle.numbered_nodes.specs.Edges.{lists}
use Rattle.node_groups.proofs.Searching.{row_here}
use Rattle.node_groups.proofs.Queueing.{listed_next}
use Rattle.node_groups.proofs.queue.list_node.Goals as goal

pub put_nodes-requires-clause-queue : goal.put_nodes-requires-clause-queue
put_nodes-requires-clause-queue c =
    let g = lists c.args.graph.now in
    let n = length c.args.graph.now in
    let node = c.args.node in
    let w = c.args.waiting.now in
    let items : Vec ℕ Global → List ℕ = λ v. v.items in
    let q = c.requires.queue in
    let dest = c.replace-waiters.new.dest in
    let lt = c.requires.node in
    let took : get_or (lists w) node [] ≡ c.deref.result.now = row_here w node c.index-waiting-node.result c.deref.result.now (let a = c.requires.waiting in omega arith) c.index-waiting-node.is (c.deref.ensures.value ∙ ap items (c.replace-waiters.ensures.value ∙ sym c.index-waiting-node.is)) in
    let gone : lists (set w node dest) ≡ set (lists w) node [] = map-set items w node dest ∙ ap (set (lists w) node) (ap items c.replace-waiters.ensures.after ∙ c.new.ensures.items) in
    listed_next g n c.args.listed.now c.args.ends.now (lists w) (lists (set w node dest)) q.0 c.args.ready.now.keys c.deref.result.now node q.1 c.requires.listed (length-map w items ∙ c.requires.waiting) q.2 q.3 took gone
