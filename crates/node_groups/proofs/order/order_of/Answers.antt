use Rattle.std.proofs.Common.{◌≡◌, ◌<◌, ℕ, List, Vec, Bool, [], false, get_or, length, sym, subst}
use Rattle.std.specs.Global.{Global}
use Rattle.std.specs.List.{All, Contains}
use Rattle.numbered_nodes.specs.Edges.{lists}
use Rattle.node_groups.specs.Queue.{Is}
use Rattle.node_groups.proofs.Queueing.{start_queue}
use Rattle.node_groups.proofs.order.order_of.Goals as goal

pub put_nodes-requires-clause-queue : goal.put_nodes-requires-clause-queue
put_nodes-requires-clause-queue c =
    let g = lists c.args.graph.now in
    let n = length c.args.graph.now in
    let listed = subst (λ (l : List Bool). (k : ℕ) → Is l k false) (sym c.deref.ensures.value) c.in_ok-listed.ensures.none in
    let none = subst (λ (w : List (Vec ℕ Global)). (z : ℕ) → get_or (lists w) z [] ≡ []) (sym c.deref_mut-2.ensures.value) c.in_ok-waiting.ensures.none in
    let below = subst (λ (l : List ℕ). All (λ x. x < n) l) (sym c.deref-2.ensures.value) c.in_ok-all.ensures.nodes in
    let all = subst (λ (l : List ℕ). (x : ℕ) → x < n → Contains l x) (sym c.deref-2.ensures.value) c.in_ok-all.ensures.all in
    let counts = subst (λ (l : List ℕ). (x : ℕ) → get_or l x 0 ≡ length (get_or g x [])) (sym c.deref_mut.ensures.value) c.in_ok-ends.ensures.counts in
    start_queue g n c.deref.result.now c.deref_mut.result.now (lists c.deref_mut-2.result.now) c.new-ready.result.keys c.deref-2.result.now listed c.new-ready.ensures.empty none below all counts
