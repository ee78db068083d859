use Rattle.std.proofs.Common.{◌≡◌, ◌↔◌, ◌<◌, ℕ, List, Vec, length, arith, ap, ◌∙◌, subst, sym}
use Rattle.std.specs.Global.{Global}
use Rattle.std.proofs.lemmas.Result.{IfOk-weaker}
use Rattle.numbered_nodes.specs.Edges.{lists, HasEdge, InRange}
use Rattle.node_groups.proofs.Searching.{edges_within}
use Rattle.node_groups.proofs.Pushed.{in_range}
use Rattle.node_groups.specs.Groups.{IsGroups}
use Rattle.bind_groups.specs.Meets.{Meets}
use Rattle.bind_groups.proofs.Alike.{groups_alike}
use Rattle.bind_groups.proofs.Owners.{edge_depends, depends_edge}
use Rattle.bind_groups.proofs.graph.row_groups.Goals as goal

pub used_graph-requires : goal.used_graph-requires
used_graph-requires c =
    let long : length c.deref.result.now ≡ c.args.count = ap (λ (l : List (Vec ℕ Global)). length l) c.deref.ensures.value ∙ c.in_ok-owners.ensures.len in
    record { range = subst (λ k. InRange (lists c.args.used.now) k) (sym long) c.requires.used }

pub groups_of-requires : goal.groups_of-requires
groups_of-requires c =
    let graph : List (Vec ℕ Global) = c.in_ok-graph.graph.items in
    let owners = subst (λ (r : List (Vec ℕ Global)). (i j : ℕ) → HasEdge (lists graph) i j ↔ ((x : ℕ) × HasEdge (lists c.args.used.now) i x × HasEdge (lists r) x j)) c.deref.ensures.value c.in_ok-graph.ensures.edges in
    let range : InRange (lists graph) (length graph) = in_range (lists graph) (length graph) (λ i j h.
    let d = edge_depends (lists c.args.used.now) (lists c.args.bound.now) (lists c.in_ok-owners.owners.items) (lists graph) c.in_ok-owners.ensures.edges owners i j h in
    let lt = (edges_within c.args.bound.now c.args.count c.requires.bound j d.0 d.2).0 in
    let a = c.in_ok-graph.ensures.len in
    let b = c.requires.len in
    (let w : j < length graph = omega arith in w)) in
    record { range = subst (λ (r : List (Vec ℕ Global)). InRange (lists r) (length r)) (sym c.deref-2.ensures.value) range }

pub returns : goal.returns
returns c =
    let graph : List (Vec ℕ Global) = c.in_ok-graph.graph.items in
    let used = lists c.args.used.now in
    let bound = lists c.args.bound.now in
    let owners = subst (λ (r : List (Vec ℕ Global)). (i j : ℕ) → HasEdge (lists graph) i j ↔ ((x : ℕ) × HasEdge used i x × HasEdge (lists r) x j)) c.deref.ensures.value c.in_ok-graph.ensures.edges in
    let known = c.in_ok-owners.ensures.edges in
    IfOk-weaker c.groups_of.result _ _ (λ v all.
    let on = subst (λ (r : List (Vec ℕ Global)). IsGroups (HasEdge (lists r)) (length r) (lists v.items)) c.deref-2.ensures.value all in
    let wide = subst (λ k. IsGroups (HasEdge (lists graph)) k (lists v.items)) c.in_ok-graph.ensures.len on in
    groups_alike (HasEdge (lists graph)) (Meets used bound) (length c.args.used.now)
    (edge_depends used bound (lists c.in_ok-owners.owners.items) (lists graph) known owners)
    (depends_edge used bound (lists c.in_ok-owners.owners.items) (lists graph) known owners) (lists v.items) wide) c.groups_of.ensures
