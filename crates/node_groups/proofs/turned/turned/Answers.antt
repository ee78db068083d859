use Rattle.std.proofs.Common.{◌≡◌, ◌⊎◌, ◌↔◌, ◌<◌, ◌+◌, ℕ, List, Vec, length, drop, arith, rules, sym, ap, ◌∙◌, subst}
use Rattle.std.specs.Global.{Global}
use Rattle.std.specs.List.{All, Contains}
use Rattle.numbered_nodes.specs.Edges.{lists, HasEdge}
use Rattle.numbered_nodes.proofs.Rows.{row_in_range}
use Rattle.node_groups.proofs.Searching.{row_here, edges_within}
use Rattle.node_groups.proofs.Pushed.{whole, turned_next, in_range}
use Rattle.node_groups.proofs.turned.turned.Goals as goal

pub add_source-requires : goal.add_source-requires
add_source-requires c =
    let n = length c.args.graph.now in
    let row = row_in_range c.args.graph.now n c.loop-node.node c.index-graph-node.result c.requires.range c.loop-node-test.true c.index-graph-node.is in
    let long : length c.deref_mut.result.now ≡ n = ap (λ (l : List (Vec ℕ Global)). length l) c.deref_mut.ensures.value ∙ c.loop-node.invariant.len in
    record { range = subst (λ (k : ℕ). All (λ b. b < k) c.deref.result.now) (sym long) (subst (λ (xs : List ℕ). All (λ b. b < n) xs) (sym c.deref.ensures.value) row) }

pub loop-node-preserved : goal.loop-node-preserved
loop-node-preserved c =
    let g = lists c.args.graph.now in
    let rows = c.loop-node.rows in
    let new = c.add_source.new.rows in
    let value = c.deref_mut.ensures.value in
    let back = whole rows.len new (drop (length new) rows.items) (search rules) in
    let here = row_here c.args.graph.now c.loop-node.node c.index-graph-node.result c.deref.result.now c.loop-node-test.true c.index-graph-node.is c.deref.ensures.value in
    let step = subst (λ (r : List (Vec ℕ Global)). (b a : ℕ) → HasEdge (lists new) b a ↔ (HasEdge (lists r) b a ⊎ ((a ≡ c.loop-node.node) × Contains c.deref.result.now b))) value c.in_ok-add_source.ensures.edges in
    record {
      len = ap (λ (r : List (Vec ℕ Global)). length r) back ∙ c.add_source.ensures.len ∙ ap (λ (r : List (Vec ℕ Global)). length r) value ∙ c.loop-node.invariant.len;
      edges = subst (λ (r : List (Vec ℕ Global)). (a b : ℕ) → HasEdge (lists r) b a ↔ ((a < c.loop-node.node + 1) × HasEdge g a b)) (sym back) (turned_next g (lists rows.items) (lists new) c.loop-node.node c.deref.result.now here c.loop-node.invariant.edges step);
    }

pub returns-clause-edges : goal.returns-clause-edges
returns-clause-edges c = λ a b. (
  (λ h. ((c.loop-node.invariant.edges a b).0 h).1),
  (λ e.
      let lt = (edges_within c.args.graph.now (length c.args.graph.now) c.requires.range a b e).0 in
      (c.loop-node.invariant.edges a b).1 ((let end = c.loop-node-test.false in omega arith), e)),
)

pub returns-clause-range : goal.returns-clause-range
returns-clause-range c = in_range (lists c.loop-node.rows.items) (length c.args.graph.now) (λ b a h. (edges_within c.args.graph.now (length c.args.graph.now) c.requires.range a b ((c.loop-node.invariant.edges a b).0 h).1).0)
