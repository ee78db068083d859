use Rattle.std.proofs.Common.{◌≡◌, ◌<◌, ℕ, List, [], get_or, length, arith, rules, subst, sym}
use Rattle.std.specs.List.{All}
use Rattle.numbered_nodes.specs.Edges.{lists, HasEdge}
use Rattle.numbered_nodes.proofs.Rows.{row_in_range}
use Rattle.numbered_nodes.proofs.Searches.{row_here}
use Rattle.numbered_nodes.specs.Needs.{Hub}
use Rattle.numbered_nodes.proofs.StepRows.{edges_pushed, edges_within, both_iff, node_row_hub}
use Rattle.numbered_nodes.proofs.steps.node_rows.Goals as goal

pub loop-a-preserved : goal.loop-a-preserved
loop-a-preserved c =
    let g = lists c.args.graph.now in
    let loops = c.args.loops.now in
    let n = length loops in
    let within = edges_within c.args.graph.now n c.requires.len c.requires.range in
    let inv = c.loop-a.invariant in
    let a = c.loop-a.a in
    let lt : a < n = c.loop-a-test.true in
    let row : get_or g a [] ≡ c.deref.result.now = row_here c.args.graph.now a c.index-graph-a.result c.deref.result.now (omega arith) c.index-graph-a.is c.deref.ensures.value in
    let v = c.in_ok-node_row.field-0 in
    record {
      len = search rules;
      edges = edges_pushed c.loop-a.rows.items c.push.new.self.items v a (Hub (HasEdge g) (λ b. get_or loops b 0) n) inv.len c.in_ok-push.ensures.items
          (λ y. both_iff (c.in_ok-node_row.ensures y) (node_row_hub g loops within a y c.deref.result.now lt row)) inv.edges;
    }

pub node_row-requires-clause-targets : goal.node_row-requires-clause-targets
node_row-requires-clause-targets c =
    let n = length c.args.loops.now in
    subst (λ (xs : List ℕ). All (λ b. b < n) xs) (sym c.deref.ensures.value) (row_in_range c.args.graph.now n c.loop-a.a c.index-graph-a.result c.requires.range (omega arith) c.index-graph-a.is)

pub returns-clause-edges : goal.returns-clause-edges
returns-clause-edges c = λ x y lt. c.loop-a.invariant.edges x y (omega arith)
