use Rattle.std.proofs.Common.{◌≡◌, ◌<◌, ◌↔◌, ℕ, List, [], get_or, length, arith, rules, subst, sym}
use Rattle.std.specs.List.{All, Contains}
use Rattle.numbered_nodes.specs.Edges.{lists, HasEdge}
use Rattle.numbered_nodes.proofs.Rows.{row_in_range}
use Rattle.node_groups.proofs.Searching.{row_here}
use Rattle.bind_groups.proofs.Owners.{rows_pushed, rows_end}
use Rattle.bind_groups.proofs.graph.used_graph.Goals as goal

pub targets_of-requires : goal.targets_of-requires
targets_of-requires c =
    let n = length c.args.owners.now in
    record { range = subst (λ (xs : List ℕ). All (λ b. b < n) xs) (sym c.deref.ensures.value) (row_in_range c.args.used.now n c.loop-binding.binding c.index-used-binding.result c.requires.range c.loop-binding-test.true c.index-used-binding.is) }

pub loop-binding-preserved : goal.loop-binding-preserved
loop-binding-preserved c =
    let inv = c.loop-binding.invariant in
    let i : ℕ = c.loop-binding.binding in
    let owners = lists c.args.owners.now in
    let here : get_or (lists c.args.used.now) i [] ≡ c.deref.result.now = row_here c.args.used.now i c.index-used-binding.result c.deref.result.now c.loop-binding-test.true c.index-used-binding.is c.deref.ensures.value in
    let v = c.in_ok-targets_of.field-0 in
    let last = subst (λ (l : List ℕ). (j : ℕ) → Contains v.items j ↔ ((x : ℕ) × Contains l x × HasEdge owners x j)) (sym here) c.in_ok-targets_of.ensures in
    record {
      len = search rules;
      edges = rows_pushed c.loop-binding.rows.items c.push.new.self.items v i (λ a j. (x : ℕ) × HasEdge (lists c.args.used.now) a x × HasEdge owners x j) inv.len c.in_ok-push.ensures.items last inv.edges;
    }

pub returns-clause-edges : goal.returns-clause-edges
returns-clause-edges c =
    let end : c.loop-binding.binding ≡ length c.args.used.now = omega arith in
    rows_end c.loop-binding.rows.items c.args.used.now (lists c.args.owners.now) c.loop-binding.binding c.loop-binding.invariant.len (sym end) c.loop-binding.invariant.edges
