use Rattle.std.proofs.Common.{◌≡◌, ◌⊎◌, ◌↔◌, ◌<◌, ◌+◌, ℕ, List, Vec, length, drop, arith, rules, sym, ap, ◌∙◌, subst}
use Rattle.std.specs.Global.{Global}
use Rattle.std.specs.List.{All, Contains}
use Rattle.numbered_nodes.specs.Edges.{lists, HasEdge}
use Rattle.numbered_nodes.proofs.Rows.{row_in_range}
use Rattle.node_groups.proofs.Searching.{row_here, edges_within}
use Rattle.node_groups.proofs.Pushed.{whole, turned_next}
use Rattle.bind_groups.proofs.graph.owners_of.Goals as goal

pub add_owner-requires : goal.add_owner-requires
add_owner-requires c =
    let n = c.args.count in
    let row = row_in_range c.args.bound.now n c.loop-binding.binding c.index-bound-binding.result c.requires.range c.loop-binding-test.true c.index-bound-binding.is in
    let long : length c.deref_mut.result.now ≡ n = ap (λ (l : List (Vec ℕ Global)). length l) c.deref_mut.ensures.value ∙ c.loop-binding.invariant.len in
    record { range = subst (λ (k : ℕ). All (λ b. b < k) c.deref.result.now) (sym long) (subst (λ (xs : List ℕ). All (λ b. b < n) xs) (sym c.deref.ensures.value) row) }

pub loop-binding-preserved : goal.loop-binding-preserved
loop-binding-preserved c =
    let g = lists c.args.bound.now in
    let rows = c.loop-binding.rows in
    let new = c.add_owner.new.rows in
    let value = c.deref_mut.ensures.value in
    let back = whole rows.len new (drop (length new) rows.items) (search rules) in
    let here = row_here c.args.bound.now c.loop-binding.binding c.index-bound-binding.result c.deref.result.now c.loop-binding-test.true c.index-bound-binding.is c.deref.ensures.value in
    let step = subst (λ (r : List (Vec ℕ Global)). (b a : ℕ) → HasEdge (lists new) b a ↔ (HasEdge (lists r) b a ⊎ ((a ≡ c.loop-binding.binding) × Contains c.deref.result.now b))) value c.in_ok-add_owner.ensures.edges in
    record {
      len = ap (λ (r : List (Vec ℕ Global)). length r) back ∙ c.add_owner.ensures.len ∙ ap (λ (r : List (Vec ℕ Global)). length r) value ∙ c.loop-binding.invariant.len;
      edges = subst (λ (r : List (Vec ℕ Global)). (a b : ℕ) → HasEdge (lists r) b a ↔ ((a < c.loop-binding.binding + 1) × HasEdge g a b)) (sym back) (turned_next g (lists rows.items) (lists new) c.loop-binding.binding c.deref.result.now here c.loop-binding.invariant.edges step);
    }

pub returns-clause-edges : goal.returns-clause-edges
returns-clause-edges c = λ a b. (
  (λ h. ((c.loop-binding.invariant.edges a b).0 h).1),
  (λ e.
      let lt = (edges_within c.args.bound.now c.args.count c.requires.range a b e).0 in
      (c.loop-binding.invariant.edges a b).1 ((let end = c.loop-binding-test.false in omega arith), e)),
)
