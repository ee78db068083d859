use Rattle.std.proofs.Common.{◌≡◌, ◌<◌, ℕ, List, true, false, subst, sym, ◌∙◌}
use Rattle.std.specs.List.{All}
use Rattle.numbered_nodes.proofs.Rows.{row_in_range, range_next}
use Rattle.numbered_nodes.proofs.edges.are_in_range.Goals as goal

pub returns-then-not-are_below : goal.returns-then-not-are_below
returns-then-not-are_below c = (
  (λ t. let e : false ≡ true = t in cc),
  (λ h.
      let row = row_in_range c.args.graph.now c.args.count c.loop-targets.targets-index c.targets-item.result h c.loop-targets-test.true c.targets-item.is in
      let below = c.are_below.ensures.1 (subst (λ (xs : List ℕ). All (λ b. b < c.args.count) xs) (sym c.deref.ensures.value) row) in
      let e : true ≡ false = sym below ∙ c.if-not-are_below.true in cc),
)

pub loop-targets-preserved : goal.loop-targets-preserved
loop-targets-preserved c =
    let here = subst (λ (xs : List ℕ). All (λ b. b < c.args.count) xs) c.deref.ensures.value (c.are_below.ensures.0 c.if-not-are_below.false) in
    range_next c.args.graph.now c.args.count c.loop-targets.targets-index c.targets-item.result c.loop-targets-test.true c.targets-item.is here c.loop-targets.invariant
