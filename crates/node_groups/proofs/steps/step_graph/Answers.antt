use Rattle.std.proofs.Common.{◌↔◌, ℕ, List, Vec, length, drop, rules, sym, subst}
use Rattle.std.specs.Global.{Global}
use Rattle.numbered_nodes.specs.Edges.{lists, HasEdge}
use Rattle.node_groups.proofs.Pushed.{whole}
use Rattle.node_groups.specs.Steps.{IsStep}
use Rattle.node_groups.proofs.steps.step_graph.Goals as goal

pub returns-clause-steps : goal.returns-clause-steps
returns-clause-steps c =
    let rows = c.in_ok-rows.rows in
    let new = c.add_steps.new.rows in
    let back = whole rows.len new (drop (length new) rows.items) (search rules) in
    subst (λ (r : List (Vec ℕ Global)). (k y : ℕ) → HasEdge (lists r) k y ↔ IsStep (lists c.args.graph.now) c.args.loops.now k y) (sym back) c.in_ok-add_steps.ensures.steps
