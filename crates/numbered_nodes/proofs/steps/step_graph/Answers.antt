use Rattle.std.proofs.Common.{◌≡◌, ◌⊎◌, ◌↔◌, ◌<◌, ◌+◌, ℕ, List, Vec, drop, get_or, length, sym, ◌∙◌, subst}
use Rattle.std.specs.Global.{Global}
use Rattle.numbered_nodes.specs.Edges.{lists, HasEdge}
use Rattle.numbered_nodes.specs.Needs.{Hub}
use Rattle.numbered_nodes.proofs.StepRows.{edges_within, step_edges, whole}
use Rattle.numbered_nodes.proofs.steps.step_graph.Goals as goal

pub returns-clause-edges : goal.returns-clause-edges
returns-clause-edges c =
    let g = lists c.args.graph.now in
    let loops = c.args.loops.now in
    let n = length loops in
    let within = edges_within c.args.graph.now n c.requires.len c.requires.range in
    let nodes = c.in_ok-rows.ensures in
    let wide = c.add_empty_rows.new.rows.items in
    let all = c.add_members.new.rows in
    let members = subst (λ (l : List (Vec ℕ Global)). (x y : ℕ) → HasEdge (lists all) x y ↔ (HasEdge (lists l) x y ⊎ ((y < n) × (x ≡ n + get_or loops y 0)))) c.deref_mut.ensures.value c.in_ok-add_members.ensures.edges in
    let edges = step_edges g loops within c.in_ok-rows.rows.items (lists wide) (lists all) nodes.len c.in_ok-add_empty_rows.ensures nodes.edges members in
    let end = whole c.add_empty_rows.new.rows.len all (drop (length all) wide) (c.add_members.ensures.len ∙ c.deref_mut.ensures.len) in
    subst (λ (l : List (Vec ℕ Global)). (x y : ℕ) → HasEdge (lists l) x y ↔ Hub (HasEdge g) (λ a. get_or loops a 0) n x y) (sym end) edges
