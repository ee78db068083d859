use Rattle.std.proofs.Common.{◌≡◌, ◌<◌, ◌↔◌, ℕ, List, Vec, [], get_or, length, drop, rules, sym, subst}
use Rattle.std.specs.Global.{Global}
use Rattle.numbered_nodes.specs.Edges.{lists, HasEdge}
use Rattle.node_groups.proofs.Pushed.{whole}
use Rattle.node_groups.specs.Rising.{AreRising}
use Rattle.node_groups.proofs.members.members.Goals as goal

pub returns-clause-members : goal.returns-clause-members
returns-clause-members c =
    let rows = c.in_ok-rows.rows in
    let new = c.add_members.new.rows in
    let back = whole rows.len new (drop (length new) rows.items) (search rules) in
    subst (λ (r : List (Vec ℕ Global)). (k a : ℕ) → HasEdge (lists r) k a ↔ ((a < length c.args.loops.now) × (get_or c.args.loops.now a 0 ≡ k))) (sym back) c.in_ok-add_members.ensures.members

pub returns-clause-rising : goal.returns-clause-rising
returns-clause-rising c =
    let rows = c.in_ok-rows.rows in
    let new = c.add_members.new.rows in
    let back = whole rows.len new (drop (length new) rows.items) (search rules) in
    subst (λ (r : List (Vec ℕ Global)). (k : ℕ) → AreRising (get_or (lists r) k [])) (sym back) c.in_ok-add_members.ensures.rising
