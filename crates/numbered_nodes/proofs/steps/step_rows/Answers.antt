use Rattle.std.proofs.Common.{◌≡◌, ◌↔◌, ◌+◌, ℕ, List, Vec, length, ap, sym, ◌∙◌, subst, refl}
use Rattle.std.specs.Global.{Global}
use Rattle.numbered_nodes.specs.Bits.{room_for}
use Rattle.numbered_nodes.specs.Reach.{Reach}
use Rattle.numbered_nodes.specs.Edges.{lists, HasEdge, InRange, Relates, HaveRoom}
use Rattle.numbered_nodes.proofs.StepRows.{edges_within}
use Rattle.numbered_nodes.proofs.NeedsRows.{front_room, targets_range, hub_below, step_relates}
use Rattle.numbered_nodes.proofs.steps.step_rows.Goals as goal

pub reach_rows-requires : goal.reach_rows-requires
reach_rows-requires c =
    let E = HasEdge (lists c.args.graph.now) in
    let loops = c.args.loops.now in
    let n = length loops in
    let within = edges_within c.args.graph.now n c.requires.len c.requires.range in
    let g = c.in_ok-steps.steps.items in
    let edges = c.in_ok-steps.ensures.edges in
    let range = targets_range (lists g) (n + n) (λ x y h. hub_below E loops n within refl c.requires.loops x y ((edges x y).0 h)) in
    record { range = subst (λ (l : List (Vec ℕ Global)). InRange (lists l) (length l)) (sym c.deref.ensures.value) (subst (λ m. InRange (lists g) m) (sym c.in_ok-steps.ensures.len) range) }

pub returns-clause-steps : goal.returns-clause-steps
returns-clause-steps c =
    let E = HasEdge (lists c.args.graph.now) in
    let loops = c.args.loops.now in
    let n = length loops in
    let within = edges_within c.args.graph.now n c.requires.len c.requires.range in
    let exact = subst (λ (l : List (Vec ℕ Global)). (a b : ℕ) → Relates c.in_ok-rows.rows.items a b ↔ Reach (HasEdge (lists l)) a b) c.deref.ensures.value c.in_ok-rows.ensures.reach in
    step_relates E loops n within (lists c.in_ok-steps.steps.items) c.in_ok-rows.rows.items c.truncate.new.self.items c.truncate.ensures.items c.in_ok-steps.ensures.edges exact

pub returns-clause-room : goal.returns-clause-room
returns-clause-room c =
    let n = length c.args.loops.now in
    let e : length c.deref.result.now ≡ n + n = ap (λ (l : List (Vec ℕ Global)). length l) c.deref.ensures.value ∙ c.in_ok-steps.ensures.len in
    front_room (room_for (n + n)) n c.in_ok-rows.rows.items c.truncate.new.self.items c.truncate.ensures.items (subst (λ m. HaveRoom (room_for m) c.in_ok-rows.rows.items) e c.in_ok-rows.ensures.room)
