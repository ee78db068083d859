use Rattle.std.proofs.Common.{◌≡◌, ◌↔◌, ◌<◌, ℕ, List, Vec, get_or, length, ap, ◌∙◌, sym, subst}
use Rattle.std.specs.Global.{Global}
use Rattle.std.specs.List.{All}
use Rattle.std.proofs.lemmas.Result.{IfOk-weaker}
use Rattle.numbered_nodes.specs.Reach.{Reach}
use Rattle.numbered_nodes.specs.Edges.{lists, HasEdge, InRange}
use Rattle.node_groups.proofs.Searching.{edges_within}
use Rattle.node_groups.proofs.Pushed.{in_range}
use Rattle.node_groups.specs.Order.{IsOrder}
use Rattle.node_groups.specs.Groups.{IsGroups}
use Rattle.node_groups.specs.Steps.{IsStep, in_order}
use Rattle.node_groups.proofs.Grouping.{no_cycle, steps_range, are_groups, order_nodes}
use Rattle.node_groups.proofs.groups_of.Goals as goal

pub order_of-requires-clause-range : goal.order_of-requires-clause-range
order_of-requires-clause-range c =
    let g = lists c.args.graph.now in
    let n = length c.args.graph.now in
    let loops : List ℕ = c.in_ok-loops.loops.items in
    let steps : List (Vec ℕ Global) = c.in_ok-steps.steps.items in
    let leads = subst (λ (l : List ℕ). (k y : ℕ) → HasEdge (lists steps) k y ↔ IsStep g l k y) c.deref-2.ensures.value c.in_ok-steps.ensures.steps in
    let within = λ (a b : ℕ) (e : HasEdge g a b). edges_within c.args.graph.now n c.requires.range a b e in
    let range = in_range (lists steps) n (λ k y h. steps_range g n loops (lists steps) (lists steps) c.in_ok-loops.ensures.loops c.in_ok-loops.ensures.least within leads k y h) in
    subst (λ (r : List (Vec ℕ Global)). InRange (lists r) (length r)) (sym c.deref-3.ensures.value) (subst (λ k. InRange (lists steps) k) (sym c.in_ok-steps.ensures.len) range)

pub order_of-requires-clause-free : goal.order_of-requires-clause-free
order_of-requires-clause-free c =
    let g = lists c.args.graph.now in
    let n = length c.args.graph.now in
    let loops : List ℕ = c.in_ok-loops.loops.items in
    let steps : List (Vec ℕ Global) = c.in_ok-steps.steps.items in
    let leads = subst (λ (l : List ℕ). (k y : ℕ) → HasEdge (lists steps) k y ↔ IsStep g l k y) c.deref-2.ensures.value c.in_ok-steps.ensures.steps in
    let within = λ (a b : ℕ) (e : HasEdge g a b). edges_within c.args.graph.now n c.requires.range a b e in
    subst (λ (r : List (Vec ℕ Global)). (a : ℕ) → Reach (HasEdge (lists r)) a a → ⊥) (sym c.deref-3.ensures.value)
    (no_cycle g n loops (lists steps) (lists steps) c.in_ok-loops.ensures.loops c.in_ok-loops.ensures.least within leads)

pub collect-requires : goal.collect-requires
collect-requires c =
    let n = length c.args.graph.now in
    let nodes = order_nodes (HasEdge (lists c.deref-3.result.now)) (length c.deref-3.result.now) c.in_ok-order.order.items c.in_ok-order.ensures.order in
    let three : length c.deref-3.result.now ≡ n = ap (λ (l : List (Vec ℕ Global)). length l) c.deref-3.ensures.value ∙ c.in_ok-steps.ensures.len in
    let one : length c.deref.result.now ≡ n = ap (λ (l : List ℕ). length l) c.deref.ensures.value ∙ c.in_ok-loops.ensures.len in
    let four : length c.deref-4.result.now ≡ n = ap (λ (l : List (Vec ℕ Global)). length l) c.deref-4.ensures.value ∙ c.in_ok-members.ensures.len ∙ one in
    subst (λ k. All (λ x. x < k) c.deref-5.result.now) (three ∙ sym four) (subst (λ (l : List ℕ). All (λ x. x < length c.deref-3.result.now) l) (sym c.deref-5.ensures.value) nodes)

pub returns : goal.returns
returns c =
    let g = lists c.args.graph.now in
    let n = length c.args.graph.now in
    let loops : List ℕ = c.in_ok-loops.loops.items in
    let members : List (Vec ℕ Global) = c.in_ok-members.members.items in
    let steps : List (Vec ℕ Global) = c.in_ok-steps.steps.items in
    let order : List ℕ = c.in_ok-order.order.items in
    let leads = subst (λ (l : List ℕ). (k y : ℕ) → HasEdge (lists steps) k y ↔ IsStep g l k y) c.deref-2.ensures.value c.in_ok-steps.ensures.steps in
    let within = λ (a b : ℕ) (e : HasEdge g a b). edges_within c.args.graph.now n c.requires.range a b e in
    let has = subst (λ (l : List ℕ). (k a : ℕ) → HasEdge (lists members) k a ↔ ((a < length l) × (get_or l a 0 ≡ k))) c.deref.ensures.value c.in_ok-members.ensures.members in
    let has' = subst (λ m. (k a : ℕ) → HasEdge (lists members) k a ↔ ((a < m) × (get_or loops a 0 ≡ k))) c.in_ok-loops.ensures.len has in
    let sorted = subst (λ (r : List (Vec ℕ Global)). IsOrder (HasEdge (lists r)) (length r) order) c.deref-3.ensures.value c.in_ok-order.ensures.order in
    let sorted' = subst (λ k. IsOrder (HasEdge (lists steps)) k order) c.in_ok-steps.ensures.len sorted in
    let all = are_groups g n loops (lists members) (lists steps) c.in_ok-loops.ensures.loops c.in_ok-loops.ensures.least within leads has' c.in_ok-members.ensures.rising order sorted' in
    IfOk-weaker c.collect.result _ _ (λ v e.
    let e' : lists v.items ≡ in_order (lists members) order = e ∙ ap (λ (r : List (Vec ℕ Global)). in_order (lists r) c.deref-5.result.now) c.deref-4.ensures.value ∙ ap (in_order (lists members)) c.deref-5.ensures.value in
    subst (λ (gs : List (List ℕ)). IsGroups (HasEdge g) n gs) (sym e') all) c.collect.ensures
