use Rattle.std.proofs.Common.{◌⊎◌, ◌↔◌, ◌<◌, [], ℕ, List, Vec, get_or, length, arith, rules, sym, subst}
use Rattle.std.specs.Global.{Global}
use Rattle.std.specs.List.{All, Contains}
use Rattle.std.proofs.lemmas.List.{get_or-map, map-set, length-map}
use Rattle.numbered_nodes.specs.Edges.{lists}
use Rattle.numbered_nodes.proofs.Rows.{row_in_range}
use Rattle.node_groups.proofs.Searching.{row_here, edges_within}
use Rattle.node_groups.specs.Steps.{IsAway}
use Rattle.node_groups.proofs.Stepping.{steps_next, steps_end}
use Rattle.node_groups.proofs.steps.add_steps.Goals as goal

pub add_away-requires : goal.add_away-requires
add_away-requires c =
    let n = length c.args.graph.now in
    let row = row_in_range c.args.graph.now n c.loop-node.node c.index-graph-node.result c.requires.range c.loop-node-test.true c.index-graph-node.is in
    record { targets = subst (λ (k : ℕ). All (λ b. b < k) c.deref.result.now) (sym c.requires.loops.0) (subst (λ (xs : List ℕ). All (λ b. b < n) xs) (sym c.deref.ensures.value) row) }

pub loop-node-preserved : goal.loop-node-preserved
loop-node-preserved c =
    let g = lists c.args.graph.now in
    let rows : List (Vec ℕ Global) = c.loop-node.rows in
    let loops = c.args.loops.now in
    let node : ℕ = c.loop-node.node in
    let m : ℕ = get_or loops node 0 in
    let inv = c.loop-node.invariant in
    let len = inv.len in
    let long = c.requires.loops.0 in
    let small : m < length c.args.graph.now = c.requires.loops.1 node 0 (let lt = c.loop-node-test.true in omega arith) in
    let lt : m < length rows = omega arith in
    let items : Vec ℕ Global → List ℕ = λ v. v.items in
    let wide : m < length (lists rows) = omega (arith, length-map rows items) in
    let row : List ℕ = c.add_away.new.row.items in
    let here = row_here c.args.graph.now node c.index-graph-node.result c.deref.result.now c.loop-node-test.true c.index-graph-node.is c.deref.ensures.value in
    let old = get_or-map items rows m c.index-rows-loops.result [] lt in
    let step = subst (λ (l : List ℕ). (y : ℕ) → Contains row y ↔ (Contains l y ⊎ IsAway c.deref.result.now loops m y)) (sym old) c.in_ok-add_away.ensures in
    let step' = subst (λ (l : List ℕ). (y : ℕ) → Contains row y ↔ (Contains (get_or (lists rows) m []) y ⊎ IsAway l loops m y)) (sym here) step in
    record {
      len = search rules;
      steps = steps_next g (lists rows) _ loops row node wide (map-set items rows m c.add_away.new.row) step' inv.steps;
    }

pub returns-clause-steps : goal.returns-clause-steps
returns-clause-steps c =
    let n = length c.args.graph.now in
    steps_end (lists c.args.graph.now) (lists c.loop-node.rows) c.args.loops.now c.loop-node.node n (let end = c.loop-node-test.false in omega arith) (λ a b e. (edges_within c.args.graph.now n c.requires.range a b e).0) c.loop-node.invariant.steps
