use Rattle.std.proofs.Common.{◌≡◌, ◌<◌, ◌↔◌, ◌++◌, ◌∷◌, [], ℕ, List, Vec, get_or, set, length, arith, rules, sym, ap, ◌∙◌, subst}
use Rattle.std.specs.Global.{Global}
use Rattle.std.proofs.lemmas.List.{get_or-map, map-set, length-map}
use Rattle.numbered_nodes.specs.Edges.{lists, HasEdge}
use Rattle.node_groups.proofs.Membership.{members_next, rising_next}
use Rattle.node_groups.proofs.members.add_members.Goals as goal

pub loop-node-preserved : goal.loop-node-preserved
loop-node-preserved c =
    let rows : List (Vec ℕ Global) = c.loop-node.rows in
    let loops = c.args.loops.now in
    let node : ℕ = c.loop-node.node in
    let m : ℕ = get_or loops node 0 in
    let inv = c.loop-node.invariant in
    let len = inv.len in
    let small : m < length loops = c.requires.below node 0 (omega arith) in
    let lt : m < length rows = omega arith in
    let items : Vec ℕ Global → List ℕ = λ v. v.items in
    let row : c.push.new.self.items ≡ get_or (lists rows) m [] ++ node ∷ [] =
    c.in_ok-push.ensures.items ∙ ap (λ r. r ++ node ∷ []) (sym (get_or-map items rows m c.index-rows-loops.result [] lt)) in
    let wide : m < length (lists rows) = omega (arith, length-map rows items) in
    let is = map-set items rows m c.push.new.self ∙ ap (set (lists rows) m) row in
    record {
      len = search rules;
      members = members_next (lists rows) _ loops node wide is inv.members;
      rising = rising_next (lists rows) _ loops node wide is inv.members inv.rising;
    }

pub returns-clause-members : goal.returns-clause-members
returns-clause-members c =
    let end : c.loop-node.node ≡ length c.args.loops.now = (let e = c.loop-node-test.false in let f = c.loop-node.auto.node-end in omega arith) in
    subst (λ n. (k a : ℕ) → HasEdge (lists c.loop-node.rows) k a ↔ ((a < n) × (get_or c.args.loops.now a 0 ≡ k))) end c.loop-node.invariant.members
