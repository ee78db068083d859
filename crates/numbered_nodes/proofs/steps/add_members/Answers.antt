use Rattle.std.proofs.Common.{◌≡◌, ◌<◌, ◌+◌, ◌++◌, ◌∷◌, [], ℕ, List, Vec, get_or, set, length, arith, rules, sym, ap, ◌∙◌}
use Rattle.std.specs.Global.{Global}
use Rattle.std.proofs.lemmas.List.{get_or-map, map-set, length-map}
use Rattle.numbered_nodes.specs.Edges.{lists}
use Rattle.numbered_nodes.proofs.StepRows.{members_next, members_end}
use Rattle.numbered_nodes.proofs.steps.add_members.Goals as goal

pub loop-b-preserved : goal.loop-b-preserved
loop-b-preserved c =
    let rows : List (Vec ℕ Global) = c.loop-b.rows in
    let loops = c.args.loops.now in
    let b : ℕ = c.loop-b.b in
    let m : ℕ = length loops + get_or loops b 0 in
    let len = c.loop-b.invariant.len in
    let small : get_or loops b 0 < length loops = c.requires.loops b 0 (omega arith) in
    let lt : m < length rows = omega arith in
    let items : Vec ℕ Global → List ℕ = λ v. v.items in
    let row : c.push.new.self.items ≡ get_or (lists rows) m [] ++ b ∷ [] =
    c.in_ok-push.ensures.items ∙ ap (λ r. r ++ b ∷ []) (sym (get_or-map items rows m c.index-rows-loops.result [] lt)) in
    record {
      len = search rules;
      edges = members_next (lists c.args.rows.now) (lists rows) _ loops b (omega (arith, length-map rows items))
          (map-set items rows m c.push.new.self ∙ ap (set (lists rows) m) row) c.loop-b.invariant.edges;
    }

pub returns-clause-edges : goal.returns-clause-edges
returns-clause-edges c = members_end (lists c.args.rows.now) (lists c.loop-b.rows) c.args.loops.now c.loop-b.b (omega arith) c.loop-b.invariant.edges
