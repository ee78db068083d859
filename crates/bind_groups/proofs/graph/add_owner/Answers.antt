use Rattle.std.proofs.Common.{◌≡◌, ◌<◌, ◌++◌, ◌∷◌, [], ℕ, List, Vec, get_or, set, length, arith, rules, sym, ap, ◌∙◌}
use Rattle.std.specs.Global.{Global}
use Rattle.std.proofs.lemmas.List.{get_or-map, map-set, length-map}
use Rattle.numbered_nodes.specs.Edges.{lists}
use Rattle.node_groups.proofs.Pushed.{sources_next, sources_end}
use Rattle.bind_groups.proofs.graph.add_owner.Goals as goal

pub loop-name-preserved : goal.loop-name-preserved
loop-name-preserved c =
    let rows : List (Vec ℕ Global) = c.loop-name.rows in
    let targets = c.args.names.now in
    let i : ℕ = c.loop-name.name-index in
    let m : ℕ = get_or targets i 0 in
    let small = c.requires.range i 0 c.loop-name-test.true in
    let len = c.loop-name.invariant.len in
    let lt : m < length rows = omega arith in
    let items : Vec ℕ Global → List ℕ = λ v. v.items in
    let row : c.push.new.self.items ≡ get_or (lists rows) m [] ++ c.args.binding ∷ [] =
    c.in_ok-push.ensures.items ∙ ap (λ r. r ++ c.args.binding ∷ []) (sym (get_or-map items rows m c.index-rows-name.result [] lt)) in
    record {
      len = search rules;
      edges = sources_next (lists c.args.rows.now) (lists rows) _ targets c.args.binding i c.loop-name-test.true (omega (arith, length-map rows items))
          (map-set items rows m c.push.new.self ∙ ap (set (lists rows) m) row) c.loop-name.invariant.edges;
    }

pub returns-clause-edges : goal.returns-clause-edges
returns-clause-edges c = sources_end (lists c.args.rows.now) (lists c.loop-name.rows) c.args.names.now c.args.binding c.loop-name.name-index (omega arith) c.loop-name.invariant.edges
