use Rattle.std.proofs.Common.{◌≡◌, ◌++◌, ◌∷◌, [], ℕ, List, Vec, get_or, set, arith, sym, ap, ◌∙◌}
use Rattle.std.specs.Global.{Global}
use Rattle.std.proofs.lemmas.List.{get_or-map, map-set, length-map}
use Rattle.numbered_nodes.specs.Edges.{lists}
use Rattle.node_groups.proofs.Pushed.{edge_pushed}
use Rattle.node_groups.proofs.queue.wait_for.Goals as goal

pub returns-clause-edges : goal.returns-clause-edges
returns-clause-edges c =
    let rows : List (Vec ℕ Global) = c.args.waiting.now in
    let m : ℕ = c.args.target in
    let items : Vec ℕ Global → List ℕ = λ v. v.items in
    let row : c.push.new.self.items ≡ get_or (lists rows) m [] ++ c.args.node ∷ [] =
    c.in_ok-push.ensures.items ∙ ap (λ r. r ++ c.args.node ∷ []) (sym (get_or-map items rows m c.index-waiting-target.result [] c.requires)) in
    edge_pushed (lists rows) _ m c.args.node (omega (arith, length-map rows items, c.requires)) (map-set items rows m c.push.new.self ∙ ap (set (lists rows) m) row)
