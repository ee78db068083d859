use Rattle.std.proofs.Common.{◌≡◌, ◌<◌, ◌↔◌, ℕ, List, get_or, length, drop, rules, sym, subst}
use Rattle.numbered_nodes.specs.Reach.{InOneLoop}
use Rattle.numbered_nodes.specs.Edges.{lists, HasEdge}
use Rattle.node_groups.proofs.Pushed.{whole}
use Rattle.node_groups.proofs.Naming.{all_named}
use Rattle.node_groups.proofs.components.components.Goals as goal

pub returns-clause-loops : goal.returns-clause-loops
returns-clause-loops c =
    let n = length c.args.graph.now in
    let E = HasEdge (lists c.args.graph.now) in
    let new = c.name_all.new.names in
    let done = c.in_ok-name_all.ensures in
    let back = whole c.resize.new.self.len new (drop (length new) c.resize.new.self.items) (search rules) in
    subst (λ (l : List ℕ). (a b : ℕ) → a < n → b < n → (get_or l a 0 ≡ get_or l b 0) ↔ InOneLoop E a b) (sym back) (all_named E n new c.name_all.new.marks done.parted done.all)
