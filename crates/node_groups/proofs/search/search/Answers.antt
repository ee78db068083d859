use Rattle.std.proofs.Common.{◌≡◌, ℕ, List, [], length, arith, rules, subst, sym}
use Rattle.std.specs.List.{Contains}
use Rattle.std.proofs.lemmas.List.Elements.{Contains-push}
use Rattle.numbered_nodes.specs.Edges.{lists}
use Rattle.node_groups.specs.Marks.{IsSearch}
use Rattle.node_groups.proofs.Searching.{edges_within, pop_next, all_found}
use Rattle.node_groups.proofs.search.search.Goals as goal

pub scan-requires-clause-x : goal.scan-requires-clause-x
scan-requires-clause-x c =
    let x = c.in-Some.x in
    let node = c.loop-x.invariant.search.nodes x (subst (λ (l : List ℕ). Contains l x) (sym c.in-Some.ensures.items) (Contains-push c.pop.new.self.items x)) in
    let below = node.0 in omega arith

pub scan-requires-clause-search : goal.scan-requires-clause-search
scan-requires-clause-search c = pop_next (lists c.args.graph.now) c.args.keys.now c.args.key c.args.from c.loop-x.marks c.loop-x.left.items c.pop.new.self.items c.in-Some.x (length c.args.graph.now) c.loop-x.invariant.search (omega arith) c.in-Some.ensures.items

pub returns-clause-found : goal.returns-clause-found
returns-clause-found c =
    let n = length c.args.graph.now in
    let g = lists c.args.graph.now in
    let inv = c.loop-x.invariant in
    let none : c.loop-x.left.items ≡ [] = search rules in
    let end = subst (λ (l : List ℕ). IsSearch g c.args.keys.now c.args.key c.args.from c.loop-x.marks l n) none inv.search in
    all_found g c.args.keys.now c.args.key c.args.from c.loop-x.marks n end (omega arith) (λ a b e. (edges_within c.args.graph.now n c.requires.range a b e).1) c.requires.from inv.here
