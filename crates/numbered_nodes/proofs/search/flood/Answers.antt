use Rattle.std.proofs.Common.{◌≡◌, ◌<◌, ℕ, List, length, arith, rules, sym, ◌∙◌, subst, inl, inr}
use Rattle.std.specs.List.{Contains}
use Rattle.numbered_nodes.specs.Edges.{lists}
use Rattle.numbered_nodes.proofs.Searches.{contains_last, sound_next, settled_next, nodes_next, closed_has, length_lists}
use Rattle.numbered_nodes.proofs.search.flood.Goals as goal

pub scan-requires-clause-x : goal.scan-requires-clause-x
scan-requires-clause-x c = (c.loop-x.invariant.nodes c.in-Some.x (subst (λ (l : List ℕ). Contains l c.in-Some.x) (sym c.in-Some.ensures.items) (contains_last c.pop.new.self.items c.in-Some.x))).0

pub loop-x-preserved : goal.loop-x-preserved
loop-x-preserved c =
    let g = lists c.args.graph.now in
    let inv = c.loop-x.invariant in
    let x = c.in-Some.x in
    let popped = c.in-Some.ensures.items in
    let node = inv.nodes x (subst (λ (l : List ℕ). Contains l x) (sym popped) (contains_last c.pop.new.self.items x)) in
    let s = c.in_ok-scan.ensures in
    let lt : x < length g = omega (arith, node.0, length_lists c.args.graph.now) in
    record {
      room = s.room ∙ inv.room;
      sound = sound_next g c.args.from x c.loop-x.row c.loop-x.left.items c.pop.new.self.items c.scan.new.row c.scan.new.left.items inv.sound inv.settled node.1 popped s.scanned s.targets;
      settled = settled_next g c.args.from x c.loop-x.row c.loop-x.left.items c.pop.new.self.items c.scan.new.row c.scan.new.left.items inv.sound inv.settled node.1 popped s.scanned s.targets;
      nodes = nodes_next g c.args.from x c.loop-x.row c.loop-x.left.items c.pop.new.self.items c.scan.new.row c.scan.new.left.items inv.sound inv.settled node.1 popped s.scanned s.targets (length c.args.graph.now) c.requires.range inv.nodes lt;
    }

pub returns-clause-reach : goal.returns-clause-reach
returns-clause-reach c =
    let g = lists c.args.graph.now in
    let inv = c.loop-x.invariant in
    let none : length c.loop-x.left.items ≡ 0 = search rules in
    λ b. (inv.sound b, closed_has g c.loop-x.row c.args.from (λ a q. elim (inv.settled a q) [ inl p ↦ absurd (omega (arith, p.1, none)) | inr s ↦ s ]))
