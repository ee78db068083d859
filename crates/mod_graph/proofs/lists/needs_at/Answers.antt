use Rattle.std.proofs.Common.{◌≡◌, ◌&&◌, not, ℕ, List, length, ◌∙◌}
use Rattle.mk_base.specs.declared.place.NodeId.{NodeId}
use Rattle.numbered_nodes.specs.Bits.{has}
use Rattle.numbered_nodes.specs.Chains.{below}
use Rattle.mod_graph.specs.Graph.{ids}
use Rattle.mod_graph.specs.Seen.{places_needed}
use Rattle.mod_graph.proofs.Skips.{if_ok, needed_listed}
use Rattle.mod_graph.proofs.lists.needs_at.Goals as goal

pub returns : goal.returns
returns c =
    let order : List ℕ = c.args.order.now in
    let needed : List ℕ = c.args.needed.now in
    let placed : List ℕ = c.in_ok-placed.placed in
    let skipped : List ℕ = c.insert.new.self in
    if_ok (λ (ns : List NodeId). ids ns ≡ below (length order) (λ k. not (has skipped k) && has placed k)) (λ (ns : List NodeId). ids ns ≡ places_needed needed order c.args.place) c.listed.result
    (λ ns same. same ∙ needed_listed needed c.args.places.now order placed skipped c.in_ok-skipped.skipped c.args.place c.requires.places c.in_ok-skipped.ensures.none c.insert.ensures.has c.in_ok-placed.ensures.has)
    c.listed.ensures
