use Rattle.std.proofs.Common.{◌≡◌, ℕ, ◌+◌, ◌<◌, List, [], ◌∷◌, ◌++◌, length, refl, sym, ap, ◌∙◌, subst, Some, arith}
use Rattle.std.specs.Prelude.{slice_get}
use Rattle.std.proofs.lemmas.List.{length-map}
use Rattle.std.proofs.lemmas.Option.{slice_get_read}
use Rattle.mk_base.specs.declared.name.Node.{Node}
use Rattle.build_plan.specs.declared.plan.PlannedNode.{PlannedNode}
use Rattle.build_plan.specs.declared.sources.Source.{Source}
use Rattle.build_plan.specs.Tree.{header_at, ordered}
use Rattle.build_plan.proofs.Nodes.{paired, never_lost, source_below, source_here, header_here}
use Rattle.build_plan.proofs.Planning.{AreFirst, none_first, next_first, all_first}
use Rattle.build_plan.proofs.plan.nodes_in_order.Goals as goal

abbrev with_source : PlannedNode → Source → PlannedNode
with_source m s = record { node = m.node; bytes = s.bytes; header = m.header }

pub loop-node-init : goal.loop-node-init
loop-node-init c = λ t plan e h. none_first t c.args.headers.now c.new-nodes.result.items c.new-nodes.ensures.items

pub bounds-sources-at : goal.bounds-sources-at
bounds-sources-at c =
    let t = c.requires.planned.0 in
    let g = c.args.graph.now in
    let n = c.loop-node.node-index in
    let here : slice_get g.order n ≡ Some c.node-item.result =
    ap (λ (ns : List Node). slice_get ns n) (sym (c.as_slice-node-items.ensures ∙ c.order.ensures.is))
    ∙ slice_get_read c.as_slice-node-items.result.now (length c.as_slice-node-items.result.now) n c.node-item.result refl c.loop-node-test.true c.node-item.is in
    source_below t g c.requires.planned.1 c.in_ok-places.places c.args.sources.now c.in_ok-places.ensures c.requires.planned.2 n c.node-item.result here c.in-Some.at (sym c.place_of.ensures ∙ c.in-Some.is)

pub loop-node-preserved : goal.loop-node-preserved
loop-node-preserved c = λ t plan e h.
    let g = c.args.graph.now in
    let n = c.loop-node.node-index in
    let here : slice_get g.order n ≡ Some c.node-item.result =
    ap (λ (ns : List Node). slice_get ns n) (sym (c.as_slice-node-items.ensures ∙ c.order.ensures.is))
    ∙ slice_get_read c.as_slice-node-items.result.now (length c.as_slice-node-items.result.now) n c.node-item.result refl c.loop-node-test.true c.node-item.is in
    let found = sym c.place_of.ensures ∙ c.in-Some.is in
    let lt : c.in-Some.at < length c.args.sources.now = source_below t g plan c.in_ok-places.places c.args.sources.now c.in_ok-places.ensures e n c.node-item.result here c.in-Some.at found in
    let s = c.index-sources-at.result in
    let read = slice_get_read c.args.sources.now (length c.args.sources.now) c.in-Some.at s refl lt c.index-sources-at.is in
    let source = source_here t g plan c.in_ok-places.places c.args.sources.now c.in_ok-places.ensures e n c.node-item.result here c.in-Some.at found s read in
    let header = header_here t g plan c.in_ok-places.places c.args.sources.now c.in_ok-places.ensures e n c.node-item.result here c.in-Some.at found s read c.args.headers.now h in
    let made : PlannedNode = record { node = c.in_ok-copy.field-0; bytes = s.bytes; header = c.in-Some.at } in
    subst (λ (ns : List PlannedNode). AreFirst t c.args.headers.now ns (n + 1)) (sym c.in_ok-push.ensures.items)
    (subst (λ (x : Source). AreFirst t c.args.headers.now (c.loop-node.nodes.items ++ with_source made x ∷ []) (n + 1)) c.index-sources-at.is
    (next_first t c.args.headers.now c.loop-node.nodes.items n made (c.loop-node.invariant t plan e h)
    (source ∙ ap (λ (m : Node). Some (paired s.bytes.now m)) (sym c.in_ok-copy.ensures))
    (header ∙ ap (λ (m : Node). Some (header_at m s.bytes.now)) (sym c.in_ok-copy.ensures))))

pub returns : goal.returns
returns c = λ t plan e h.
    let g = c.args.graph.now in
    let count : length c.as_slice-node-items.result.now ≡ length (ordered t) =
    ap length (c.as_slice-node-items.ensures ∙ c.order.ensures.is ∙ plan.order) ∙ length-map (ordered t) (λ (q : Node × List ℕ). q.0) in
    all_first t c.args.headers.now c.loop-node.nodes.items c.loop-node.node-index (omega arith) (c.loop-node.invariant t plan e h)

pub unreachable-requires : goal.unreachable-requires
unreachable-requires c =
    let t = c.requires.planned.0 in
    let g = c.args.graph.now in
    let n = c.loop-node.node-index in
    let here : slice_get g.order n ≡ Some c.node-item.result =
    ap (λ (ns : List Node). slice_get ns n) (sym (c.as_slice-node-items.ensures ∙ c.order.ensures.is))
    ∙ slice_get_read c.as_slice-node-items.result.now (length c.as_slice-node-items.result.now) n c.node-item.result refl c.loop-node-test.true c.node-item.is in
    never_lost t g c.requires.planned.1 c.in_ok-places.places c.args.sources.now c.in_ok-places.ensures c.requires.planned.2 n c.node-item.result here (sym c.place_of.ensures ∙ c.in_default.is)
