use Rattle.std.proofs.Common.{◌≡◌, ◌+◌, ◌<◌, ℕ, List, ◌∷◌, [], ◌++◌, length, take, arith, ap, ◌∙◌, sym, subst}
use Rattle.std.proofs.lemmas.List.{map-append, take_all}
use Rattle.mk_base.specs.declared.name.Node.{Node}
use Rattle.build_plan.specs.declared.sources.Source.{Source}
use Rattle.mod_graph.specs.Names.{node_named}
use Rattle.build_plan.specs.Positions.{IsPlace, pairs, place_in}
use Rattle.build_plan.proofs.Placing.{place_next, front_next, pairs_count}
use Rattle.build_plan.proofs.places.places_of.Goals as goal

pub loop-place-preserved : goal.loop-place-preserved
loop-place-preserved c = λ boot m.
    let sources : List Source = c.args.sources.now in
    let i : ℕ = c.loop-place.place in
    let source : Source = c.index-sources-place.result in
    let lt : i < length sources = c.loop-place-test.true in
    let q : Node × List ℕ = (source.node, source.bytes.now) in
    let front : pairs (take (i + 1) sources) ≡ pairs (take i sources) ++ q ∷ [] =
    ap pairs (front_next sources i source lt c.index-sources-place.is) ∙ map-append (λ (s : Source). (s.node, s.bytes.now)) (take i sources) (source ∷ []) in
    subst (λ (qs : List (Node × List ℕ)). IsPlace qs (node_named m boot) (place_in c.add_place.new.places boot m)) (sym front)
    (place_next (pairs (take i sources)) q (node_named m boot) (place_in c.loop-place.places boot m) (place_in c.add_place.new.places boot m) i (pairs_count sources i (omega arith)) (c.in_ok-add_place.ensures boot m) (c.loop-place.invariant boot m))

pub returns : goal.returns
returns c = λ boot m.
    subst (λ (xs : List Source). IsPlace (pairs xs) (node_named m boot) (place_in c.loop-place.places boot m)) (take_all c.loop-place.place c.args.sources.now c.loop-place-test.false) (c.loop-place.invariant boot m)
