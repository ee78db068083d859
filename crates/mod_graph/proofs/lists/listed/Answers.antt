use Rattle.std.proofs.Common.{◌&&◌, not, ℕ, Bool, List, refl, sym, ◌∙◌, arith}
use Rattle.numbered_nodes.specs.Bits.{has}
use Rattle.numbered_nodes.proofs.Below.{NoneFrom, below_skip}
use Rattle.mod_graph.proofs.Skips.{ids_found, outside, stands}
use Rattle.mod_graph.proofs.lists.listed.Goals as goal

pub loop-place-preserved : goal.loop-place-preserved
loop-place-preserved c =
    let placed : List ℕ = c.args.placed.now in
    let skipped : List ℕ = c.args.skipped.now in
    let place : ℕ = c.in-Some.place in
    let test : ℕ → Bool = λ k. not (has skipped k) && has placed k in
    let some = c.in-Some.ensures.some in
    let passed : NoneFrom test c.loop-place.from place = λ j from to. outside (has placed j) (has skipped j) (c.in-Some.ensures.least j from to) in
    record {
      within = omega (arith, some.1);
      listed = ids_found test c.loop-place.from place c.loop-place.nodes c.push.new.self (record { 0 = place }) c.loop-place.invariant.listed some.0 passed (stands (has placed place) (has skipped place) some.2 some.3) c.in_ok-push.ensures.ok refl;
    }

pub returns : goal.returns
returns c =
    let placed : List ℕ = c.args.placed.now in
    let skipped : List ℕ = c.args.skipped.now in
    let test : ℕ → Bool = λ k. not (has skipped k) && has placed k in
    let passed : NoneFrom test c.loop-place.from c.args.count = λ j from to. outside (has placed j) (has skipped j) (c.in_default.ensures.none j from to) in
    c.loop-place.invariant.listed ∙ sym (below_skip test c.loop-place.from c.args.count c.loop-place.invariant.within passed)
