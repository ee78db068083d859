use Rattle.std.proofs.Common.{ℕ, List, sym, ◌∙◌, arith}
use Rattle.numbered_nodes.specs.Bits.{has}
use Rattle.numbered_nodes.proofs.Below.{NoneFrom, absent_in, below_found, below_skip}
use Rattle.package_graph.proofs.environments.places_in.Goals as goal

pub loop-place-preserved : goal.loop-place-preserved
loop-place-preserved c =
    let row : List ℕ = c.args.row.now in
    let none : List ℕ = c.args.none.now in
    let place : ℕ = c.in-Some.place in
    let some = c.in-Some.ensures.some in
    let passed : NoneFrom (has row) c.loop-place.from place = λ j from to. absent_in (has row j) (has none j) (c.in-Some.ensures.least j from to) (c.requires.none j) in
    record {
      within = omega (arith, some.1);
      listed = below_found (has row) c.loop-place.from place c.loop-place.places c.push.new.self c.loop-place.invariant.listed some.0 passed some.2 c.in_ok-push.ensures.ok;
    }

pub returns : goal.returns
returns c =
    let row : List ℕ = c.args.row.now in
    let none : List ℕ = c.args.none.now in
    let passed : NoneFrom (has row) c.loop-place.from c.args.count = λ j from to. absent_in (has row j) (has none j) (c.in_default.ensures.none j from to) (c.requires.none j) in
    c.loop-place.invariant.listed ∙ sym (below_skip (has row) c.loop-place.from c.args.count c.loop-place.invariant.within passed)
