use Rattle.std.proofs.Common.{◌&&◌, ℕ, Bool, List, get_or, length, nat_eq, ap, sym, ◌∙◌, arith, rules}
use Rattle.numbered_nodes.specs.Bits.{has}
use Rattle.numbered_nodes.proofs.Below.{NoneFrom, absent_in, any_skip}
use Rattle.mod_graph.proofs.Skips.{place_found}
use Rattle.mod_graph.proofs.lists.placed_in.Goals as goal

pub loop-number-preserved : goal.loop-number-preserved
loop-number-preserved c =
    let places : List ℕ = c.args.places.now in
    let need : List ℕ = c.args.needed.now in
    let none : List ℕ = c.args.none.now in
    let number : ℕ = c.in-Some.number in
    let some = c.in-Some.ensures.some in
    let passed : NoneFrom (has need) c.loop-number.from number = λ j from to. absent_in (has need j) (has none j) (c.in-Some.ensures.least j from to) (c.requires.none j) in
    record {
      within = omega (arith, some.1);
      room = search rules;
      has = λ k. place_found need places c.loop-number.from number k (has c.loop-number.placed k) (has c.insert.new.self k) some.0 passed some.2 (c.loop-number.invariant.has k) (c.insert.ensures.has k);
    }

pub returns-clause-has : goal.returns-clause-has
returns-clause-has c = λ k.
    let places : List ℕ = c.args.places.now in
    let need : List ℕ = c.args.needed.now in
    let none : List ℕ = c.args.none.now in
    let test : ℕ → Bool = λ r. has need r && nat_eq k (get_or places r 0) in
    let passed : NoneFrom test c.loop-number.from (length places) = λ j from to. ap (λ t. t && nat_eq k (get_or places j 0)) (absent_in (has need j) (has none j) (c.in_default.ensures.none j from to) (c.requires.none j)) in
    c.loop-number.invariant.has k ∙ sym (any_skip test c.loop-number.from (length places) c.loop-number.invariant.within passed)
