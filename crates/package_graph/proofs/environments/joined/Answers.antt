use Rattle.std.proofs.Common.{◌&&◌, ◌||◌, ℕ, Bool, List, [], get_or, length, refl, ap, sym, ◌∙◌, arith, rules}
use Rattle.std.proofs.lemmas.List.{get_or_default}
use Rattle.numbered_nodes.specs.Bits.{has}
use Rattle.numbered_nodes.proofs.Below.{NoneFrom, any_skip}
use Rattle.package_graph.proofs.Joined.{joined_found, adds_nothing}
use Rattle.package_graph.proofs.environments.joined.Goals as goal

pub loop-b-preserved : goal.loop-b-preserved
loop-b-preserved c =
    let own : List (List ℕ) = c.args.own.now in
    let need : List ℕ = c.args.needed.now in
    let plain : List ℕ = c.args.plain.now in
    let b : ℕ = c.in-Some.b in
    let some = c.in-Some.ensures.some in
    record {
      within = omega (arith, some.1);
      room = search rules;
      has = λ k.
          let test : ℕ → Bool = λ r. has need r && has (get_or own r []) k in
          let passed : NoneFrom test c.loop-b.from b = λ r from to. adds_nothing (has need r) (has plain r) (has (get_or own r []) k) (c.in-Some.ensures.least r from to) (c.requires.plain r k) in
          joined_found test c.loop-b.from b (has (get_or own c.args.number []) k) (has c.loop-b.row k) (has c.add_all.new.self k) (has (get_or own b []) k) (has need b) some.0 passed some.2 refl (c.loop-b.invariant.has k) (c.add_all.ensures.has k ∙ ap (λ r. has c.loop-b.row k || has r k) (c.index-own-b.is ∙ get_or_default own b c.index-own-b.result [] some.1));
    }

pub returns-clause-has : goal.returns-clause-has
returns-clause-has c = λ k.
    let own : List (List ℕ) = c.args.own.now in
    let need : List ℕ = c.args.needed.now in
    let plain : List ℕ = c.args.plain.now in
    let test : ℕ → Bool = λ r. has need r && has (get_or own r []) k in
    let passed : NoneFrom test c.loop-b.from (length own) = λ r from to. adds_nothing (has need r) (has plain r) (has (get_or own r []) k) (c.in_default.ensures.none r from to) (c.requires.plain r k) in
    c.loop-b.invariant.has k ∙ ap (λ t. has (get_or own c.args.number []) k || t) (sym (any_skip test c.loop-b.from (length own) c.loop-b.invariant.within passed))
