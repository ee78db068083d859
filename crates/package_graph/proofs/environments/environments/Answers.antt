use Rattle.std.proofs.Common.{ℕ, List, [], get_or, ap, ◌∙◌, arith, rules}
use Rattle.std.proofs.lemmas.List.{get_or_default}
use Rattle.numbered_nodes.specs.Bits.{has}
use Rattle.numbered_nodes.specs.Chains.{below}
use Rattle.numbered_nodes.proofs.Below.{below_alike}
use Rattle.package_graph.specs.Environments.{among}
use Rattle.package_graph.proofs.Joined.{lists_next}
use Rattle.package_graph.proofs.environments.environments.Goals as goal

pub loop-number-preserved : goal.loop-number-preserved
loop-number-preserved c =
    let own : List (List ℕ) = c.args.own.now in
    let needs : List (List ℕ) = c.args.needs.now in
    let number : ℕ = c.loop-number.number in
    let count : ℕ = c.args.count in
    let less = c.loop-number-test.true in
    let many = c.requires.nodes in
    record {
      len = search rules;
      lists = lists_next (λ a. below count (among own (get_or needs a []) a)) c.loop-number.reached.items c.push.new.self.items c.in_ok-places_in.field-0 number c.loop-number.invariant.len c.in_ok-push.ensures.items
          (c.in_ok-places_in.ensures ∙ below_alike count (has c.in_ok-row.row) (among own (get_or needs number []) number) (λ k lt.
          c.in_ok-row.ensures.has k ∙ ap (λ (n : List ℕ). among own n number k) (c.index-needs-number.is ∙ get_or_default needs number c.index-needs-number.result [] (omega arith))))
          c.loop-number.invariant.lists;
    }
