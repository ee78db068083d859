use Rattle.std.proofs.Common.{◌≡◌, ◌∙◌, ℕ, List, [], get_or, length, ap, arith, rules}
use Rattle.numbered_nodes.specs.Chains.{below}
use Rattle.package_graph.specs.Environments.{among}
use Rattle.mod_graph.proofs.EnvironmentRows.{environments_are}
use Rattle.mod_graph.proofs.reached.reached_packages.Goals as goal

pub returns : goal.returns
returns c = λ i e tables.
    let own : List (List ℕ) = c.in_ok-own.own.items in
    let count : ℕ = c.len.result in
    let len : length c.deref.result.now ≡ length c.args.entries.now = ap (λ (l : List (List ℕ)). length l) c.deref.ensures.value ∙ c.in_ok-own.ensures.len in
    environments_are i c.args.numbers.now c.args.rows.now c.args.packages.now c.args.entries.now own c.in_ok-reached.reached.items count
    e c.requires.numbers c.requires.rows tables c.in_ok-own.ensures.len c.in_ok-own.ensures.has (search rules) (c.in_ok-reached.ensures.nodes ∙ len)
    (λ a lt. c.in_ok-reached.ensures.numbers a (omega arith)
    ∙ ap (λ (o : List (List ℕ)). below count (among o (get_or c.deref-2.result.now a []) a)) c.deref.ensures.value
    ∙ ap (λ (n : List (List ℕ)). below count (among own (get_or n a []) a)) c.deref-2.ensures.value)
