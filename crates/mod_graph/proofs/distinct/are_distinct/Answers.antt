use Rattle.std.proofs.Common.{◌≡◌, ℕ, true, false, not, ◌∙◌, List, refl, ap, sym, subst, rules}
use Rattle.std.specs.List.{IsDistinct, list_any}
use Rattle.std.proofs.lemmas.Bool.{false≢true}
use Rattle.std.proofs.lemmas.List.{take_all}
use Rattle.mk_base.specs.declared.name.Node.{Node}
use Rattle.mod_graph.specs.declared.input.HeaderOf.{HeaderOf}
use Rattle.mod_graph.specs.Names.{same_node}
use Rattle.mod_graph.proofs.SeenNodes.{nodes_of, first_of_node, not_added, distinct_by_set}
use Rattle.mod_graph.proofs.distinct.are_distinct.Goals as goal

pub returns-then-not-added : goal.returns-then-not-added
returns-then-not-added c =
    let hs : List HeaderOf = c.args.headers.now in
    let i : ℕ = c.loop-header.header-index in
    let h : HeaderOf = c.header-item.result in
    let seen : List Node = c.loop-header.seen.keys in
    let told : c.in_ok-added.added ≡ not (list_any (same_node c.in_ok-copy.field-0) seen) = search rules in
    let again : list_any (same_node h.node) seen ≡ true = not_added seen c.in_ok-copy.field-0 h.node c.in_ok-added.added c.in_ok-copy.ensures told c.if-not-added.true in (
      λ e. absurd (false≢true e),
      λ d. absurd (false≢true (sym (first_of_node hs i h c.loop-header-test.true c.header-item.is d) ∙ ap (list_any (same_node h.node)) (sym c.loop-header.invariant.keys) ∙ again)),
    )

pub returns : goal.returns
returns c =
    let hs : List HeaderOf = c.args.headers.now in
    let all : c.loop-header.seen.keys ≡ nodes_of hs = c.loop-header.invariant.keys ∙ ap nodes_of (take_all c.loop-header.header-index hs c.loop-header-test.false) in
    (λ e. distinct_by_set hs (subst (IsDistinct same_node) all c.loop-header.invariant.unique), λ d. refl)
