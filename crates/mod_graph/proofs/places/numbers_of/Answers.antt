use Rattle.std.proofs.Common.{◌<◌, ℕ, List, length, ap, sym, ◌∙◌}
use Rattle.mod_graph.specs.declared.entries.Entry.{Entry}
use Rattle.mod_graph.specs.Names.{same_text, same_node, node_named}
use Rattle.mod_graph.specs.Targets.{or_number}
use Rattle.mod_graph.proofs.FirstNumbers.{position_next}
use Rattle.mod_graph.proofs.places.numbers_of.Goals as goal

pub loop-number-preserved : goal.loop-number-preserved
loop-number-preserved c =
    let es : List Entry = c.args.entries.now in
    let i : ℕ = c.loop-number.number in
    let e : Entry = c.index-entries-number.result in
    let lt : i < length es = c.loop-number-test.true in
    let old = c.loop-number.numbers in (
      λ boot m.
          c.in_ok-add_node.ensures.nodes boot m
          ∙ ap (λ o. or_number o (same_node (node_named m boot) e.node) i) (c.loop-number.invariant.0 boot m)
          ∙ sym (position_next (λ (d : Entry). same_node (node_named m boot) d.node) es i e lt c.index-entries-number.is),
      λ m.
          c.in_ok-add_node.ensures.modules m
          ∙ ap (λ o. or_number o (same_text m e.node.module.text) i) (c.loop-number.invariant.1 m)
          ∙ sym (position_next (λ (d : Entry). same_text m d.node.module.text) es i e lt c.index-entries-number.is),
    )
