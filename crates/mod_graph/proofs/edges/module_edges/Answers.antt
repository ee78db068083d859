use Rattle.std.proofs.Common.{ap, ◌∙◌}
use Rattle.std.specs.List.{list_any}
use Rattle.std.proofs.lemmas.List.{take_all}
use Rattle.numbered_nodes.specs.Edges.{lists}
use Rattle.mod_graph.specs.declared.entries.Entry.{Entry}
use Rattle.mod_graph.specs.Targets as spec
use Rattle.mod_graph.proofs.EdgeRows.{rows_join}
use Rattle.mod_graph.proofs.edges.module_edges.Goals as goal

pub returns-clause-edges : goal.returns-clause-edges
returns-clause-edges c =
    rows_join c.args.numbers.now c.args.entries.now c.requires.numbers (lists c.loop-entry.rows.items)
    (λ x y. c.loop-entry.invariant.targets x y ∙ ap (list_any (λ (e : Entry). spec.joins_from c.args.numbers.now e x y)) (take_all c.loop-entry.entry-index c.args.entries.now c.loop-entry-test.false))
