use Rattle.std.proofs.Common.{ap, ◌∙◌}
use Rattle.std.specs.Prelude.{map}
use Rattle.std.proofs.lemmas.List.{take_all}
use Rattle.numbered_nodes.specs.Edges.{lists}
use Rattle.mod_graph.specs.Targets as spec
use Rattle.mod_graph.proofs.EdgeRows.{rows_lead}
use Rattle.mod_graph.proofs.edges.node_edges.Goals as goal

pub returns-clause-edges : goal.returns-clause-edges
returns-clause-edges c =
    rows_lead c.args.numbers.now c.args.entries.now c.requires.numbers (lists c.loop-entry.rows.items)
    (c.loop-entry.invariant ∙ ap (map (spec.node_targets c.args.numbers.now)) (take_all c.loop-entry.entry-index c.args.entries.now c.loop-entry-test.false))
