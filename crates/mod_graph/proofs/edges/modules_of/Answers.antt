use Rattle.std.proofs.Common.{ℕ, ap, ◌∙◌, unwrap_or}
use Rattle.std.specs.Prelude.{map}
use Rattle.std.proofs.lemmas.List.{take_all}
use Rattle.mod_graph.specs.declared.entries.Entry.{Entry}
use Rattle.mod_graph.specs.Places.{module_in}
use Rattle.mod_graph.proofs.EdgeRows.{modules_are, modules_below}
use Rattle.mod_graph.proofs.edges.modules_of.Goals as goal

pub returns-clause-range : goal.returns-clause-range
returns-clause-range c =
    let number : Entry → ℕ = λ e. unwrap_or (module_in c.args.numbers.now e.node.module.text) 0 in
    modules_below c.args.numbers.now c.args.entries.now c.requires.numbers c.loop-entry.modules.items
    (c.loop-entry.invariant ∙ ap (map number) (take_all c.loop-entry.entry-index c.args.entries.now c.loop-entry-test.false))

pub returns-clause-modules : goal.returns-clause-modules
returns-clause-modules c = λ a h.
    let number : Entry → ℕ = λ e. unwrap_or (module_in c.args.numbers.now e.node.module.text) 0 in
    modules_are c.args.numbers.now c.args.entries.now c.requires.numbers c.loop-entry.modules.items
    (c.loop-entry.invariant ∙ ap (map number) (take_all c.loop-entry.entry-index c.args.entries.now c.loop-entry-test.false)) a
