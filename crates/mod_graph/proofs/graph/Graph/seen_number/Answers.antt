use Rattle.std.proofs.Common.{length, true, false, sym, ◌∙◌}
use Rattle.mod_graph.proofs.Views.{some_below}
use Rattle.mod_graph.proofs.graph.Graph.seen_number.Goals as goal

pub sees-requires-clause-real : goal.sees-requires-clause-real
sees-requires-clause-real c = c.args.self.now.numbers_range false c.args.name.now c.in-Some.real (sym c.in-Some.ensures)

pub returns-then-sees-clause-range : goal.returns-then-sees-clause-range
returns-then-sees-clause-range c = c.args.self.now.numbers_range false c.args.name.now c.in-Some.real (sym c.in-Some.ensures)

pub returns-else-sees-clause-range : goal.returns-else-sees-clause-range
returns-else-sees-clause-range c =
    let g = c.args.self.now in
    some_below c.node_number-boot.result (length g.order) (λ x e. g.numbers_range true c.args.name.now x (sym c.node_number-boot.ensures ∙ e))

pub returns-in-None-clause-range : goal.returns-in-None-clause-range
returns-in-None-clause-range c =
    let g = c.args.self.now in
    some_below c.node_number-boot.result (length g.order) (λ x e. g.numbers_range true c.args.name.now x (sym c.node_number-boot.ensures ∙ e))
