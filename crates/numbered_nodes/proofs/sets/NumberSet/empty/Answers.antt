use Rattle.std.proofs.Common.{◌∙◌, ap}
use Rattle.numbered_nodes.specs.Bits.{has}
use Rattle.numbered_nodes.proofs.Words.{none_has}
use Rattle.numbered_nodes.proofs.sets.NumberSet.empty.Goals as goal

pub returns-clause-none : goal.returns-clause-none
returns-clause-none c = λ k. ap (λ ws. has ws k) c.loop-turn.invariant ∙ none_has c.loop-turn.turn k
