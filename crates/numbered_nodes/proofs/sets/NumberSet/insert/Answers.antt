use Rattle.std.proofs.Common.{◌∙◌, ap, nat_eq, ◌||◌, rules}
use Rattle.numbered_nodes.specs.Bits.{has}
use Rattle.numbered_nodes.proofs.Words.{inserted}
use Rattle.numbered_nodes.proofs.sets.NumberSet.insert.Goals as goal

pub returns-clause-has : goal.returns-clause-has
returns-clause-has c = λ k. inserted c.self.inside.words.items c.args.number c.index.result.now (search rules) c.index.ensures k ∙ ap (λ ws. nat_eq k c.args.number || has ws k) c.self.view_is
