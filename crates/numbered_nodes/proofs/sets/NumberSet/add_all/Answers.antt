use Rattle.std.proofs.Common.{◌∙◌, ap, ◌||◌, rules}
use Rattle.numbered_nodes.specs.Bits.{has}
use Rattle.numbered_nodes.proofs.Words.{all_words}
use Rattle.numbered_nodes.proofs.sets.NumberSet.add_all.Goals as goal

pub returns-clause-has : goal.returns-clause-has
returns-clause-has c = λ k.
    all_words c.self.inside.words.items c.other.inside.words.items c.loop-i.self-inside.words.items c.loop-i.i (search rules) (search rules) (search rules) c.loop-i.invariant.1 k
    ∙ ap (λ ws. has ws k || has c.other.inside.words.items k) c.self.view_is ∙ ap (λ ws. has c.args.self.now k || has ws k) c.other.view_is
