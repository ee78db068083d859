use Rattle.std.proofs.Common.{◌∙◌, ap, rules}
use Rattle.numbered_nodes.specs.Bits.{has}
use Rattle.numbered_nodes.proofs.Words.{shown}
use Rattle.numbered_nodes.proofs.sets.NumberSet.contains.Goals as goal

pub returns : goal.returns
returns c = shown c.self.inside.words.items c.args.number c.index.result.now (search rules) c.index.ensures ∙ ap (λ ws. has ws c.args.number) c.self.view_is
