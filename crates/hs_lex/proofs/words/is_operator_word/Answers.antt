use Rattle.std.proofs.Common.{◌∙◌}
use Rattle.hs_lex.proofs.Reserved.{operator_word}
use Rattle.hs_lex.proofs.words.is_operator_word.Goals as goal

pub returns : goal.returns
returns c = c.is_one_of.ensures ∙ operator_word c.args.text.now
