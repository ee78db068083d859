use Rattle.std.proofs.Common.{◌∙◌}
use Rattle.hs_lex.proofs.Reserved.{word}
use Rattle.hs_lex.proofs.words.is_word.Goals as goal

pub returns : goal.returns
returns c = c.is_one_of.ensures ∙ word c.args.text.now
