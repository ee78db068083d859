use Rattle.hs_lex.proofs.Whole.{unique}
use Rattle.hs_lex.proofs.lex.lexemes_are_unique.Goals as goal

pub returns : goal.returns
returns c = unique
