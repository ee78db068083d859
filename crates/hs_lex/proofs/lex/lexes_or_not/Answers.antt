use Rattle.hs_lex.proofs.Whole.{either}
use Rattle.hs_lex.proofs.lex.lexes_or_not.Goals as goal

pub returns : goal.returns
returns c = either
