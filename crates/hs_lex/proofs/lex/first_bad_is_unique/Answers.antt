use Rattle.hs_lex.proofs.Whole.{one_bad}
use Rattle.hs_lex.proofs.lex.first_bad_is_unique.Goals as goal

pub returns : goal.returns
returns c = one_bad
