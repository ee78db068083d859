use Rattle.hs_lex.proofs.Slow.{total}
use Rattle.hs_lex.proofs.lex.every_source_is_read.Goals as goal

pub returns : goal.returns
returns c = total
