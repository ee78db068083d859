use Rattle.hs_lex.proofs.Rising.{lexemes_rise}
use Rattle.hs_lex.proofs.lex.lexemes_rise.Goals as goal

pub returns : goal.returns
returns c = lexemes_rise
