use Rattle.std.proofs.Common.{Some, None}
use Rattle.hs_lex.proofs.Kept.{kept_exactly}
use Rattle.hs_lex.proofs.lex.kept_lexemes_are_read.Goals as goal

pub returns-clause-whole : goal.returns-clause-whole
returns-clause-whole c = λ source ts. kept_exactly source ts None

pub returns-clause-bad : goal.returns-clause-bad
returns-clause-bad c = λ source ts at. kept_exactly source ts (Some at)
