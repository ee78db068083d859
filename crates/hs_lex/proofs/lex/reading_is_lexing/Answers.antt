use Rattle.hs_lex.proofs.Slow.{lexes_exactly, bad_exactly}
use Rattle.hs_lex.proofs.lex.reading_is_lexing.Goals as goal

pub returns-clause-lexes : goal.returns-clause-lexes
returns-clause-lexes c = lexes_exactly

pub returns-clause-bad : goal.returns-clause-bad
returns-clause-bad c = bad_exactly
