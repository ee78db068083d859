use Rattle.hs_lex.proofs.Answering.{answered, exclude}
use Rattle.hs_lex.proofs.lex.next_token_answers_once.Goals as goal

pub returns-clause-one : goal.returns-clause-one
returns-clause-one c = answered

pub returns-clause-apart : goal.returns-clause-apart
returns-clause-apart c = exclude
