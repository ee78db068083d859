use Rattle.hs_lex.proofs.DecidedPragmas.{is_decides, token_decides}
use Rattle.hs_lex.proofs.Slow.{standing}
use Rattle.hs_lex.proofs.lex.items_are_decided.Goals as goal

pub returns-clause-kind : goal.returns-clause-kind
returns-clause-kind c = is_decides

pub returns-clause-lexeme : goal.returns-clause-lexeme
returns-clause-lexeme c = token_decides

pub returns-clause-item : goal.returns-clause-item
returns-clause-item c = standing
