use Rattle.hs_lex.proofs.Whole.{marked, reached_start}
use Rattle.hs_lex.proofs.cursor.start.Goals as goal

pub returns-clause-is : goal.returns-clause-is
returns-clause-is c = marked c.args.source.now _ c.mark_length.ensures

pub returns-clause-reached : goal.returns-clause-reached
returns-clause-reached c = reached_start _ _ (marked c.args.source.now _ c.mark_length.ensures)
