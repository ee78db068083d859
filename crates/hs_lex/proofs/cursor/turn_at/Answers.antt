use Rattle.hs_lex.proofs.Reached.{taken, piece, goes_back}
use Rattle.hs_lex.proofs.cursor.turn_at.Goals as goal

pub text_between-requires : goal.text_between-requires
text_between-requires c = goes_back _ _ c.in-Some.kind c.in-Some.ensures

pub returns-in-Some : goal.returns-in-Some
returns-in-Some c = taken c.args.source.now c.args.cursor _ c.in-Some.after.now c.text_between.result.now c.in-Some.kind _ (piece c.args.source.now c.args.cursor.at) c.in-Some.ensures c.text_between.ensures.reads c.turn_over.ensures
