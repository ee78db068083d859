use Rattle.hs_lex.proofs.Strings.{turn, shrinks}
use Rattle.hs_lex.proofs.quoted.pieces.Goals as goal

pub loop-next-preserved : goal.loop-next-preserved
loop-next-preserved c = turn _ _ _ c.loop-next.invariant c.in-Some.ensures

pub loop-next-smaller : goal.loop-next-smaller
loop-next-smaller c = shrinks _ _ c.in-Some.ensures
