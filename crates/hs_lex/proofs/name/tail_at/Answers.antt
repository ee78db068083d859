use Rattle.hs_lex.proofs.Tails.{conid, last, finish, shrinks}
use Rattle.hs_lex.proofs.name.tail_at.Goals as goal

pub loop-rest-preserved : goal.loop-rest-preserved
loop-rest-preserved c = let h = c.in-Qualifier.ensures in conid _ _ h.0 _ h.1 h.2 c.loop-rest.invariant

pub returns-in-Last : goal.returns-in-Last
returns-in-Last c = let h = c.in-Last.ensures in last _ _ h.0 _ h.1 h.2 h.3 c.loop-rest.invariant

pub returns-in-Nothing : goal.returns-in-Nothing
returns-in-Nothing c = finish _ _ c.in-Nothing.ensures c.loop-rest.invariant

pub loop-rest-smaller : goal.loop-rest-smaller
loop-rest-smaller c = let h = c.in-Qualifier.ensures in shrinks _ h.0 _ h.1 h.2
