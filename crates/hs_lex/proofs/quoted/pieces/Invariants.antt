use Rattle.std.proofs.Common.{length}
use Rattle.source_text.specs.Characters.{characters}
use Rattle.hs_lex.proofs.Strings.{Turns}
use Rattle.hs_lex.proofs.quoted.pieces.Given as goal

abbrev pub invariant-loop-next : goal.invariant-loop-next
invariant-loop-next l = Turns (characters l.bytes) (characters l.rest)

abbrev pub decreases-loop-next : goal.decreases-loop-next
decreases-loop-next l = length (characters l.rest)
