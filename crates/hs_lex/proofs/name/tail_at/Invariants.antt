use Rattle.std.proofs.Common.{length}
use Rattle.source_text.specs.Characters.{characters}
use Rattle.hs_lex.proofs.Tails.{Going}
use Rattle.hs_lex.proofs.name.tail_at.Given as goal

abbrev pub invariant-loop-rest : goal.invariant-loop-rest
invariant-loop-rest l = Going (characters l.bytes) (characters l.end)

abbrev pub decreases-loop-rest : goal.decreases-loop-rest
decreases-loop-rest l = length (characters l.end)
