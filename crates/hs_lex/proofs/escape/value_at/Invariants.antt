use Rattle.std.proofs.Common.{length}
use Rattle.source_text.specs.Characters.{characters}
use Rattle.hs_lex.proofs.Escapes.{Valued}
use Rattle.hs_lex.proofs.escape.value_at.Given as goal

abbrev pub invariant-loop-c : goal.invariant-loop-c
invariant-loop-c l = Valued l.base (characters l.bytes) (characters l.rest) l.value

abbrev pub decreases-loop-c : goal.decreases-loop-c
decreases-loop-c l = length l.rest
