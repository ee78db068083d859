use Rattle.std.proofs.Common.{length, ◌-◌}
use Rattle.hs_lex.specs.Tokens.{IsWithin}
use Rattle.hs_lex.proofs.Whole.{Past}
use Rattle.hs_lex.proofs.lex.read.Given as goal

abbrev pub invariant-loop-turn : goal.invariant-loop-turn
invariant-loop-turn l = record { past : Past l.source l.fn.cursor l.here; within : IsWithin l.source l.here }

abbrev pub decreases-loop-turn : goal.decreases-loop-turn
decreases-loop-turn l = length l.source - l.here.at
