use Rattle.std.proofs.Common.{length, ◌-◌}
use Rattle.hs_lex.specs.Tokens.{IsWithin}
use Rattle.hs_lex.proofs.Whole.{Read}
use Rattle.hs_lex.proofs.lex.lex.Given as goal

abbrev pub invariant-loop-turn : goal.invariant-loop-turn
invariant-loop-turn l = record { read : Read l.source l.tokens l.cursor; within : IsWithin l.source l.cursor }

abbrev pub decreases-loop-turn : goal.decreases-loop-turn
decreases-loop-turn l = length l.source - l.cursor.at
