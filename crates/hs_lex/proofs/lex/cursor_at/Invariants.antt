use Rattle.std.proofs.Common.{length, ◌-◌}
use Rattle.hs_lex.specs.Tokens.{IsReached, IsPlace}
use Rattle.hs_lex.specs.declared.cursor.Cursor.{Cursor}
use Rattle.hs_lex.proofs.Whole.{Toward}
use Rattle.hs_lex.proofs.lex.cursor_at.Given as goal

abbrev pub invariant-loop-cursor : goal.invariant-loop-cursor
invariant-loop-cursor l = record { reached : IsReached l.source l.cursor; toward : (c : Cursor) → IsPlace l.source l.at c → Toward l.source l.cursor c }

abbrev pub decreases-loop-cursor : goal.decreases-loop-cursor
decreases-loop-cursor l = length l.source - l.cursor.at
