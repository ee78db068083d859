use Rattle.std.proofs.Common.{length, ◌+◌, ◌≤◌}
use Rattle.source_text.specs.Characters.{characters}
use Rattle.hs_lex.proofs.Insides.{Inside}
use Rattle.hs_lex.proofs.nested.closing_at.Given as goal

abbrev pub invariant-loop-after : goal.invariant-loop-after
invariant-loop-after l = record {
  inside : Inside (characters l.bytes) (characters l.rest) l.depth;
  fits : l.depth + length l.rest ≤ length l.bytes + 1;
  some : 1 ≤ l.depth;
}

abbrev pub decreases-loop-after : goal.decreases-loop-after
decreases-loop-after l = length l.rest
