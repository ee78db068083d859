use Rattle.std.proofs.Common.{◌≡◌, ◌≤◌, length, List, ℕ, ◌++◌}
use Rattle.source_text.specs.Characters.{characters}
use Rattle.hs_lex.specs.Reading.{AllIn}
use Rattle.hs_lex.proofs.run.run.Given as goal

abbrev pub invariant-loop-c : goal.invariant-loop-c
invariant-loop-c l = record {
  run : (t : List ℕ) × (characters l.bytes ≡ t ++ characters l.rest) × AllIn l.part t;
  less : length l.rest ≤ length l.bytes;
}

abbrev pub decreases-loop-c : goal.decreases-loop-c
decreases-loop-c l = length l.rest
