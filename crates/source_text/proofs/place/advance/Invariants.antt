use Rattle.std.proofs.Common.{◌≡◌, ◌+◌, ◌*◌, ◌≤◌, length}
use Rattle.source_text.specs.Characters.{characters}
use Rattle.source_text.specs.Places.{after}
use Rattle.source_text.proofs.place.advance.Given as goal

abbrev pub invariant-loop-c : goal.invariant-loop-c
invariant-loop-c l = record {
  same : after l.at (characters l.rest) ≡ after l.fn.place (characters l.text);
  line : l.at.line + length l.rest ≤ l.fn.place.line + length l.text;
  column : l.at.column + 8 * length l.rest ≤ l.fn.place.column + 8 * length l.text;
}

abbrev pub decreases-loop-c : goal.decreases-loop-c
decreases-loop-c l = length l.rest
