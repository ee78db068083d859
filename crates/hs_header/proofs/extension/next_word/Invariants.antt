use Rattle.std.proofs.Common.{◌≡◌, ◌≤◌, ◌+◌, ◌*◌, length, None}
use Rattle.source_text.specs.Characters.{characters}
use Rattle.hs_header.specs.Extensions.{words}
use Rattle.hs_header.proofs.extension.next_word.Given as goal

abbrev pub invariant-loop-c : goal.invariant-loop-c
invariant-loop-c l = record {
  same : words None l.fn.place (characters l.bytes) ≡ words None l.at (characters l.rest);
  less : length l.rest ≤ length l.bytes;
  line : l.at.line + length l.rest ≤ l.fn.place.line + length l.bytes;
  column : l.at.column + 8 * length l.rest ≤ l.fn.place.column + 8 * length l.bytes;
}

abbrev pub decreases-loop-c : goal.decreases-loop-c
decreases-loop-c l = length l.rest
