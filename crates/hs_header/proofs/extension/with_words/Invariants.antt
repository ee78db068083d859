use Rattle.std.proofs.Common.{◌≡◌, ◌≤◌, ◌+◌, ◌*◌, length, None}
use Rattle.source_text.specs.Characters.{characters}
use Rattle.hs_header.specs.Extensions.{words, with_words}
use Rattle.hs_header.proofs.extension.with_words.Given as goal

abbrev pub invariant-loop-word : goal.invariant-loop-word
invariant-loop-word l = record {
  same : with_words l.fn.flags (words None l.fn.place (characters l.bytes)) ≡ with_words l.known (words None l.at (characters l.rest));
  line : l.at.line + length l.rest ≤ l.fn.place.line + length l.bytes;
  column : l.at.column + 8 * length l.rest ≤ l.fn.place.column + 8 * length l.bytes;
}

abbrev pub decreases-loop-word : goal.decreases-loop-word
decreases-loop-word l = length l.rest
