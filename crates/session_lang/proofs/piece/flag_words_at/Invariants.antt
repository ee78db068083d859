use Rattle.std.proofs.Common.{◌≤◌, ◌-◌, length, take}
use Rattle.session_lang.specs.Spelling.{IsFlagWords}
use Rattle.session_lang.proofs.piece.flag_words_at.Given as goal

abbrev pub invariant-loop-at : goal.invariant-loop-at
invariant-loop-at l = record {
  within : l.at ≤ length l.bytes;
  words : IsFlagWords (take l.at l.bytes);
}

abbrev pub decreases-loop-at : goal.decreases-loop-at
decreases-loop-at l = length l.bytes - l.at
