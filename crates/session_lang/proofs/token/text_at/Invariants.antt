use Rattle.std.proofs.Common.{◌≡◌, ◌≤◌, take, length}
use Rattle.session_lang.proofs.token.text_at.Given as goal

abbrev pub invariant-loop-i : goal.invariant-loop-i
invariant-loop-i l = (l.i ≤ length l.bytes) × (take l.i l.bytes ≡ take l.i l.text)
