use Rattle.std.proofs.Common.{take}
use Rattle.std.specs.List.{AllByRecursion}
use Rattle.session_lang.specs.Numbers.{IsDigitByte}
use Rattle.session_lang.proofs.token.digits_len.Given as goal

abbrev pub invariant-loop-i : goal.invariant-loop-i
invariant-loop-i l = AllByRecursion IsDigitByte (take l.i l.bytes)
