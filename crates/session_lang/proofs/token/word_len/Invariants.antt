use Rattle.std.proofs.Common.{take}
use Rattle.std.specs.List.{AllByRecursion}
use Rattle.session_lang.specs.Spelling.{IsWordByte}
use Rattle.session_lang.proofs.token.word_len.Given as goal

abbrev pub invariant-loop-i : goal.invariant-loop-i
invariant-loop-i l = AllByRecursion IsWordByte (take l.i l.bytes)
