use Rattle.std.proofs.Common.{length}
use Rattle.source_text.specs.Characters.{characters}
use Rattle.hs_lex.proofs.Parts.{Same}
use Rattle.hs_lex.proofs.pragma.is_names.Given as goal

abbrev pub invariant-loop-behind : goal.invariant-loop-behind
invariant-loop-behind l = Same (characters l.bytes) (characters l.rest)

abbrev pub decreases-loop-behind : goal.decreases-loop-behind
decreases-loop-behind l = length (characters l.rest)
