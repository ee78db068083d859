use Rattle.std.proofs.Common.{◌≡◌, length}
use Rattle.source_text.specs.Characters.{characters}
use Rattle.hs_syntax.specs.declared.token.TokenKind.TheVariants as token
use Rattle.hs_lex.specs.Kinds.{large_kind}
use Rattle.hs_lex.proofs.token_kind.large_kind.Given as goal

abbrev pub invariant-loop-c : goal.invariant-loop-c
invariant-loop-c l = large_kind l.kind (characters l.rest) ≡ large_kind token.ConId (characters l.text)

abbrev pub decreases-loop-c : goal.decreases-loop-c
decreases-loop-c l = length l.rest
