use Rattle.std.proofs.Common.{◌≡◌, length}
use Rattle.hs_lex.specs.Slow.{lexemes_from}
use Rattle.hs_lex.specs.Tokens.{IsReached}
use Rattle.hs_header.specs.Gathering.{rest_in_front}
use Rattle.hs_header.proofs.read.over_pragmas.Given as goal

abbrev pub invariant-loop-error : goal.invariant-loop-error
invariant-loop-error l = record {
  same : rest_in_front l.source l.here ≡ rest_in_front l.source l.fn.front;
  reached : IsReached l.source l.here.cursor;
}

abbrev pub decreases-loop-error : goal.decreases-loop-error
decreases-loop-error l = length (lexemes_from l.source l.here.cursor).0
