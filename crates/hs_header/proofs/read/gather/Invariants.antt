use Rattle.std.proofs.Common.{length}
use Rattle.hs_lex.specs.Slow.{lexemes_from}
use Rattle.hs_header.proofs.Gathered.{IsOn}
use Rattle.hs_header.proofs.read.gather.Given as goal

abbrev pub invariant-loop-known : goal.invariant-loop-known
invariant-loop-known l = IsOn l.source l.fn.front l.known

abbrev pub decreases-loop-known : goal.decreases-loop-known
decreases-loop-known l = length (lexemes_from l.source l.known.cursor).0
