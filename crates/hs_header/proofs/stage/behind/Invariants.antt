use Rattle.std.proofs.Common.{◌≡◌, drop}
use Rattle.hs_header.specs.Stages.{behind}
use Rattle.hs_header.proofs.stage.behind.Given as goal

abbrev pub invariant-loop-token : goal.invariant-loop-token
invariant-loop-token l = behind l.fn.stage l.tokens ≡ behind l.here (drop l.token-index l.tokens)
