use Rattle.std.proofs.Common.{◌≡◌}
use Rattle.std_streams.proofs.streams.InputSource.read.Given as goal

abbrev pub invariant-loop : goal.invariant-loop
invariant-loop g l = l.self.faults ≡ l.fn.self.faults
