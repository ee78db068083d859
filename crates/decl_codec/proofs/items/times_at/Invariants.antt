use Rattle.std.proofs.Common.{◌≡◌, ◌-◌}
use Rattle.wire.specs.Reading.{times}
use Rattle.decl_codec.proofs.Loops.{with_front}
use Rattle.decl_codec.proofs.items.times_at.Given as goal

abbrev pub invariant-loop : goal.invariant-loop
invariant-loop g l = with_front l.items (times (g.T.Wired.reads l.names l.count) (l.many - l.counter) l.rest) ≡ times (g.T.Wired.reads l.names l.count) l.many l.bytes
