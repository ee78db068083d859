use Rattle.std.proofs.Common.{◌≡◌, ◌-◌}
use Rattle.decl_codec.specs.Going.{go_times}
use Rattle.decl_codec.proofs.go_decl.go_times.Given as goal

abbrev pub invariant-loop : goal.invariant-loop
invariant-loop g l = go_times (g.P.Part.goes l.names l.count) (l.many - l.counter) l.seen l.rest ≡ go_times (g.P.Part.goes l.names l.count) l.many l.fn.seen l.bytes
