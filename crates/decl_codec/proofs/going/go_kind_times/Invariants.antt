use Rattle.std.proofs.Common.{◌≡◌, ◌-◌}
use Rattle.decl_codec.specs.Going.{go_kind_times}
use Rattle.decl_codec.proofs.going.go_kind_times.Given as goal

abbrev pub invariant-loop : goal.invariant-loop
invariant-loop l = go_kind_times (l.many - l.counter) l.rest ≡ go_kind_times l.many l.bytes
