use Rattle.std.proofs.Common.{◌≡◌, ◌++◌, map, take}
use Rattle.std.specs.Prelude.{nat_eq, if◌then◌else◌}
use Rattle.report.proofs.names.push_slashed.Given as goal

abbrev pub invariant-loop-byte : goal.invariant-loop-byte
invariant-loop-byte l = l.out ≡ l.fn.out ++ map (λ b. if nat_eq b 46 then 47 else b) (take l.byte-index l.bytes)
