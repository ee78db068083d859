use Rattle.std.proofs.Common.{◌≡◌, take}
use Rattle.bind_groups.proofs.rows.numbers.Given as goal

abbrev pub invariant-loop-place : goal.invariant-loop-place
invariant-loop-place l = l.numbers ≡ take l.place-index l.places
