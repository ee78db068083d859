use Rattle.std.proofs.Common.{◌≡◌, ◌++◌, drop}
use Rattle.bind_groups.specs.Numbers.{numbers_in}
use Rattle.bind_groups.proofs.rows.places_in.Given as goal

abbrev pub invariant-loop-name : goal.invariant-loop-name
invariant-loop-name l = l.places.items ++ numbers_in l.names.keys (drop l.name-index l.some) ≡ numbers_in l.names.keys l.some
