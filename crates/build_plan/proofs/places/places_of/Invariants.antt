use Rattle.std.proofs.Common.{take}
use Rattle.build_plan.specs.Positions.{ArePlaces, pairs}
use Rattle.build_plan.proofs.places.places_of.Given as goal

abbrev pub invariant-loop-place : goal.invariant-loop-place
invariant-loop-place l = ArePlaces l.places (pairs (take l.place l.sources))
