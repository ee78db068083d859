use Rattle.std.proofs.Common.{take}
use Rattle.mod_graph.specs.Places.{AreNumbers}
use Rattle.mod_graph.proofs.places.numbers_of.Given as goal

abbrev pub invariant-loop-number : goal.invariant-loop-number
invariant-loop-number l = AreNumbers l.numbers (take l.number l.entries)
