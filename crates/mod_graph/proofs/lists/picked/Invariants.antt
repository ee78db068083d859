use Rattle.std.proofs.Common.{◌≡◌, [], get_or, map, take}
use Rattle.mod_graph.proofs.lists.picked.Given as goal

abbrev pub invariant-loop-number : goal.invariant-loop-number
invariant-loop-number l = l.all ≡ map (λ k. get_or l.lists k []) (take l.number-index l.order)
