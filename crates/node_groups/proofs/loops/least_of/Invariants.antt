use Rattle.std.proofs.Common.{◌≡◌, ◌<◌, ℕ, get_or, length}
use Rattle.node_groups.proofs.loops.least_of.Given as goal

abbrev pub invariant-loop-name : goal.invariant-loop-name
invariant-loop-name l = record {
  len : length l.loops.items ≡ l.name-index;
  at : (a : ℕ) → a < l.name-index → get_or l.loops.items a 0 ≡ get_or l.least (get_or l.names a 0) 0;
}
