use Rattle.std.proofs.Common.{◌≡◌, ◌<◌, ℕ, get_or, length}
use Rattle.numbered_nodes.proofs.needs.node_loops.Given as goal

abbrev pub invariant-loop-a : goal.invariant-loop-a
invariant-loop-a l = record {
  len : length l.own.items ≡ l.a;
  loops : (a : ℕ) → a < l.a → get_or l.own.items a 0 ≡ get_or l.loops (get_or l.module_of a 0) 0;
}
