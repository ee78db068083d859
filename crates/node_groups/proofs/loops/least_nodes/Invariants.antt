use Rattle.std.proofs.Common.{◌≡◌, ◌≤◌, ◌<◌, ◌-◌, ℕ, length}
use Rattle.node_groups.specs.Least.{IsLeast}
use Rattle.node_groups.proofs.loops.least_nodes.Given as goal

abbrev pub invariant-loop-turn : goal.invariant-loop-turn
invariant-loop-turn l = record {
  len : length l.least.items ≡ l.count;
  least : (a : ℕ) → l.count - l.turn ≤ a → a < l.count → IsLeast l.names l.least.items a;
}
