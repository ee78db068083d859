use Rattle.std.proofs.Common.{◌≡◌, ◌<◌, ℕ, [], length, get_or}
use Rattle.numbered_nodes.specs.Chains.{below}
use Rattle.package_graph.specs.Environments.{among}
use Rattle.package_graph.proofs.environments.environments.Given as goal

abbrev pub invariant-loop-number : goal.invariant-loop-number
invariant-loop-number l = record {
  len : length l.reached.items ≡ l.number;
  lists : (a : ℕ) → a < l.number → get_or l.reached.items a [] ≡ below l.count (among l.own (get_or l.needs a []) a);
}
