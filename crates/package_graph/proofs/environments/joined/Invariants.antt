use Rattle.std.proofs.Common.{◌≡◌, ◌≤◌, ◌-◌, ◌||◌, ◌&&◌, ℕ, [], get_or, length}
use Rattle.numbered_nodes.specs.Bits.{has, room, room_for}
use Rattle.numbered_nodes.specs.Chains.{any_below}
use Rattle.package_graph.proofs.environments.joined.Given as goal

abbrev pub invariant-loop-b : goal.invariant-loop-b
invariant-loop-b l = record {
  within : l.from ≤ length l.own;
  room : room l.row ≡ room_for l.count;
  has : (k : ℕ) → has l.row k ≡ (has (get_or l.own l.number []) k || any_below l.from (λ b. has l.needed b && has (get_or l.own b []) k));
}

abbrev pub decreases-loop-b : goal.decreases-loop-b
decreases-loop-b l = length l.own - l.from
