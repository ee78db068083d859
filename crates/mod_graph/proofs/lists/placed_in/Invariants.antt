use Rattle.std.proofs.Common.{◌≡◌, ◌≤◌, ◌-◌, ◌&&◌, ℕ, get_or, length, nat_eq}
use Rattle.numbered_nodes.specs.Bits.{has, room, room_for}
use Rattle.numbered_nodes.specs.Chains.{any_below}
use Rattle.mod_graph.proofs.lists.placed_in.Given as goal

abbrev pub invariant-loop-number : goal.invariant-loop-number
invariant-loop-number l = record {
  within : l.from ≤ length l.places;
  room : room l.placed ≡ room_for (length l.places);
  has : (k : ℕ) → has l.placed k ≡ any_below l.from (λ r. has l.needed r && nat_eq k (get_or l.places r 0));
}

abbrev pub decreases-loop-number : goal.decreases-loop-number
decreases-loop-number l = length l.places - l.from
