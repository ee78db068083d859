use Rattle.std.proofs.Common.{◌≡◌, ℕ, true, false, [], get_or, length}
use Rattle.numbered_nodes.specs.Bits.{has, room, room_for}
use Rattle.package_graph.proofs.environments.plain_nodes.Given as goal

abbrev pub invariant-loop-b : goal.invariant-loop-b
invariant-loop-b l = record {
  room : room l.plain ≡ room_for (length l.own);
  plain : (b k : ℕ) → has l.plain b ≡ true → has (get_or l.own b []) k ≡ false;
}
