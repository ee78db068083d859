use Rattle.std.proofs.Common.{◌≡◌, ◌<◌, ℕ, get_or, length}
use Rattle.std.specs.List.{All}
use Rattle.mod_graph.proofs.lists.places_in_order.Given as goal

abbrev pub invariant-loop-k : goal.invariant-loop-k
invariant-loop-k l = record {
  len : length l.places.items ≡ length l.order;
  range : All (λ k. k < length l.order) l.places.items;
  places : (k : ℕ) → k < l.k → get_or l.places.items (get_or l.order k 0) 0 ≡ k;
}
