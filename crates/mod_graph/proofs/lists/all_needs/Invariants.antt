use Rattle.std.proofs.Common.{◌≡◌, ◌<◌, ℕ, [], get_or, length}
use Rattle.mod_graph.specs.Graph.{ids}
use Rattle.mod_graph.specs.Seen.{places_needed}
use Rattle.mod_graph.proofs.lists.all_needs.Given as goal

abbrev pub invariant-loop-place : goal.invariant-loop-place
invariant-loop-place l = record {
  len : length l.all ≡ l.place;
  needs : (k : ℕ) → k < l.place → ids (get_or l.all k []) ≡ places_needed (get_or l.rows.needs.items (get_or l.rows.order.items k 0) []) l.rows.order.items k;
}
