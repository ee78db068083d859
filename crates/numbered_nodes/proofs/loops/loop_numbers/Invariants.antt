use Rattle.std.proofs.Common.{◌≡◌, ◌<◌, ℕ, get_or, length}
use Rattle.numbered_nodes.specs.Mates.{AreMates}
use Rattle.numbered_nodes.proofs.loops.loop_numbers.Given as goal

abbrev pub invariant-loop-a : goal.invariant-loop-a
invariant-loop-a l = record {
  len : length l.numbers.items ≡ l.a;
  mate : (a : ℕ) → a < l.a → AreMates l.rows a (get_or l.numbers.items a 0);
  least : (a b : ℕ) → a < l.a → b < get_or l.numbers.items a 0 → AreMates l.rows a b → ⊥;
}
