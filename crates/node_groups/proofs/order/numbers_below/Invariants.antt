use Rattle.std.proofs.Common.{◌<◌, ℕ}
use Rattle.std.specs.List.{All, Contains}
use Rattle.node_groups.proofs.order.numbers_below.Given as goal

abbrev pub invariant-loop-number : goal.invariant-loop-number
invariant-loop-number l = record {
  nodes : All (λ x. x < l.count) l.numbers.items;
  all : (x : ℕ) → x < l.number → Contains l.numbers.items x;
}
