use Rattle.std.proofs.Common.{◌<◌, ℕ, List, get_or}
use Rattle.std.specs.List.{All}
use Rattle.numbered_nodes.specs.Edges.{lists}
use Rattle.numbered_nodes.proofs.edges.are_in_range.Given as goal

abbrev pub invariant-loop-targets : goal.invariant-loop-targets
invariant-loop-targets l = (i : ℕ) (d : List ℕ) → i < l.targets-index → All (λ b. b < l.count) (get_or (lists l.graph) i d)
