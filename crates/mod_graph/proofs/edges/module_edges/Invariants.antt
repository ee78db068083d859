use Rattle.std.proofs.Common.{◌≡◌, ℕ, length, take}
use Rattle.std.specs.List.{list_any}
use Rattle.numbered_nodes.specs.Edges.{lists}
use Rattle.mod_graph.specs.declared.entries.Entry.{Entry}
use Rattle.mod_graph.specs.Targets as spec
use Rattle.mod_graph.proofs.edges.module_edges.Given as goal

abbrev pub invariant-loop-entry : goal.invariant-loop-entry
invariant-loop-entry l = record {
  count : length l.rows.items ≡ length l.entries;
  targets : (x y : ℕ) → spec.has_target (lists l.rows.items) x y ≡ list_any (λ (e : Entry). spec.joins_from l.numbers e x y) (take l.entry-index l.entries);
}
