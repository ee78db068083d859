use Rattle.std.proofs.Common.{◌≡◌, ℕ, drop}
use Rattle.std.proofs.Common.{List as Row}
use Rattle.plain_scope.specs.Scope.{heads}
use Rattle.plain_scope.specs.Table.{use_in, with_types}
use Rattle.plain_scope.proofs.table.add_items.Given as goal

abbrev pub invariant-loop-item : goal.invariant-loop-item
invariant-loop-item l = (text : Row ℕ) → with_types l.unit l.home (heads (drop l.item-index l.datas)) text (use_in l.types text) ≡ with_types l.unit l.home (heads l.datas) text (use_in l.initial.types text)
