use Rattle.std.proofs.Common.{◌≡◌, ℕ, drop}
use Rattle.std.proofs.Common.{List as Row}
use Rattle.plain_scope.specs.Scope.{content_heads}
use Rattle.plain_scope.specs.Table.{use_in, with_types}
use Rattle.plain_scope.proofs.table.add_decls.Given as goal

abbrev pub invariant-loop-declared : goal.invariant-loop-declared
invariant-loop-declared l = (text : Row ℕ) → with_types l.unit l.home (content_heads (drop l.declared-index l.datas)) text (use_in l.types text) ≡ with_types l.unit l.home (content_heads l.datas) text (use_in l.initial.types text)
