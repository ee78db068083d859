use Rattle.std.proofs.Common.{◌≡◌, ◌<◌, ℕ, drop, length}
use Rattle.std.proofs.Common.{List as Row}
use Rattle.std.specs.List.{AllByRecursion}
use Rattle.plain_scope.specs.Scope.{contents_at}
use Rattle.plain_scope.specs.Table.{use_in, with_contents}
use Rattle.plain_scope.proofs.table.add_imports.Given as goal

abbrev pub invariant-loop-place : goal.invariant-loop-place
invariant-loop-place l = record {
  within : AllByRecursion (λ (i : ℕ). i < length l.contents) (drop l.place-index l.imports);
  types : (text : Row ℕ) → with_contents l.unit (contents_at l.contents (drop l.place-index l.imports)) text (use_in l.types text) ≡ with_contents l.unit (contents_at l.contents l.imports) text (use_in l.initial.types text);
}
