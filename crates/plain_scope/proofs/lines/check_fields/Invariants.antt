use Rattle.std.proofs.Common.{◌≡◌, ◌++◌, drop}
use Rattle.std.proofs.Common.{List as Row}
use Rattle.std.specs.List.{flat_map}
use Rattle.plain_form.specs.declared.form.Word.{Word}
use Rattle.plain_scope.specs.Scope.{Pair, use_at, found_names, field_diags}
use Rattle.plain_scope.specs.Table.{IsTable}
use Rattle.plain_scope.proofs.lines.check_fields.Given as goal

abbrev pub invariant-loop-field : goal.invariant-loop-field
invariant-loop-field l = record {
  diags : (pairs : Row Pair) → IsTable l.types pairs → l.diags ++ field_diags pairs (drop l.field-index l.fields) ≡ l.initial.diags ++ field_diags pairs l.fields;
  names : (pairs : Row Pair) → IsTable l.types pairs → l.names ++ flat_map (λ (f : Word). found_names (use_at pairs f.text)) (drop l.field-index l.fields) ≡ flat_map (λ (f : Word). found_names (use_at pairs f.text)) l.fields;
}
