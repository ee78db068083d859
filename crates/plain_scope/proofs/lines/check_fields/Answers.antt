use Rattle.std.proofs.Common.{ap, sym, ◌∙◌, List, ◌++◌}
use Rattle.std.proofs.lemmas.List.{append-nil, at_drop_all}
use Rattle.std.specs.List.{flat_map}
use Rattle.mk_base.specs.declared.name.Name.{Name}
use Rattle.plain_form.specs.declared.form.Word.{Word}
use Rattle.plain_scope.specs.Scope.{use_at, found_names}
use Rattle.plain_scope.proofs.lines.check_fields.Goals as goal

pub returns-clause-names : goal.returns-clause-names
returns-clause-names c = λ pairs table.
    let names_of : List Word → List Name = flat_map (λ (f : Word). found_names (use_at pairs f.text)) in
    sym (append-nil c.loop-field.names)
    ∙ ap (λ ns. c.loop-field.names ++ ns) (sym (at_drop_all names_of c.args.fields.now c.loop-field.field-index c.loop-field-test.false))
    ∙ c.loop-field.invariant.names pairs table
