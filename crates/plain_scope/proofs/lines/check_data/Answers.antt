use Rattle.std.proofs.Common.{◌≡◌, ap, ◌∙◌, ℕ, List, ◌++◌, map}
use Rattle.std.specs.List.{flat_map}
use Rattle.mk_base.specs.declared.name.Name.{Name}
use Rattle.plain_form.specs.declared.form.Word.{Word}
use Rattle.plain_form.specs.declared.form.DataItem.{DataItem}
use Rattle.plain_scope.specs.declared.scope.DataDecl.{DataDecl}
use Rattle.plain_scope.specs.Scope.{twice_diags, field_diags, use_at, found_names}
use Rattle.plain_scope.proofs.Steps.{three_parts}
use Rattle.plain_scope.proofs.lines.check_data.Goals as goal

pub returns-clause-diags : goal.returns-clause-diags
returns-clause-diags c = λ pairs before table seen.
    let d : DataItem = c.args.item.now in
    let tys : List (List ℕ) = map (λ (e : DataItem). e.ty.text) before in
    let cons : List (List ℕ) = map (λ (e : DataItem). e.con.text) before in
    let at_fields : c.check_fields.new.diags ≡ c.check_twice-2.new.diags ++ field_diags pairs d.fields =
    c.in_ok-fields.ensures.diags pairs table ∙ ap (λ fs. c.check_twice-2.new.diags ++ field_diags pairs fs) c.as_slice.ensures in
    three_parts c.args.diags.now c.check_twice.new.diags c.check_twice-2.new.diags c.check_fields.new.diags (twice_diags d.ty tys) (twice_diags d.con cons)
    (field_diags pairs d.fields) (c.in_ok-check_twice.ensures.diags tys seen.0) (c.in_ok-check_twice-2.ensures.diags cons seen.1) at_fields

pub returns-clause-decl : goal.returns-clause-decl
returns-clause-decl c = λ pairs table.
    let d : DataItem = c.args.item.now in
    let decl : List ℕ → List ℕ → List Name → DataDecl = λ ty con fields. record { ty = ty; con = con; fields = fields } in
    let names_of : List Word → List Name = flat_map (λ (f : Word). found_names (use_at pairs f.text)) in
    ap (λ ty. decl ty c.in_ok-copy-2.field-0 c.in_ok-fields.fields) c.in_ok-copy.ensures
    ∙ ap (λ con. decl d.ty.text con c.in_ok-fields.fields) c.in_ok-copy-2.ensures
    ∙ ap (decl d.ty.text d.con.text) (c.in_ok-fields.ensures.names pairs table ∙ ap names_of c.as_slice.ensures)
