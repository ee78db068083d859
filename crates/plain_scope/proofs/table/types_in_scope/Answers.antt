use Rattle.std.proofs.Common.{◌≡◌, sym, ap, ◌∙◌, ℕ, List, rules}
use Rattle.plain_form.specs.declared.form.DataItem.{DataItem}
use Rattle.plain_scope.specs.declared.scope.Content.{Content}
use Rattle.plain_scope.specs.Scope.{Missing, heads, contents_at}
use Rattle.plain_scope.specs.Table.{use_in, with_types, with_contents}
use Rattle.plain_scope.proofs.Scopes.{use_at-scope}
use Rattle.plain_scope.proofs.table.types_in_scope.Goals as goal

pub returns : goal.returns
returns c = λ text.
    let unit : List ℕ = c.args.unit.now in
    let name : List ℕ = c.args.name.now in
    let ds : List DataItem = c.args.written.now.datas in
    let cs : List Content = contents_at c.args.contents.now c.args.imports.now in
    let none : use_in c.new-types.result text ≡ Missing = search rules in
    c.in_ok-add_imports.ensures text
    ∙ ap (with_contents unit cs text)
    (c.in_ok-add_items.ensures text
    ∙ ap (λ (xs : List DataItem). with_types unit name (heads xs) text (use_in c.new-types.result text)) c.as_slice.ensures
    ∙ ap (with_types unit name (heads ds) text) none)
    ∙ sym (use_at-scope unit name c.args.written.now cs text)
