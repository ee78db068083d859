use Rattle.std.proofs.Common.{◌≡◌, ◌+◌, ◌++◌, ◌∷◌, [], ◌<◌, sym, ap, ◌∙◌, subst, ℕ, List, length, take, map}
use Rattle.std.proofs.lemmas.List.{map-append, take_all}
use Rattle.plain_form.specs.declared.form.DataItem.{DataItem}
use Rattle.plain_scope.specs.declared.scope.DataDecl.{DataDecl}
use Rattle.plain_scope.specs.Scope.{resolved}
use Rattle.plain_scope.specs.Table.{HasSeen}
use Rattle.plain_scope.proofs.Steps.{front_next, datas_next}
use Rattle.plain_scope.proofs.lines.check_datas.Goals as goal

pub loop-item-preserved : goal.loop-item-preserved
loop-item-preserved c =
    let ds : List DataItem = c.args.datas.now in
    let i : ℕ = c.loop-item.item-index in
    let d : DataItem = c.item-item.result in
    let lt : i < length ds = c.loop-item-test.true in
    let inv = c.loop-item.invariant in
    let front : take (i + 1) ds ≡ take i ds ++ d ∷ [] = front_next ds i d lt c.item-item.is in
    record {
      seen = subst (λ (l : List DataItem). HasSeen c.check_data.new.seen l) (sym front) (c.in_ok-check_data.ensures.seen (take i ds) inv.seen);
      diags = λ pairs table. datas_next pairs i ds d c.loop-item.diags c.check_data.new.diags _ lt c.item-item.is
          (c.in_ok-check_data.ensures.diags pairs (take i ds) table inv.seen) (inv.diags pairs table);
      decls = λ pairs table.
          c.in_ok-push.ensures.ok
          ∙ ap (λ (xs : List DataDecl). xs ++ c.in_ok-check_data.field-0 ∷ []) (inv.decls pairs table)
          ∙ ap (λ (x : DataDecl). map (resolved pairs) (take i ds) ++ x ∷ []) (c.in_ok-check_data.ensures.decl pairs table)
          ∙ sym (map-append (resolved pairs) (take i ds) (d ∷ []))
          ∙ ap (map (resolved pairs)) (sym front);
    }

pub returns-clause-decls : goal.returns-clause-decls
returns-clause-decls c = λ pairs table.
    c.loop-item.invariant.decls pairs table ∙ ap (map (resolved pairs)) (take_all c.loop-item.item-index c.args.datas.now c.loop-item-test.false)
