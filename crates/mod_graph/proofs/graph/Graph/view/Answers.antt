use Rattle.std.proofs.Common.{length, ◌<◌, Some, None, ap, sym, ◌∙◌, subst, arith}
use Rattle.std.specs.Option.{is_some}
use Rattle.std.proofs.lemmas.List.{get_or_read}
use Rattle.mod_graph.specs.Graph.{IsView, view_of}
use Rattle.mod_graph.proofs.Views.{view_is, outside_is}
use Rattle.mod_graph.proofs.graph.Graph.view.Goals as goal

pub returns-then-is_none : goal.returns-then-is_none
returns-then-is_none c = λ i q kept at.
    let g = c.args.self.now in
    let m = c.args.name.now.text in
    subst (λ r. IsView g.order r (view_of i q m)) (sym c.outside_view.ensures)
    (outside_is i g kept q m (ap is_some (sym c.module_number.ensures) ∙ c.if-is_none.ensures))

pub returns-in-Some : goal.returns-in-Some
returns-in-Some c = λ i q kept at.
    let g = c.args.self.now in
    let m = c.args.name.now.text in
    let count = g.order_count in
    let lt = c.requires.node in
    let here : c.args.from.0 < length g.rows.order.items = omega arith in
    let own = get_or_read g.rows.order.items c.args.from.0 c.index.result.now here c.index.ensures 0 in
    subst (λ v. IsView g.order (Some v) (view_of i q m)) (sym c.node_view.ensures)
    (view_is i g kept c.args.from.0 q m c.index.result.now (Some c.in-Some.number) at (ap is_some (sym c.module_number.ensures) ∙ c.if-is_none.ensures) own c.in-Some.ensures.is)

pub returns-in-None : goal.returns-in-None
returns-in-None c = λ i q kept at.
    let g = c.args.self.now in
    let m = c.args.name.now.text in
    let count = g.order_count in
    let lt = c.requires.node in
    let here : c.args.from.0 < length g.rows.order.items = omega arith in
    let own = get_or_read g.rows.order.items c.args.from.0 c.index.result.now here c.index.ensures 0 in
    view_is i g kept c.args.from.0 q m c.index.result.now None at (ap is_some (sym c.module_number.ensures) ∙ c.if-is_none.ensures) own c.in-None.ensures.is
