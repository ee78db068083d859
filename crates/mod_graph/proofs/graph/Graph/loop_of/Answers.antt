use Rattle.std.proofs.Common.{get_or, length, ◌<◌, ap, ◌∙◌, arith}
use Rattle.std.proofs.lemmas.List.{get_or_read}
use Rattle.mod_graph.proofs.Views.{loop_is}
use Rattle.mod_graph.proofs.graph.Graph.loop_of.Goals as goal

pub returns : goal.returns
returns c = λ i q kept at.
    let g = c.args.self.now in
    let os = g.rows.order.items in
    let count = g.order_count in
    let more = g.loops_count in
    let lt = c.requires.node in
    let here : c.args.n.0 < length os = omega arith in
    let own = get_or_read os c.args.n.0 c.index.result.now here c.index.ensures 0 in
    let range = g.order_range c.args.n.0 0 here in
    let there : c.index.result.now < length g.rows.loops.items = omega arith in
    get_or_read g.rows.loops.items c.index.result.now c.index-2.result.now there c.index-2.ensures 0 ∙ ap (λ k. get_or g.rows.loops.items k 0) own ∙ loop_is i g kept c.args.n.0 q at
