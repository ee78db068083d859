use Rattle.std.proofs.Common.{◌≡◌, ap, sym, ◌∙◌, true, length}
use Rattle.numbered_nodes.proofs.OrderLaws.{one_order}
use Rattle.mod_graph.specs.Edges.{needs}
use Rattle.mod_graph.specs.Graph.{nodes_at}
use Rattle.mod_graph.proofs.law.order_is_one.Goals as goal

pub returns : goal.returns
returns c = λ es ns ms p q. p.2 ∙ ap (nodes_at es) (one_order (λ a b. needs es a b ≡ true) (length es) p.0 q.0 p.1 q.1) ∙ sym q.2
