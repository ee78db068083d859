use Rattle.numbered_nodes.specs.Edges.{HasEdge}
use Rattle.node_groups.proofs.OneList.{one_list}
use Rattle.node_groups.proofs.groups_are_one.Goals as goal

pub returns : goal.returns
returns c = record { one = λ g n. one_list (HasEdge g) n }
