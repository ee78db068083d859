use Rattle.std.proofs.Common.{get_or}
use Rattle.numbered_nodes.specs.Edges.{HasEdge}
use Rattle.numbered_nodes.proofs.Leading.{hubs_lead}
use Rattle.numbered_nodes.proofs.needs.hubs_lead.Goals as goal

pub returns : goal.returns
returns c = λ nodes loops n within. hubs_lead (HasEdge nodes) (λ a. get_or loops a 0) n within
