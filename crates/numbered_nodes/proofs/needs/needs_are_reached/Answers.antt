use Rattle.std.proofs.Common.{get_or}
use Rattle.numbered_nodes.specs.Edges.{HasEdge}
use Rattle.numbered_nodes.proofs.Leading.{needs_law}
use Rattle.numbered_nodes.proofs.needs.needs_are_reached.Goals as goal

pub returns : goal.returns
returns c = λ nodes modules module_of n follows decide. needs_law (HasEdge nodes) (HasEdge modules) (λ a. get_or module_of a 0) n follows decide
