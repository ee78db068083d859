use Rattle.std.proofs.Common.{length}
use Rattle.mod_graph.specs.Edges.{leads}
use Rattle.numbered_nodes.proofs.Chains.{over_is_reach}
use Rattle.mod_graph.proofs.StepsBelow.{leads_below}
use Rattle.mod_graph.proofs.law.reach_is_closure.Goals as goal

pub returns : goal.returns
returns c = λ es. over_is_reach (leads es) (length es) (leads_below es)
