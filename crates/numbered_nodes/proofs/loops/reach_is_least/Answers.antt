use Rattle.numbered_nodes.specs.Edges.{Relates}
use Rattle.numbered_nodes.proofs.ReachLaws.{chain, least}
use Rattle.numbered_nodes.proofs.loops.reach_is_least.Goals as goal

pub returns-clause-chain : goal.returns-clause-chain
returns-clause-chain c = λ g a b d p q. chain p q

pub returns-clause-least : goal.returns-clause-least
returns-clause-least c = λ g rows edges trans a b p. least (Relates rows) edges trans p
