use Rattle.node_groups.proofs.Keys.{least_gone}
use Rattle.node_groups.proofs.ready.take_least.Goals as goal

pub returns-clause-rest : goal.returns-clause-rest
returns-clause-rest c = least_gone c.pop_first.result c.args.ready.now.keys c.pop_first.new.self.keys c.pop_first.ensures.removal c.pop_first.ensures.all_above
