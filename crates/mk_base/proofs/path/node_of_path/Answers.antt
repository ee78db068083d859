use Rattle.mk_base.proofs.Paths.{spelled}
use Rattle.mk_base.proofs.path.node_of_path.Goals as goal

pub returns-clause-spelling : goal.returns-clause-spelling
returns-clause-spelling c = spelled c.args.path.now c.node_of.result (rw c.as_bytes.ensures.value at c.node_of.ensures)
