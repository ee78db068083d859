use Rattle.mod_graph.proofs.SortedHeaders.{order_is_nothing}
use Rattle.mod_graph.proofs.law.order_of_files_is_nothing.Goals as goal

pub returns : goal.returns
returns c = order_is_nothing
