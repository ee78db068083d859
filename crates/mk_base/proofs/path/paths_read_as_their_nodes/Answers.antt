use Rattle.std.proofs.Common.{refl}
use Rattle.mk_base.specs.Paths.{path_of}
use Rattle.mk_base.proofs.Paths.{node_reads}
use Rattle.mk_base.proofs.path.paths_read_as_their_nodes.Goals as goal

pub returns : goal.returns
returns c = λ n h. node_reads (path_of n) n (h, refl)
