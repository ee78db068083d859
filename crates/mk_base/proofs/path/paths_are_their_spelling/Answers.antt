use Rattle.mk_base.proofs.Paths.{path_is_its_spelling}
use Rattle.mk_base.proofs.path.paths_are_their_spelling.Goals as goal

pub returns : goal.returns
returns c = path_is_its_spelling
