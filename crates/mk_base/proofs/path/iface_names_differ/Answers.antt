use Rattle.mk_base.proofs.Paths.{iface_names_differ}
use Rattle.mk_base.proofs.path.iface_names_differ.Goals as goal

pub returns : goal.returns
returns c = iface_names_differ
