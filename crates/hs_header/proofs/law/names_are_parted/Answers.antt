use Rattle.hs_header.proofs.Parted.{names_are_parted}
use Rattle.hs_header.proofs.law.names_are_parted.Goals as goal

pub returns : goal.returns
returns c = names_are_parted
