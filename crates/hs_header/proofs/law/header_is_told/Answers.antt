use Rattle.hs_header.proofs.Outcomes.{tells_header}
use Rattle.hs_header.proofs.law.header_is_told.Goals as goal

pub returns : goal.returns
returns c = tells_header
