use Rattle.hs_layout.proofs.Own.{source_stays}
use Rattle.hs_layout.proofs.laws.tokens_stay.Goals as goal

pub returns : goal.returns
returns c = source_stays
