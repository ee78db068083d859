use Rattle.source_text.proofs.Advance.{joined}
use Rattle.source_text.proofs.place.places_go_on.Goals as goal

pub returns : goal.returns
returns c = joined
