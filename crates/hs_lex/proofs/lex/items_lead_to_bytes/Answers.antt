use Rattle.hs_lex.proofs.Reached.{items_lead}
use Rattle.hs_lex.proofs.lex.items_lead_to_bytes.Goals as goal

pub returns : goal.returns
returns c = items_lead
