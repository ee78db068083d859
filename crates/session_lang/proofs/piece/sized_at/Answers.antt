use Rattle.session_lang.proofs.Fields.{then_body, no_len}
use Rattle.session_lang.proofs.piece.sized_at.Goals as goal

pub returns-in-Whole : goal.returns-in-Whole
returns-in-Whole c = then_body c.args.bytes.now c.in-Whole.rest.now c.in-Whole.count c.in-Whole.ensures.0 c.in-Whole.ensures.1 c.body_at.result c.body_at.ensures

pub returns-in-More : goal.returns-in-More
returns-in-More c = no_len c.args.bytes.now c.in-More.ensures
