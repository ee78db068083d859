use Rattle.session_lang.proofs.Fields.{file_more, file_bad, path_more}
use Rattle.session_lang.proofs.piece.file_at.Goals as goal

pub returns-in-More-sized_at : goal.returns-in-More-sized_at
returns-in-More-sized_at c = file_more c.args.bytes.now c.in-Whole.rest.now c.in-Whole.path.now c.in-Whole.ensures.0 c.in-Whole.ensures.1 c.in-More-sized_at.ensures

pub returns-in-Bad-sized_at : goal.returns-in-Bad-sized_at
returns-in-Bad-sized_at c = file_bad c.args.bytes.now c.in-Whole.rest.now c.in-Whole.path.now c.in-Whole.ensures.0 c.in-Whole.ensures.1 c.in-Bad-sized_at.ensures

pub returns-in-More : goal.returns-in-More
returns-in-More c = path_more c.args.bytes.now c.in-More.ensures
