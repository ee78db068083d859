use Rattle.session_lang.proofs.Forms.{other_word}
use Rattle.session_lang.proofs.piece.quit_at.Goals as goal

pub returns-in-Bad : goal.returns-in-Bad
returns-in-Bad c = other_word 3 c.args.bytes.now c.in-Bad.ensures
