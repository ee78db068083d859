use Rattle.std.proofs.Common.{[], refl}
use Rattle.session_lang.specs.Spelling.{Flags}
use Rattle.session_lang.proofs.Forms.{other_word, part_of_word, part_of_tail}
use Rattle.session_lang.proofs.piece.flags_at.Goals as goal

pub returns-in-More-flag_words_at : goal.returns-in-More-flag_words_at
returns-in-More-flag_words_at c =
    let h = c.in-More-flag_words_at.ensures in
    part_of_tail 1 c.args.bytes.now c.in-Whole.rest.now c.in-Whole.ensures.1 (Flags h.0) h.1 h.2 refl h.3 h.4

pub returns-in-More : goal.returns-in-More
returns-in-More c = let h = c.in-More.ensures in part_of_word 1 c.args.bytes.now h.1 h.3 h.4 (Flags []) ([], refl) refl

pub returns-in-Bad : goal.returns-in-Bad
returns-in-Bad c = other_word 1 c.args.bytes.now c.in-Bad.ensures
