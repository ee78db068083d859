use Rattle.std.proofs.Common.{◌∷◌, [], refl, arith}
use Rattle.session_lang.specs.Spelling.{Del}
use Rattle.session_lang.proofs.Forms.{other_word, part_of_word, part_of_tail}
use Rattle.session_lang.proofs.piece.del_at.Goals as goal

pub returns-in-More-path_at : goal.returns-in-More-path_at
returns-in-More-path_at c =
    let h = c.in-More-path_at.ensures in
    part_of_tail 4 c.args.bytes.now c.in-Whole.rest.now c.in-Whole.ensures.1 (Del h.0) h.1 h.2 refl h.3 h.4

pub returns-in-More : goal.returns-in-More
returns-in-More c =
    let h = c.in-More.ensures in
    part_of_word 4 c.args.bytes.now h.1 h.3 h.4 (Del (97 ∷ [])) (omega arith, omega arith, ((omega arith, omega arith), tt)) refl

pub returns-in-Bad : goal.returns-in-Bad
returns-in-Bad c = other_word 4 c.args.bytes.now c.in-Bad.ensures
