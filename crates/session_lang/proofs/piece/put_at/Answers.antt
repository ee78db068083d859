use Rattle.std.proofs.Common.{◌≡◌, ◌∷◌, ◌++◌, ℕ, List, [], refl, arith}
use Rattle.session_lang.specs.Spelling.{Said, Put, IsCommand}
use Rattle.session_lang.specs.Meant.{form}
use Rattle.session_lang.proofs.Forms.{other_word, part_of_word, part_of_tail, other_tail, tail}
use Rattle.session_lang.proofs.piece.put_at.Goals as goal

pub returns-in-More-file_at : goal.returns-in-More-file_at
returns-in-More-file_at c =
    let h = c.in-More-file_at.ensures in
    part_of_tail 0 c.args.bytes.now c.in-Whole.rest.now c.in-Whole.ensures.1 (Put h.0.0 h.0.1) h.1 h.2 refl h.3 h.4

put_only : (P : Said → Type 0) → ((path body : List ℕ) → P (Put path body)) → (c : Said) → form c ≡ 0 → P c
put_only P h (Put path body) f = h path body
put_only P h c f = absurd (omega arith)

pub returns-in-Bad-file_at : goal.returns-in-Bad-file_at
returns-in-Bad-file_at c =
    let rest = c.in-Whole.rest.now in
    other_tail 0 c.args.bytes.now rest c.in-Whole.ensures.1
    (λ d more last ok f. put_only (λ e. IsCommand e → rest ++ more ≡ tail e ++ last → ⊥) (λ path body o e. c.in-Bad-file_at.ensures (path, body) more last o e) d f ok)

pub returns-in-More : goal.returns-in-More
returns-in-More c =
    let h = c.in-More.ensures in
    part_of_word 0 c.args.bytes.now h.1 h.3 h.4 (Put (97 ∷ []) []) ((omega arith, omega arith, ((omega arith, omega arith), tt)), omega arith) refl

pub returns-in-Bad : goal.returns-in-Bad
returns-in-Bad c = other_word 0 c.args.bytes.now c.in-Bad.ensures
