use Rattle.std.proofs.Common.{[], ◌-◌, length, ap, ◌≡◌, sym, refl, ◌∙◌}
use Rattle.std.proofs.lemmas.List.{append-nil}
use Rattle.session_lang.specs.Meant.{said, said_by}
use Rattle.session_lang.specs.Spelling.{spelling}
use Rattle.session_lang.proofs.Next.{whole_iff, not_both}
use Rattle.session_lang.proofs.command.next_command.Goals as goal

pub returns-in-Whole-clause-whole : goal.returns-in-Whole-clause-whole
returns-in-Whole-clause-whole c =
    let w = c.in-Whole.ensures in
    let bytes = c.args.bytes.now in
    let rest = c.in-Whole.rest.now in
    let says : said bytes c.placed.result ≡ said_by c.in-Whole.piece = ap (λ b. said b c.placed.result) w.1 ∙ c.placed.ensures.says rest in
    whole_iff bytes rest (said_by c.in-Whole.piece) (said bytes c.placed.result) (length bytes - length rest) says w.0 w.1 refl

pub returns-in-Whole-clause-more : goal.returns-in-Whole-clause-more
returns-in-Whole-clause-more c =
    let w = c.in-Whole.ensures in
    ((λ h. absurd h), (λ h. h.3 (not_both c.args.bytes.now c.in-Whole.rest.now h.1 (said_by c.in-Whole.piece) h.0 w.0 h.2 w.1 h.4)))

pub returns-in-Whole-clause-bad : goal.returns-in-Whole-clause-bad
returns-in-Whole-clause-bad c =
    let w = c.in-Whole.ensures in
    ((λ h. absurd h), (λ h. h (said_by c.in-Whole.piece) [] c.in-Whole.rest.now w.0 (append-nil c.args.bytes.now ∙ w.1)))

pub returns-in-More-clause-whole : goal.returns-in-More-clause-whole
returns-in-More-clause-whole c d n =
    let m = c.in-More.ensures in
    ((λ h. absurd h), (λ h. m.3 (not_both c.args.bytes.now h.2.0 m.1 d m.0 h.0 m.2 h.2.1 m.4)))

pub returns-in-More-clause-bad : goal.returns-in-More-clause-bad
returns-in-More-clause-bad c =
    let m = c.in-More.ensures in
    ((λ h. absurd h), (λ h. h m.0 m.1 [] m.2 (m.4 ∙ sym (append-nil (spelling m.0)))))

pub returns-in-Bad-clause-whole : goal.returns-in-Bad-clause-whole
returns-in-Bad-clause-whole c d n = ((λ h. absurd h), (λ h. c.in-Bad.ensures d [] h.2.0 h.0 (append-nil c.args.bytes.now ∙ h.2.1)))

pub returns-in-Bad-clause-more : goal.returns-in-Bad-clause-more
returns-in-Bad-clause-more c = ((λ h. absurd h), (λ h. c.in-Bad.ensures h.0 h.1 [] h.2 (h.4 ∙ sym (append-nil (spelling h.0)))))
