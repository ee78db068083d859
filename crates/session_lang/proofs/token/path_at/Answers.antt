use Rattle.std.proofs.Common.{◌≡◌, ◌<◌, ◌++◌, ◌∷◌, ◌+◌, length, take, drop, get_or, arith, ap, sym, ◌∙◌, append_assoc, length-take, subst, []}
use Rattle.std.proofs.lemmas.List.{take_all}
use Rattle.std.specs.List.{AllByRecursion}
use Rattle.session_lang.specs.Spelling.{IsWordByte}
use Rattle.session_lang.proofs.Split.{parts}
use Rattle.session_lang.proofs.Paths.{goes_on, other_stop}
use Rattle.session_lang.proofs.token.path_at.Goals as goal
use Rattle.session_lang.proofs.token.path_at.Goals.{then-count-eq0-via-then-count-eq0, then-count-eq0-via-else-count-eq0+then-bytes-count}

pub returns-then-count-bytes : goal.returns-then-count-bytes
returns-then-count-bytes c =
    let bytes = c.args.bytes.now in
    let whole : take c.word_len-count.result bytes ≡ bytes = take_all c.word_len-count.result bytes (omega arith) in
    goes_on c.args.stop c.requires bytes (subst (AllByRecursion IsWordByte) whole c.word_len-count.ensures.front) (omega arith)

pub returns-then-count-eq0 : goal.returns-then-count-eq0
returns-then-count-eq0 c path more rest ok e =
    let bytes = c.args.bytes.now in
    let n = c.word_len-count.result in
    let lt : n < length bytes = omega arith in
    let from : take n bytes ++ get_or bytes n 0 ∷ (drop (n + 1) bytes ++ more) ≡ (path ++ c.args.stop ∷ []) ++ rest =
    sym (append_assoc (take n bytes) (get_or bytes n 0 ∷ drop (n + 1) bytes) more) ∙ ap (λ b. b ++ more) (sym (parts bytes n lt)) ∙ e in
    let s = other_stop c.args.stop c.requires (take n bytes) (drop (n + 1) bytes ++ more) path rest (get_or bytes n 0) c.word_len-count.ensures.front (c.word_len-count.ensures.stop lt) ok from in
    elim c.then-count-eq0.branch [
      | then-count-eq0-via-then-count-eq0 w ↦ omega (arith, ok.0, ap length s.0, length-take n bytes, w.if-count-eq0.true)
      | then-count-eq0-via-else-count-eq0+then-bytes-count w ↦ w.if-bytes-count.true s.1
    ]
