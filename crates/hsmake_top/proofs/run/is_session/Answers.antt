use Rattle.std.proofs.Common.{◌≡◌, ◌∙◌, ℕ, List, ◌∷◌, [], ap, sym, string_bytes}
use Rattle.mk_base.specs.Texts.{same_text}
use Rattle.hsmake_top.proofs.Files.{exact, same_self}
use Rattle.hsmake_top.proofs.Words.{one_word}
use Rattle.hsmake_top.proofs.run.is_session.Goals as goal

pub returns-then-words-eq1 : goal.returns-then-words-eq1
returns-then-words-eq1 c =
    let one = one_word string_bytes c.args.words.now c.index-words-0.result c.if-words-eq1.true c.index-words-0.is in
    let value = c.as_bytes.ensures.value in
    let word = c.as_slice.ensures in
    let is : c.eq.result ≡ same_text c.as_bytes.result.now c.as_slice.result.now = c.eq.ensures in (
      (λ t. one ∙ ap (λ w. w ∷ []) (sym value ∙ exact c.as_bytes.result.now c.as_slice.result.now (sym is ∙ t) ∙ word)),
      (λ e. is ∙ ap (same_text c.as_bytes.result.now) (word ∙ head (sym e ∙ one) ∙ sym value) ∙ same_self c.as_bytes.result.now),
    )
  where
    head : {a b : List ℕ} → a ∷ [] ≡ b ∷ [] → a ≡ b
    head e = cc
