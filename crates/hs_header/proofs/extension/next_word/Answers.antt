use Rattle.std.proofs.Common.{◌∷◌, ap, sym, ◌∙◌, None, arith}
use Rattle.source_text.specs.Characters.{characters}
use Rattle.hs_lex.specs.Tokens.{position}
use Rattle.hs_header.specs.Extensions.{words}
use Rattle.hs_header.proofs.Words.{passed, found, takes, no_words, behind_text}
use Rattle.hs_header.proofs.extension.next_word.Goals as goal

pub returns-then-is_in-clause-word : goal.returns-then-is_in-clause-word
returns-then-is_in-clause-word c =
    let r = c.run-end.ensures.runs in
    c.loop-c.invariant.same ∙ found c.loop-c.at _ _ _ c.text_between-text.result.now c.in-Some.c r c.in-Some.ensures.is (sym c.is_in.ensures ∙ c.if-is_in.true) (c.text_between-text.ensures.spelled r.0 r.1)
    ∙ ap (λ z. (position c.loop-c.at, c.text_between-text.result.now) ∷ words None z (characters c.run-end.result.now)) (sym (behind_text _ _ _ _ (c.text_between-text.ensures.reads r.0 r.1) c.advance.ensures.is))

pub returns-then-is_in-clause-less : goal.returns-then-is_in-clause-less
returns-then-is_in-clause-less c =
    omega (arith, takes c.loop-c.rest.now c.run-end.result.now _ c.in-Some.c c.run-end.ensures.runs c.in-Some.ensures.is (sym c.is_in.ensures ∙ c.if-is_in.true), c.loop-c.invariant.less)

pub loop-c-preserved : goal.loop-c-preserved
loop-c-preserved c = record {
  same = c.loop-c.invariant.same ∙ passed c.loop-c.at _ _ c.in-Some.c c.step-at.result c.in-Some.ensures.is (sym c.is_in.ensures ∙ c.if-is_in.false) c.step-at.ensures.is;
  less = omega (arith, c.in-Some.ensures.less);
  line = omega (arith, c.in-Some.ensures.less);
  column = omega (arith, c.in-Some.ensures.less);
}

pub returns-clause-word : goal.returns-clause-word
returns-clause-word c = c.loop-c.invariant.same ∙ no_words c.loop-c.at _ c.in_default.ensures.is
