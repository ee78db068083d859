use Rattle.std.proofs.Common.{sym, ◌∙◌}
use Rattle.std.proofs.lemmas.Bool.{false≢true}
use Rattle.hs_lex.proofs.Parts.{no_language, other_language, gapless, language_told, language_test}
use Rattle.hs_lex.proofs.pragma.is_language.Goals as goal

pub returns-in_default : goal.returns-in_default
returns-in_default c = no_language _ c.in_default.ensures

pub returns-then-not-eq_ignore_ascii_case : goal.returns-then-not-eq_ignore_ascii_case
returns-then-not-eq_ignore_ascii_case c =
    let r = c.run-gap.ensures.runs in
    let d = language_test _ _ _ (c.text_between.ensures.reads r.0 r.1) c.eq_ignore_ascii_case.ensures.test in
    other_language _ _ _ _ c.in-Some.ensures c.run-word.ensures.runs r (λ k. false≢true (sym c.if-not-eq_ignore_ascii_case.true ∙ d.1 k))

pub returns-then-not-begins : goal.returns-then-not-begins
returns-then-not-begins c = gapless _ _ _ _ c.in-Some.ensures c.run-word.ensures.runs c.run-gap.ensures.runs (c.begins.ensures.no c.if-not-begins.true)

pub returns : goal.returns
returns c =
    let r = c.run-gap.ensures.runs in
    let d = language_test _ _ _ (c.text_between.ensures.reads r.0 r.1) c.eq_ignore_ascii_case.ensures.test in
    language_told _ _ _ _ c.in-Some.ensures c.run-word.ensures.runs r _ _ (d.0 c.if-not-eq_ignore_ascii_case.false) (c.begins.ensures.yes c.if-not-begins.false) c.run.ensures.runs c.is_names.ensures
