use Rattle.std.proofs.Common.{sym, ◌∙◌}
use Rattle.std.proofs.lemmas.Bool.{false≢true}
use Rattle.hs_lex.proofs.Parts.{no_source, other_source, source_told, source_test}
use Rattle.hs_lex.proofs.pragma.is_source.Goals as goal

pub returns-in_default : goal.returns-in_default
returns-in_default c = no_source _ c.in_default.ensures

pub returns-then-not-eq_ignore_ascii_case : goal.returns-then-not-eq_ignore_ascii_case
returns-then-not-eq_ignore_ascii_case c =
    let r = c.run-behind.ensures.runs in
    let d = source_test _ _ _ (c.text_between.ensures.reads r.0 r.1) c.eq_ignore_ascii_case.ensures.test in
    other_source _ _ _ _ c.in-Some.ensures c.run-word.ensures.runs r (λ k. false≢true (sym c.if-not-eq_ignore_ascii_case.true ∙ d.1 k))

pub returns : goal.returns
returns c =
    let r = c.run-behind.ensures.runs in
    let d = source_test _ _ _ (c.text_between.ensures.reads r.0 r.1) c.eq_ignore_ascii_case.ensures.test in
    source_told _ _ _ _ c.in-Some.ensures c.run-word.ensures.runs r _ _ (d.0 c.if-not-eq_ignore_ascii_case.false) c.run.ensures.runs c.closes.ensures
