use Rattle.std.proofs.Common.{sym, ◌∙◌}
use Rattle.std.proofs.lemmas.Bool.{false≢true}
use Rattle.hs_lex.proofs.Signs.{comment_open, comment_some}
use Rattle.hs_lex.proofs.sign.line_comment_at.Goals as goal

pub returns-then-not-ends_line : goal.returns-then-not-ends_line
returns-then-not-ends_line c = comment_open _ _ _ c.in-Some.ensures c.run-rest.ensures.runs (λ e. false≢true (sym c.if-not-ends_line.true ∙ c.ends_line.ensures.1 e))

pub returns : goal.returns
returns c = comment_some _ _ _ c.in-Some.ensures c.run-rest.ensures.runs (c.ends_line.ensures.0 c.if-not-ends_line.false)
