use Rattle.std.proofs.Common.{inl, inr, sym, ◌∙◌}
use Rattle.hs_lex.proofs.Parts.{identifier_some}
use Rattle.hs_lex.proofs.pragma.identifier_at.Goals as goal

pub returns-in-Small : goal.returns-in-Small
returns-in-Small c = identifier_some _ _ _ c.in-Some.c c.in-Some.ensures.is (inl (sym c.class_of.ensures ∙ c.in-Small.is)) c.run.ensures.runs

pub returns-in-Large : goal.returns-in-Large
returns-in-Large c = identifier_some _ _ _ c.in-Some.c c.in-Some.ensures.is (inr (sym c.class_of.ensures ∙ c.in-Large.is)) c.run-in-Large.ensures.runs
