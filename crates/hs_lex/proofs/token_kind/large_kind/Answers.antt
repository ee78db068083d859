use Rattle.std.proofs.Common.{sym, ◌∙◌}
use Rattle.hs_lex.proofs.Naming.{at_end, no_dot, last, further}
use Rattle.hs_lex.proofs.token_kind.large_kind.Goals as goal

pub returns-in-Some-last_kind_at : goal.returns-in-Some-last_kind_at
returns-in-Some-last_kind_at c = sym (last _ _ _ c.in-Some.c _ c.in-Some.ensures.is c.if-c-eq46.true (sym c.last_kind_at.ensures ∙ c.in-Some-last_kind_at.is)) ∙ c.loop-c.invariant

pub loop-c-preserved-in_default-last_kind_at : goal.loop-c-preserved-in_default-last_kind_at
loop-c-preserved-in_default-last_kind_at c = sym (further _ _ _ c.in-Some.c c.in-Some.ensures.is c.if-c-eq46.true (sym c.last_kind_at.ensures ∙ c.in_default-last_kind_at.is)) ∙ c.loop-c.invariant

pub loop-c-preserved : goal.loop-c-preserved
loop-c-preserved c = sym (no_dot _ _ _ c.in-Some.c c.in-Some.ensures.is c.if-c-eq46.false) ∙ c.loop-c.invariant

pub returns : goal.returns
returns c = sym (at_end _ _ c.in_default.ensures.is) ∙ c.loop-c.invariant
