use Rattle.std.specs.Prelude.{Ok, Err}
use Rattle.std.proofs.Common.{◌∙◌, ap, sym, subst}
use Rattle.hs_lex.specs.Tokens.{IsNext, IsBlank, IsBadFrom, IsReached}
use Rattle.hs_lex.proofs.Whole.{part, fault}
use Rattle.hs_lex.proofs.lex.next_token.Goals as goal

pub read-requires-clause-reached : goal.read-requires-clause-reached
read-requires-clause-reached c = subst (IsReached c.args.source.now) (c.cursor_at.ensures c.requires.place.0 c.requires.place.1) c.requires.place.1.0

pub returns-in-Ok-Some-clause-found : goal.returns-in-Ok-Some-clause-found
returns-in-Ok-Some-clause-found c = λ d t p e.
    let next = c.read.ensures.found c.in-Ok-Some.token c.in-Ok-Some.field-0-0-1 (c.in-Ok-Some.is ∙ ap Ok c.in-Ok-Some.field-0-is) in
    (c.in-Ok-Some.field-0-0-1, subst (λ z. IsNext c.args.source.now z t c.in-Ok-Some.field-0-0-1) (sym (c.cursor_at.ensures d p)) (subst (λ z. IsNext c.args.source.now c.cursor_at.result z c.in-Ok-Some.field-0-0-1) (part c.in-Ok-Some.token t e) next))

pub returns-in-Ok-None-clause-none : goal.returns-in-Ok-None-clause-none
returns-in-Ok-None-clause-none c = λ d p e. subst (IsBlank c.args.source.now) (sym (c.cursor_at.ensures d p)) (c.read.ensures.none (c.in-Ok-None.is ∙ ap Ok c.in-Ok-None.field-0-is))

pub returns-in-Err-NoLexeme-clause-bad : goal.returns-in-Err-NoLexeme-clause-bad
returns-in-Err-NoLexeme-clause-bad c = λ d place p e.
    let at = c.in-Err-NoLexeme.place in
    subst (λ z. IsBadFrom c.args.source.now z place) (sym (c.cursor_at.ensures d p)) (subst (IsBadFrom c.args.source.now c.cursor_at.result) (fault at place e) (c.read.ensures.bad at (c.in-Err-NoLexeme.is ∙ ap Err c.in-Err-NoLexeme.field-0-is)))
