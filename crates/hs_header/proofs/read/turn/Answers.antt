use Rattle.std.proofs.Common.{refl, sym, ap, ◌∙◌, Ok, Err}
use Rattle.hs_header.proofs.Gathered.{over_lexeme, over_by, at_blank, at_bad}
use Rattle.hs_header.proofs.read.turn.Goals as goal

pub returns-then-is_over : goal.returns-then-is_over
returns-then-is_over c = (
  over_lexeme c.args.source.now c.args.known.now c.take.new.known c.in-Ok-Some.token c.in-Ok-Some.behind (c.in-Ok-Some.ensures.found c.in-Ok-Some.token c.in-Ok-Some.behind (ap Ok c.in-Ok-Some.field-0-is))
      (c.in-Ok-Some.ensures.reached c.in-Ok-Some.token c.in-Ok-Some.behind (ap Ok c.in-Ok-Some.field-0-is)) c.in_ok-take-in-Ok-Some.ensures,
  over_by c.take.new.known.stage (sym c.is_over.ensures ∙ c.if-is_over.true),
)

pub returns-in-Ok-Some : goal.returns-in-Ok-Some
returns-in-Ok-Some c =
    over_lexeme c.args.source.now c.args.known.now c.take.new.known c.in-Ok-Some.token c.in-Ok-Some.behind (c.in-Ok-Some.ensures.found c.in-Ok-Some.token c.in-Ok-Some.behind (ap Ok c.in-Ok-Some.field-0-is))
    (c.in-Ok-Some.ensures.reached c.in-Ok-Some.token c.in-Ok-Some.behind (ap Ok c.in-Ok-Some.field-0-is)) c.in_ok-take-in-Ok-Some.ensures

pub returns-in-Ok-None : goal.returns-in-Ok-None
returns-in-Ok-None c = (at_blank c.args.source.now c.args.known.now.cursor (c.in-Ok-None.ensures.none (ap Ok c.in-Ok-None.field-0-is)), refl)

pub returns-in-Err-NoLexeme : goal.returns-in-Err-NoLexeme
returns-in-Err-NoLexeme c =
    (at_bad c.args.source.now c.args.known.now.cursor c.in-Err-NoLexeme.at _ (c.in-Err-NoLexeme.ensures.bad c.in-Err-NoLexeme.at (ap Err c.in-Err-NoLexeme.field-0-is)) c.in-Err-NoLexeme.at-is, refl)
