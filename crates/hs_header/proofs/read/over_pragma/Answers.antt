use Rattle.std.proofs.Common.{sym, ap, ◌∙◌, Ok, Err}
use Rattle.hs_header.proofs.Gathered.{stands, stands_last, stands_bad, passes, unknown_is, near_line, near_column}
use Rattle.hs_header.proofs.read.over_pragma.Goals as goal

pub returns-then-not-is_pragma : goal.returns-then-not-is_pragma
returns-then-not-is_pragma c =
    stands c.args.source.now c.args.front c.in-Ok-Some.token c.in-Ok-Some.behind (c.in-Ok-Some.ensures.found c.in-Ok-Some.token c.in-Ok-Some.behind (ap Ok c.in-Ok-Some.field-0-is)) (sym c.is_pragma.ensures ∙ c.if-not-is_pragma.true)

pub flags_of-requires-clause-line : goal.flags_of-requires-clause-line
flags_of-requires-clause-line c =
    near_line c.args.source.now c.args.front.cursor c.in-Ok-Some.behind c.in-Ok-Some.token c.requires.size c.requires.reached (c.in-Ok-Some.ensures.found c.in-Ok-Some.token c.in-Ok-Some.behind (ap Ok c.in-Ok-Some.field-0-is))

pub flags_of-requires-clause-column : goal.flags_of-requires-clause-column
flags_of-requires-clause-column c =
    near_column c.args.source.now c.args.front.cursor c.in-Ok-Some.behind c.in-Ok-Some.token c.requires.size c.requires.reached (c.in-Ok-Some.ensures.found c.in-Ok-Some.token c.in-Ok-Some.behind (ap Ok c.in-Ok-Some.field-0-is))

pub returns-in-Err : goal.returns-in-Err
returns-in-Err c =
    unknown_is c.args.source.now c.args.front c.in-Ok-Some.token c.in-Ok-Some.behind c.in-Err.error (c.in-Ok-Some.ensures.found c.in-Ok-Some.token c.in-Ok-Some.behind (ap Ok c.in-Ok-Some.field-0-is))
    (sym c.is_pragma.ensures ∙ c.if-not-is_pragma.false) c.in-Err.ensures

pub returns-in-Ok-Some : goal.returns-in-Ok-Some
returns-in-Ok-Some c =
    passes c.args.source.now c.args.front c.in-Ok-Some.token c.in-Ok-Some.behind c.in-Ok.flags (c.in-Ok-Some.ensures.found c.in-Ok-Some.token c.in-Ok-Some.behind (ap Ok c.in-Ok-Some.field-0-is))
    (c.in-Ok-Some.ensures.reached c.in-Ok-Some.token c.in-Ok-Some.behind (ap Ok c.in-Ok-Some.field-0-is)) (sym c.is_pragma.ensures ∙ c.if-not-is_pragma.false) c.in-Ok.ensures

pub returns-in-Ok-None : goal.returns-in-Ok-None
returns-in-Ok-None c = stands_last c.args.source.now c.args.front (c.in-Ok-None.ensures.none (ap Ok c.in-Ok-None.field-0-is))

pub returns-in-Err-NoLexeme : goal.returns-in-Err-NoLexeme
returns-in-Err-NoLexeme c = stands_bad c.args.source.now c.args.front c.in-Err-NoLexeme.field-0-0 (c.in-Err-NoLexeme.ensures.bad c.in-Err-NoLexeme.field-0-0 (ap Err c.in-Err-NoLexeme.field-0-is))
