use Rattle.std.proofs.Common.{sym, ◌∙◌}
use Rattle.hs_lex.proofs.Numbers.{marked_by}
use Rattle.hs_lex.proofs.number.marked_at.Goals as goal

pub returns : goal.returns
returns c = marked_by c.args.base _ _ _ c.in-Some.zero c.in-Some-next_char.mark c.in-Some.ensures.is c.in-Some-next_char.ensures.is c.if-zero-ne48.false (sym c.marks.ensures ∙ c.if-not-marks.false) _ c.digits_of.ensures _ c.many_at.ensures
