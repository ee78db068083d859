use Rattle.std.proofs.Common.{ap, sym, ◌∙◌}
use Rattle.source_text.proofs.Widths.{ends_before}
use Rattle.hs_lex.specs.Words.{is_reserved}
use Rattle.hs_lex.proofs.Plain.{small_plain, small_reserved, operator_plain, operator_reserved}
use Rattle.hs_lex.proofs.name.plain_at.Goals as goal

pub text_between-requires : goal.text_between-requires
text_between-requires c = let h = c.in-Some.ensures in ends_before h.text _ _ h.front

pub returns-then-is_reserved : goal.returns-then-is_reserved
returns-then-is_reserved c = let h = c.in-Some.ensures in small_reserved _ _ h (ap is_reserved (sym (c.text_between.ensures.reads h.text h.front)) ∙ sym c.is_reserved.ensures ∙ c.if-is_reserved.true)

pub returns-in-Some : goal.returns-in-Some
returns-in-Some c = let h = c.in-Some.ensures in small_plain _ _ h (ap is_reserved (sym (c.text_between.ensures.reads h.text h.front)) ∙ sym c.is_reserved.ensures ∙ c.if-is_reserved.false)

pub text_between-requires-in-Some-operator_at : goal.text_between-requires-in-Some-operator_at
text_between-requires-in-Some-operator_at c = let h = c.in-Some-operator_at.ensures in ends_before h.text _ _ h.front

pub returns-then-is_reserved-2 : goal.returns-then-is_reserved-2
returns-then-is_reserved-2 c =
    let h = c.in-Some-operator_at.ensures in
    operator_reserved _ _ h (ap is_reserved (sym (c.text_between-in-Some-operator_at.ensures.reads h.text h.front)) ∙ sym c.is_reserved-in-Some-operator_at.ensures ∙ c.if-is_reserved-2.true)

pub returns-in-Some-operator_at : goal.returns-in-Some-operator_at
returns-in-Some-operator_at c =
    let h = c.in-Some-operator_at.ensures in
    operator_plain _ _ h (ap is_reserved (sym (c.text_between-in-Some-operator_at.ensures.reads h.text h.front)) ∙ sym c.is_reserved-in-Some-operator_at.ensures ∙ c.if-is_reserved-2.false)
