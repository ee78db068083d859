use Rattle.std.proofs.Common.{sym, ◌∙◌, refl}
use Rattle.hs_lex.specs.declared.class.Class.TheVariants as class
use Rattle.hs_lex.proofs.Dispatch.{lone_some, lone_none, comment_item, operator_item, symbol_none, nested_item, special_item, special_none, number_item, number_none, none_begins, end_none}
use Rattle.hs_lex.proofs.Specials.{one_some}
use Rattle.hs_lex.proofs.item.item_at.Goals as goal

pub returns-in_default : goal.returns-in_default
returns-in_default c = end_none _ c.in_default.ensures.is

pub returns-in-White : goal.returns-in-White
returns-in-White c =
    let q = sym c.class_of.ensures ∙ c.in-White.is in
    lone_some _ _ c.in-Some.c c.in-Some.ensures.is class.White q refl _ (one_some class.White _ _ c.in-Some.c c.in-Some.ensures.is q)

pub returns-in-Some-small_at : goal.returns-in-Some-small_at
returns-in-Some-small_at c = lone_some _ _ c.in-Some.c c.in-Some.ensures.is class.Small (sym c.class_of.ensures ∙ c.in-Small.is) refl _ c.in-Some-small_at.ensures

pub returns-in-None : goal.returns-in-None
returns-in-None c = lone_none _ _ c.in-Some.c c.in-Some.ensures.is class.Small (sym c.class_of.ensures ∙ c.in-Small.is) refl c.in-None.ensures

pub returns-in-Some-large_name_at : goal.returns-in-Some-large_name_at
returns-in-Some-large_name_at c = lone_some _ _ c.in-Some.c c.in-Some.ensures.is class.Large (sym c.class_of.ensures ∙ c.in-Large.is) refl _ c.in-Some-large_name_at.ensures

pub returns-in-None-large_name_at : goal.returns-in-None-large_name_at
returns-in-None-large_name_at c = lone_none _ _ c.in-Some.c c.in-Some.ensures.is class.Large (sym c.class_of.ensures ∙ c.in-Large.is) refl c.in-None-large_name_at.ensures

pub returns-in-Some-number_at : goal.returns-in-Some-number_at
returns-in-Some-number_at c = number_item _ _ c.in-Some.c c.in-Some.ensures.is (sym c.class_of.ensures ∙ c.in-Digit.is) _ _ c.number_kind.ensures _ c.in-Some-number_at.ensures

pub returns-in-None-number_at : goal.returns-in-None-number_at
returns-in-None-number_at c = number_none _ _ c.in-Some.c c.in-Some.ensures.is (sym c.class_of.ensures ∙ c.in-Digit.is) c.in-None-number_at.ensures

pub returns-in-Some-line_comment_at : goal.returns-in-Some-line_comment_at
returns-in-Some-line_comment_at c = comment_item _ _ c.in-Some.c c.in-Some.ensures.is (sym c.class_of.ensures ∙ c.in-Symbol.is) _ c.in-Some-line_comment_at.ensures

pub returns-in-Some-operator_at : goal.returns-in-Some-operator_at
returns-in-Some-operator_at c = operator_item _ _ c.in-Some.c c.in-Some.ensures.is (sym c.class_of.ensures ∙ c.in-Symbol.is) _ c.in_default-line_comment_at.ensures c.in-Some-operator_at.ensures

pub returns-in-None-operator_at : goal.returns-in-None-operator_at
returns-in-None-operator_at c = symbol_none _ _ c.in-Some.c c.in-Some.ensures.is (sym c.class_of.ensures ∙ c.in-Symbol.is) c.in_default-line_comment_at.ensures c.in-None-operator_at.ensures

pub returns-in-Some-nested_comment_at : goal.returns-in-Some-nested_comment_at
returns-in-Some-nested_comment_at c = nested_item _ _ c.in-Some.c c.in-Some.ensures.is (sym c.class_of.ensures ∙ c.in-Special.is) _ c.in-Some-nested_comment_at.ensures

pub returns-in-Some-special_at : goal.returns-in-Some-special_at
returns-in-Some-special_at c = special_item _ _ c.in-Some.c c.in-Some.ensures.is (sym c.class_of.ensures ∙ c.in-Special.is) _ c.in_default-nested_comment_at.ensures c.in-Some-special_at.ensures

pub returns-in-None-special_at : goal.returns-in-None-special_at
returns-in-None-special_at c = special_none _ _ c.in-Some.c c.in-Some.ensures.is (sym c.class_of.ensures ∙ c.in-Special.is) c.in_default-nested_comment_at.ensures c.in-None-special_at.ensures

pub returns-in-Some-text_at : goal.returns-in-Some-text_at
returns-in-Some-text_at c = lone_some _ _ c.in-Some.c c.in-Some.ensures.is class.Quote (sym c.class_of.ensures ∙ c.in-Quote.is) refl _ c.in-Some-text_at.ensures

pub returns-in-None-text_at : goal.returns-in-None-text_at
returns-in-None-text_at c = lone_none _ _ c.in-Some.c c.in-Some.ensures.is class.Quote (sym c.class_of.ensures ∙ c.in-Quote.is) refl c.in-None-text_at.ensures

pub returns-in-Some-char_at : goal.returns-in-Some-char_at
returns-in-Some-char_at c = lone_some _ _ c.in-Some.c c.in-Some.ensures.is class.Tick (sym c.class_of.ensures ∙ c.in-Tick.is) refl _ c.in-Some-char_at.ensures

pub returns-in-None-char_at : goal.returns-in-None-char_at
returns-in-None-char_at c = lone_none _ _ c.in-Some.c c.in-Some.ensures.is class.Tick (sym c.class_of.ensures ∙ c.in-Tick.is) refl c.in-None-char_at.ensures

pub returns-in-Other : goal.returns-in-Other
returns-in-Other c = none_begins _ _ c.in-Some.c c.in-Some.ensures.is (sym c.class_of.ensures ∙ c.in-Other.is)
