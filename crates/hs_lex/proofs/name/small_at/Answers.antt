use Rattle.std.proofs.Common.{refl, sym, ◌∙◌}
use Rattle.hs_lex.specs.declared.class.Class.TheVariants as class
use Rattle.hs_lex.specs.Lexemes.{IsName}
use Rattle.hs_lex.proofs.Names.{name_some, no_class}
use Rattle.hs_lex.proofs.name.small_at.Goals as goal

pub returns-in_default : goal.returns-in_default
returns-in_default c = no_class class.Small (IsName class.Small) (λ l r x. x.0) _ c.in_default.ensures.is

pub returns-in-Small : goal.returns-in-Small
returns-in-Small c = name_some class.Small _ _ _ c.in-Some.c refl c.in-Some.ensures.is (sym c.class_of.ensures ∙ c.in-Small.is) c.run.ensures.runs
