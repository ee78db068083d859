use Rattle.std.proofs.Common.{refl, sym, ◌∙◌}
use Rattle.hs_lex.specs.declared.class.Class.TheVariants as class
use Rattle.hs_lex.specs.Lexemes.{IsName}
use Rattle.hs_lex.proofs.Names.{name_some, no_class}
use Rattle.hs_lex.proofs.name.large_at.Goals as goal

pub returns-in_default : goal.returns-in_default
returns-in_default c = no_class class.Large (IsName class.Large) (λ l r x. x.0) _ c.in_default.ensures.is

pub returns-in-Large : goal.returns-in-Large
returns-in-Large c = name_some class.Large _ _ _ c.in-Some.c refl c.in-Some.ensures.is (sym c.class_of.ensures ∙ c.in-Large.is) c.run.ensures.runs
