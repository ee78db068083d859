-- What stands at a place, and what a source is made of.
use Rattle.std.specs.Prelude.{◌≡◌, ◌≤◌, ℕ, Bool, true, false, List, [], ◌∷◌, ◌++◌, length}
use Rattle.hs_lex.specs.declared.class.Class.TheVariants as class
use Rattle.hs_lex.specs.declared.item.Kind.{Kind}
use Rattle.hs_lex.specs.declared.item.Kind.TheVariants.{Blank, LineComment, NestedComment, SmallName, LargeName, Operator, Number, Fraction, Quoted, Char, Special}
use Rattle.hs_lex.specs.declared.number.Form.{Form}
use Rattle.hs_lex.specs.declared.number.Form.TheVariants.{Integer, Float}
use Rattle.hs_lex.specs.Numbers.{IsNumberOf}
use Rattle.hs_lex.specs.Lexemes.{IsOne, IsName, IsOperator, IsLineComment, IsNestedComment, IsText, IsChar, IsSpecial, IsLargeName}

-- the text is of the kind where rest follows
abbrev pub Is : Kind → List ℕ → List ℕ → Type 0
Is Blank l rest = IsOne class.White l
Is LineComment l rest = IsLineComment l rest
Is NestedComment l rest = IsNestedComment l
Is SmallName l rest = IsName class.Small l rest
Is LargeName l rest = IsLargeName l rest
Is Operator l rest = IsOperator l rest
Is Number l rest = IsNumberOf Integer l
Is Fraction l rest = IsNumberOf Float l
Is Quoted l rest = IsText l
Is Char l rest = IsChar l
Is Special l rest = IsSpecial l rest

-- the kind of a number: one with a fraction or an exponent is a fraction
abbrev pub number_kind : Form → Kind
number_kind Integer = Number
number_kind Float = Fraction

-- The text is the longest that stands there, of any kind.
pub record IsItem (k : Kind) (text cs rest : List ℕ) : Type 0 where
  pub front : cs ≡ text ++ rest
  pub is : Is k text rest
  pub longest : (j : Kind) (l r : List ℕ) → Is j l r → cs ≡ l ++ r → length l ≤ length text

-- Nothing begins there.
abbrev pub NoItem : List ℕ → Type 0
NoItem cs = (j : Kind) (l r : List ℕ) → Is j l r → cs ≡ l ++ r → ⊥

-- white space, comments and lexemes in turn lead from cs to rest
abbrev pub Leads : List (Kind × List ℕ) → List ℕ → List ℕ → Type 0
Leads [] cs rest = cs ≡ rest
Leads (i ∷ is) cs rest = (mid : List ℕ) × IsItem i.0 i.1 cs mid × Leads is mid rest

abbrev pub is_lexeme : Kind → Bool
is_lexeme Blank = false
is_lexeme LineComment = false
is_lexeme NestedComment = false
is_lexeme _ = true
