-- How patterns are read: each function for so many steps, from those for fewer.
use Rattle.std.specs.Prelude.{ℕ, suc, zero, Bool, true, false, List, [], ◌∷◌, ◌++◌, Some, None, cond, ◌||◌}
use Rattle.mk_base.specs.declared.place.Pos.{Pos}
use Rattle.hs_syntax.specs.declared.token.Token.{Token}
use Rattle.hs_syntax.specs.declared.sign.Sign.{Sign}
use Rattle.hs_syntax.specs.declared.sign.Sign.TheVariants.{Var, Con, QualifiedCon, Minus, Number, Quoted, OpenBrace, CloseBrace, OpenParen, OpenSquare, Wild, As, Tilde}
use Rattle.hs_syntax.specs.declared.name_ref.NameRef.{NameRef}
use Rattle.hs_syntax.specs.declared.pattern_tree.GconTree.{GconTree}
use Rattle.hs_syntax.specs.declared.pattern_tree.PatTree.{PatTree}
use Rattle.hs_syntax.specs.declared.pattern_tree.PatLink.{PatLink}
use Rattle.hs_syntax.specs.declared.pattern_tree.PatOperand.{PatOperand}
use Rattle.hs_syntax.specs.declared.pattern_tree.PatOperand.TheVariants as operand
use Rattle.hs_syntax.specs.declared.pattern_tree.ApatTree.{ApatTree}
use Rattle.hs_syntax.specs.declared.pattern_tree.ApatTree.TheVariants as apat
use Rattle.hs_syntax.specs.declared.pattern_tree.FpatTree.{FpatTree}
use Rattle.hs_syntax.specs.Reading.{Found, and_then, or_else_by, with_first, begins, behind, and_behind, with_sign, is_comma, is_close_paren, is_close_square, is_equals}
use Rattle.hs_syntax.specs.Made.{pat_tree, pat_link, fpat_tree}
use Rattle.hs_syntax.specs.Signs.{sign_of}
use Rattle.hs_parts.specs.Names.{place, is_varsym, is_gconsym}
use Rattle.hs_parts.specs.NameReaders.{var_at, qvar_at, qcon_at, gcon_at, qconop_at}

-- what begins an apat
abbrev pub begins_apat : Sign → Bool
begins_apat Var = true
begins_apat Con = true
begins_apat QualifiedCon = true
begins_apat Number = true
begins_apat Quoted = true
begins_apat Wild = true
begins_apat OpenParen = true
begins_apat OpenSquare = true
begins_apat Tilde = true
begins_apat _ = false

abbrev pub is_as : Sign → Bool
is_as As = true
is_as _ = false

-- a written opening brace
abbrev pub is_brace : Sign → Bool
is_brace (OpenBrace false) = true
is_brace _ = false

-- a written closing brace
abbrev pub is_close_brace : Sign → Bool
is_close_brace (CloseBrace false) = true
is_close_brace _ = false

pub record PatternReaders : Type 0 where
  pub chain : Pos → List PatLink → List Token → Found PatTree
  pub operand : List Token → Found PatOperand
  pub apats : List ApatTree → List Token → Found (List ApatTree)
  pub apat : List Token → Found ApatTree
  pub single : List Token → Found ApatTree
  pub patterns : List PatTree → List Token → Found (List PatTree)
  pub fpats : List FpatTree → List Token → Found (List FpatTree)

-- a pattern from its first token on
abbrev pub pattern_by : PatternReaders → List Token → Found PatTree
pattern_by r ts = r.chain (place ts) [] ts

-- an operand, and the operator with the operands behind it
abbrev pub chain_by : PatternReaders → Pos → List PatLink → Pos → PatOperand → List Token → Found PatTree
chain_by r at ls here x ts = or_else_by (qconop_at ts) (λ q rest. r.chain at (ls ++ pat_link here x q ∷ []) rest) (Some (pat_tree at ls x, ts))

-- a constructor that no brace follows
abbrev pub con_at : List Token → Found GconTree
con_at ts = and_then (gcon_at ts) (λ g rest. cond (begins is_brace rest) None (Some (g, rest)))

abbrev pub number : Pos → Bool → Token → List Token → Found PatOperand
number at minus t ts = Some (operand.Number at minus t, ts)

abbrev pub minus_by : Pos → Token → List Token → Sign → Found PatOperand
minus_by at t ts Number = number at true t ts
minus_by at t ts _ = None

-- behind a minus at this place
abbrev pub minus_number : Pos → List Token → Found PatOperand
minus_number at ts = with_first ts None (minus_by at)

-- at this place: a constructor with what it is applied to, or a pattern by itself
abbrev pub operand_at : PatternReaders → Pos → List Token → Found PatOperand
operand_at r at ts = or_else_by (con_at ts) (λ g rest. and_then (r.apats [] rest) (λ ps last. Some (operand.Applied at g ps, last)))
    (and_then (r.single ts) (λ p rest. Some (operand.Single at p, rest)))

abbrev pub operand_by : PatternReaders → Token → List Token → Sign → Found PatOperand
operand_by r t ts Number = number t.at false t ts
operand_by r t ts Minus = minus_number t.at ts
operand_by r t ts _ = operand_at r t.at (t ∷ ts)

abbrev pub literal : Token → List Token → Found ApatTree
literal t ts = Some (apat.Literal t.at t, ts)

abbrev pub apat_by : PatternReaders → Token → List Token → Sign → Found ApatTree
apat_by r t ts Number = literal t ts
apat_by r t ts _ = or_else_by (con_at (t ∷ ts)) (λ g rest. Some (apat.Con t.at g, rest)) (r.single (t ∷ ts))

abbrev pub as_pattern : Pos → NameRef → ApatTree → ApatTree
as_pattern at n p = apat.Var at n (Some p)

-- a variable, and the pattern behind its @
abbrev pub var_pattern : PatternReaders → Pos → NameRef → List Token → Found ApatTree
var_pattern r at n ts = and_behind (behind is_as ts) (λ b. and_then (r.apat b) (λ p rest. Some (as_pattern at n p, rest))) (Some (apat.Var at n None, ts))

-- the fields behind an opening brace
abbrev pub fields_at : PatternReaders → Pos → NameRef → List Token → Found ApatTree
fields_at r at n ts = and_behind (behind is_close_brace ts) (λ rest. Some (apat.Record at n [], rest))
    (and_then (r.fpats [] ts) (λ fs rest. with_sign (behind is_close_brace rest) (apat.Record at n fs)))

-- the braces behind a constructor
abbrev pub record_pattern : PatternReaders → Pos → NameRef → List Token → Found ApatTree
record_pattern r at n ts = and_behind (behind is_brace ts) (fields_at r at n) None

-- a variable or a constructor at this place, with what is behind it
abbrev pub named_pattern : PatternReaders → Pos → List Token → Found ApatTree
named_pattern r at ts = or_else_by (var_at ts) (var_pattern r at) (and_then (qcon_at ts) (record_pattern r at))

-- a symbol with a closing parenthesis behind it
abbrev pub begins_symbol : List Token → Bool
begins_symbol [] = false
begins_symbol (t ∷ ts) = cond (is_varsym (sign_of t) || is_gconsym (sign_of t)) (begins is_close_paren ts) false

abbrev pub tuple_pattern : Pos → List PatTree → List Token → Found ApatTree
tuple_pattern at ps ts = with_sign (behind is_close_paren ts) (apat.Tuple at ps)

abbrev pub list_pattern : Pos → List PatTree → List Token → Found ApatTree
list_pattern at ps ts = with_sign (behind is_close_square ts) (apat.List at ps)

abbrev pub lazy_pattern : Pos → ApatTree → ApatTree
lazy_pattern at p = apat.Lazy at p

abbrev pub single_by : PatternReaders → Token → List Token → Sign → Found ApatTree
single_by r t ts Quoted = literal t ts
single_by r t ts Wild = Some (apat.Wild t.at, ts)
single_by r t ts OpenParen = cond (begins_symbol ts) (named_pattern r t.at (t ∷ ts)) (and_then (r.patterns [] ts) (tuple_pattern t.at))
single_by r t ts OpenSquare = and_then (r.patterns [] ts) (list_pattern t.at)
single_by r t ts Tilde = and_then (r.apat ts) (λ p rest. Some (lazy_pattern t.at p, rest))
single_by r t ts _ = named_pattern r t.at (t ∷ ts)

-- a field and the = behind it
abbrev pub field_at : List Token → Found NameRef
field_at ts = and_then (qvar_at ts) (λ n rest. with_sign (behind is_equals rest) n)

-- a field with its pattern
abbrev pub fpat_by : PatternReaders → List Token → Found FpatTree
fpat_by r ts = and_then (field_at ts) (λ n rest. and_then (pattern_by r rest) (λ p last. Some (fpat_tree (place ts) n p, last)))

abbrev pub no_patterns : PatternReaders
no_patterns = record { chain = λ at ls ts. None; operand = λ ts. None; apats = λ ps ts. None; apat = λ ts. None; single = λ ts. None; patterns = λ ps ts. None; fpats = λ fs ts. None }

abbrev pub next_patterns : PatternReaders → PatternReaders
next_patterns r = record {
  chain = λ at ls ts. and_then (r.operand ts) (λ x rest. chain_by r at ls (place ts) x rest);
  operand = λ ts. with_first ts None (operand_by r);
  apats = λ ps ts. cond (begins begins_apat ts) (and_then (r.apat ts) (λ p rest. r.apats (ps ++ p ∷ []) rest)) (Some (ps, ts));
  apat = λ ts. with_first ts None (apat_by r);
  single = λ ts. with_first ts None (single_by r);
  patterns = λ ps ts. and_then (pattern_by r ts) (λ p rest. and_behind (behind is_comma rest) (r.patterns (ps ++ p ∷ [])) (Some (ps ++ p ∷ [], rest)));
  fpats = λ fs ts. and_then (fpat_by r ts) (λ f rest. and_behind (behind is_comma rest) (r.fpats (fs ++ f ∷ [])) (Some (fs ++ f ∷ [], rest)));
}

unfoldable pub pattern_readers : ℕ → PatternReaders
pattern_readers zero = no_patterns
pattern_readers (suc n) = next_patterns (pattern_readers n)

-- pattern
abbrev pub pattern_at : ℕ → List Token → Found PatTree
pattern_at n ts = pattern_by (pattern_readers n) ts

-- {apat}
abbrev pub apats_at : ℕ → List Token → Found (List ApatTree)
apats_at n ts = (pattern_readers n).apats [] ts

-- apat {apat}
abbrev pub some_apats : ℕ → List Token → Found (List ApatTree)
some_apats n ts = cond (begins begins_apat ts) (apats_at n ts) None
