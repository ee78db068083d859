-- How names and operators are read.
use Rattle.std.specs.Prelude.{ℕ, suc, Bool, true, false, List, [], ◌∷◌, Some, None, cond}
use Rattle.mk_base.specs.declared.place.Pos.{Pos}
use Rattle.hs_syntax.specs.declared.token.Token.{Token}
use Rattle.hs_syntax.specs.declared.sign.Sign.{Sign}
use Rattle.hs_syntax.specs.declared.sign.Sign.TheVariants.{Var, QualifiedVar, Con, QualifiedCon, Minus, Bang, Star, VarSym, QualifiedVarSym, ConSym, QualifiedConSym, OpenParen, CloseParen, OpenSquare, Comma, Backquote, Colon}
use Rattle.hs_syntax.specs.declared.name_ref.NameRef.{NameRef}
use Rattle.hs_syntax.specs.declared.name_ref.OpName.{OpName}
use Rattle.hs_syntax.specs.declared.name_ref.QopTree.{QopTree}
use Rattle.hs_syntax.specs.declared.name_ref.QopTree.TheVariants as qop
use Rattle.hs_syntax.specs.declared.pattern_tree.GconTree.{GconTree}
use Rattle.hs_syntax.specs.declared.pattern_tree.GconTree.TheVariants as gcon
use Rattle.hs_syntax.specs.Signs.{sign_of}
use Rattle.hs_syntax.specs.Names.{name_ref}
use Rattle.hs_syntax.specs.Reading.{Found, and_then, or_else_by, with_first, behind, with_sign, is_comma, is_close_paren, is_close_square, is_backquote}
use Rattle.hs_parts.specs.declared.names.Sort.{Sort}
use Rattle.hs_parts.specs.declared.names.Sort.TheVariants as sort
use Rattle.hs_parts.specs.Names.{is_varsym, is_qvarsym, is_gconsym, is_qvarid, is_qconid}

abbrev pub is_varid : Sign → Bool
is_varid Var = true
is_varid _ = false

abbrev pub is_conid : Sign → Bool
is_conid Con = true
is_conid _ = false

-- consym, without qualifier
abbrev pub is_consym : Sign → Bool
is_consym ConSym = true
is_consym _ = false

-- whether a sign is of a sort of names
abbrev pub fits : Sort → Sign → Bool
fits sort.VarId = is_varid
fits sort.QualifiedVarId = is_qvarid
fits sort.ConId = is_conid
fits sort.QualifiedConId = is_qconid
fits sort.VarSymbol = is_varsym
fits sort.QualifiedVarSymbol = is_qvarsym
fits sort.ConSymbol = is_gconsym

abbrev pub named : Token → List Token → Found NameRef
named t ts = Some (name_ref t, ts)

-- a name of some sort with a sign behind it
abbrev pub name_before : (Sign → Bool) → (Sign → Bool) → List Token → Found NameRef
name_before close p ts = with_first ts None (λ t rest k. cond (p k) (with_sign (behind close rest) (name_ref t)) None)

-- behind an opening parenthesis: a name of some sort, and the closing one
abbrev pub in_parens : (Sign → Bool) → List Token → Found NameRef
in_parens p ts = name_before is_close_paren p ts

-- behind a backquote: a name of some sort, and the other one
abbrev pub in_quotes : (Sign → Bool) → List Token → Found NameRef
in_quotes p ts = name_before is_backquote p ts

abbrev pub var_by : Token → List Token → Sign → Found NameRef
var_by t ts Var = named t ts
var_by t ts OpenParen = in_parens is_varsym ts
var_by t ts _ = None

-- var
abbrev pub var_at : List Token → Found NameRef
var_at ts = with_first ts None var_by

abbrev pub qvar_by : Token → List Token → Sign → Found NameRef
qvar_by t ts Var = named t ts
qvar_by t ts QualifiedVar = named t ts
qvar_by t ts OpenParen = in_parens is_qvarsym ts
qvar_by t ts _ = None

-- qvar
abbrev pub qvar_at : List Token → Found NameRef
qvar_at ts = with_first ts None qvar_by

abbrev pub qcon_by : Token → List Token → Sign → Found NameRef
qcon_by t ts Con = named t ts
qcon_by t ts QualifiedCon = named t ts
qcon_by t ts OpenParen = in_parens is_gconsym ts
qcon_by t ts _ = None

-- qcon
abbrev pub qcon_at : List Token → Found NameRef
qcon_at ts = with_first ts None qcon_by

-- as many commas as there are
abbrev pub commas_from : List Token → ℕ → ℕ × List Token
commas_from [] = λ n. (n, [])
commas_from (t ∷ ts) = λ n. cond (is_comma (sign_of t)) (commas_from ts (suc n)) (n, t ∷ ts)

-- behind the first comma in parentheses: how many there are, and the closing parenthesis
abbrev pub more_commas : List Token → Found ℕ
more_commas ts = with_sign (behind is_close_paren (commas_from ts 1).1) (commas_from ts 1).0

abbrev pub named_con : Pos → Token → List Token → Found GconTree
named_con at t ts = Some (gcon.Con at (name_ref t), ts)

abbrev pub paren_con_by : Pos → Token → List Token → Sign → Found GconTree
paren_con_by at t ts CloseParen = Some (gcon.Unit at, ts)
paren_con_by at t ts Comma = and_then (more_commas ts) (λ n rest. Some (gcon.Tuple at n, rest))
paren_con_by at t ts _ = and_then (in_parens is_gconsym (t ∷ ts)) (λ n rest. Some (gcon.Con at n, rest))

-- behind an opening parenthesis at this place
abbrev pub paren_con : Pos → List Token → Found GconTree
paren_con at ts = with_first ts None (paren_con_by at)

abbrev pub gcon_by : Token → List Token → Sign → Found GconTree
gcon_by t ts Con = named_con t.at t ts
gcon_by t ts QualifiedCon = named_con t.at t ts
gcon_by t ts OpenParen = paren_con t.at ts
gcon_by t ts OpenSquare = with_sign (behind is_close_square ts) (gcon.List t.at)
gcon_by t ts _ = None

-- gcon
abbrev pub gcon_at : List Token → Found GconTree
gcon_at ts = with_first ts None gcon_by

abbrev pub var_op : Pos → Token → List Token → Found QopTree
var_op at t ts = Some (qop.Var at (name_ref t), ts)

abbrev pub con_op : Pos → Token → List Token → Found QopTree
con_op at t ts = Some (qop.Con at (name_ref t), ts)

-- behind the backquote of an operator at this place: a variable of some sort or a constructor of some sort
abbrev pub quoted_op : Pos → (Sign → Bool) → (Sign → Bool) → List Token → Found QopTree
quoted_op at p q ts = or_else_by (in_quotes p ts) (λ n rest. Some (qop.Var at n, rest)) (and_then (in_quotes q ts) (λ n rest. Some (qop.Con at n, rest)))

abbrev pub qop_by : Token → List Token → Sign → Found QopTree
qop_by t ts Backquote = quoted_op t.at is_qvarid is_qconid ts
qop_by t ts k = cond (is_qvarsym k) (var_op t.at t ts) (cond (is_gconsym k) (con_op t.at t ts) None)

-- qop
abbrev pub qop_at : List Token → Found QopTree
qop_at ts = with_first ts None qop_by

-- an operator with its place
abbrev pub op_name : Pos → NameRef → OpName
op_name at name = record { at = at; name = name }

abbrev pub named_op : Pos → Token → List Token → Found OpName
named_op at t ts = Some (op_name at (name_ref t), ts)

-- behind the backquote of an operator at this place
abbrev pub quoted_name : Pos → (Sign → Bool) → List Token → Found OpName
quoted_name at p ts = and_then (in_quotes p ts) (λ n rest. Some (op_name at n, rest))

abbrev pub qconop_by : Token → List Token → Sign → Found OpName
qconop_by t ts Backquote = quoted_name t.at is_qconid ts
qconop_by t ts k = cond (is_gconsym k) (named_op t.at t ts) None

-- qconop
abbrev pub qconop_at : List Token → Found OpName
qconop_at ts = with_first ts None qconop_by

abbrev pub varop_by : Token → List Token → Sign → Found OpName
varop_by t ts Backquote = quoted_name t.at is_varid ts
varop_by t ts k = cond (is_varsym k) (named_op t.at t ts) None

-- varop
abbrev pub varop_at : List Token → Found OpName
varop_at ts = with_first ts None varop_by

abbrev pub op_by : Token → List Token → Sign → Found QopTree
op_by t ts Backquote = quoted_op t.at is_varid is_conid ts
op_by t ts ConSym = con_op t.at t ts
op_by t ts k = cond (is_varsym k) (var_op t.at t ts) None

-- op
abbrev pub op_at : List Token → Found QopTree
op_at ts = with_first ts None op_by
