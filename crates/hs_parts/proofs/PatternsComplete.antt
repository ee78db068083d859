-- What is derived as a pattern is read as it.
use Rattle.std.proofs.Common.{◌≡◌, ℕ, suc, zero, ◌+◌, ◌*◌, ◌<◌, ◌≤◌, Bool, true, false, cond, ◌||◌, List, [], ◌∷◌, ◌++◌, length, Some, None, refl, sym, ap, ◌∙◌, append_assoc, subst, arith}
use Rattle.std.proofs.lemmas.List.{append-nil}
use Rattle.mk_base.specs.declared.place.Pos.{Pos}
use Rattle.hs_syntax.specs.declared.token.Token.{Token}
use Rattle.hs_syntax.specs.declared.sign.Sign.{Sign}
use Rattle.hs_syntax.specs.declared.sign.Sign.TheVariants.{Var, QualifiedVar, Con, QualifiedCon, Minus, Bang, Star, VarSym, QualifiedVarSym, ConSym, QualifiedConSym, Colon, Number, Quoted, OpenBrace, CloseBrace, OpenParen, CloseParen, OpenSquare, CloseSquare, Comma, Backquote, Wild, Equals, As, Tilde}
use Rattle.hs_syntax.specs.declared.name_ref.NameRef.{NameRef}
use Rattle.hs_syntax.specs.declared.name_ref.OpName.{OpName}
use Rattle.hs_syntax.specs.declared.pattern_tree.GconTree.{GconTree}
use Rattle.hs_syntax.specs.declared.pattern_tree.GconTree.TheVariants as gcon
use Rattle.hs_syntax.specs.declared.pattern_tree.PatTree.{PatTree}
use Rattle.hs_syntax.specs.declared.pattern_tree.PatLink.{PatLink}
use Rattle.hs_syntax.specs.declared.pattern_tree.PatOperand.{PatOperand}
use Rattle.hs_syntax.specs.declared.pattern_tree.PatOperand.TheVariants as operand
use Rattle.hs_syntax.specs.declared.pattern_tree.ApatTree.{ApatTree}
use Rattle.hs_syntax.specs.declared.pattern_tree.ApatTree.TheVariants as apat
use Rattle.hs_syntax.specs.declared.pattern_tree.FpatTree.{FpatTree}
use Rattle.hs_syntax.specs.Signs.{sign_of}
use Rattle.hs_syntax.specs.Names.{name_ref}
use Rattle.hs_syntax.specs.Reading.{Found, and_then, or_else_by, with_first, begins, behind, and_behind, with_sign, is_comma, is_close_paren, is_close_square, is_equals}
use Rattle.hs_syntax.specs.Made.{pat_tree, pat_link, fpat_tree}
use Rattle.hs_parts.specs.Names.{place, is_varsym, is_gconsym, is_qvarid, is_qconid}
use Rattle.hs_parts.specs.Names.{IsVar, VarIdVar, VarSymVar, IsQvar, VarIdQvar, VarSymQvar, IsQcon, ConIdQcon, ConSymQcon, IsCommas, LastComma, MoreCommas, IsGcon, ConGcon, UnitGcon, ListGcon, TupleGcon, IsQconop, ConSymQconop, ConIdQconop, IsVarop, VarSymVarop, VarIdVarop}
use Rattle.hs_parts.specs.NameReaders.{var_by, var_at, qvar_at, qcon_at, in_parens, paren_con_by, paren_con, gcon_by, gcon_at, is_varid, in_quotes, quoted_name, op_name, named_op, qconop_by, qconop_at, named_con}
use Rattle.hs_parts.specs.PatternReaders.{PatternReaders, pattern_readers, no_patterns, next_patterns, begins_apat, is_as, is_brace, is_close_brace, pattern_by, chain_by, con_at, minus_by, minus_number, operand_at, operand_by, apat_by, as_pattern, var_pattern}
use Rattle.hs_parts.specs.PatternReaders.{fields_at, record_pattern, named_pattern, begins_symbol, tuple_pattern, list_pattern, lazy_pattern, single_by, field_at, fpat_by, pattern_at, apats_at, some_apats, number, literal}
use Rattle.hs_parts.specs.Grammar.{IsPattern, ChainPattern, IsOperands, LastOperand, MoreOperands, IsOperand, NumberOperand, MinusOperand, AppliedOperand, SingleOperand, IsApats, NoApats, MoreApats, IsApat, ConApat, NumberApat, SingleApat}
use Rattle.hs_parts.specs.Grammar.{IsSingle, VarSingle, AsSingle, EmptySingle, RecordSingle, QuotedSingle, WildSingle, TupleSingle, ListSingle, LazySingle, IsPatterns, LastPattern, MorePatterns, IsFpats, LastFpat, MoreFpats, IsFpat, FieldFpat}
use Rattle.hs_parts.proofs.NamesComplete.{var_shorter, qvar_shorter, qcon_shorter, gcon_shorter, qconop_shorter, var_complete, qvar_complete, qcon_complete, gcon_complete, qconop_complete}
use Rattle.hs_parts.proofs.TypesComplete.{no_sign}

-- Each derivation takes at least a token.
mutual
  pub pattern_shorter : {a b : List Token} {p : PatTree} → IsPattern a b p → length b < length a
  pattern_shorter (ChainPattern d) = operands_shorter d

  pub operands_shorter : {a b : List Token} {ls : List PatLink} {x : PatOperand} → IsOperands a b ls x → length b < length a
  operands_shorter (LastOperand d) = operand_shorter d
  operands_shorter (MoreOperands {a} {b} {c} {d} x q r) =
      let h : length b < length a = operand_shorter x in let k : length c < length b = qconop_shorter q in let l : length d < length c = operands_shorter r in omega arith

  pub operand_shorter : {a b : List Token} {x : PatOperand} → IsOperand a b x → length b < length a
  operand_shorter (NumberOperand e) = omega arith
  operand_shorter (MinusOperand e f) = omega arith
  operand_shorter (AppliedOperand {a} {b} {c} g d) = let h : length b < length a = gcon_shorter g in let k : length c ≤ length b = apats_shorter d in omega arith
  operand_shorter (SingleOperand d) = single_shorter d

  pub apats_shorter : {a b : List Token} {ps : List ApatTree} → IsApats a b ps → length b ≤ length a
  apats_shorter NoApats = omega arith
  apats_shorter (MoreApats {a} {b} {c} d r) = let h : length b < length a = apat_shorter d in let k : length c ≤ length b = apats_shorter r in omega arith

  pub apat_shorter : {a b : List Token} {p : ApatTree} → IsApat a b p → length b < length a
  apat_shorter (ConApat g) = gcon_shorter g
  apat_shorter (NumberApat e) = omega arith
  apat_shorter (SingleApat d) = single_shorter d

  pub single_shorter : {a b : List Token} {p : ApatTree} → IsSingle a b p → length b < length a
  single_shorter (VarSingle d) = var_shorter d
  single_shorter (AsSingle {a} {b} {c} {t} d e r) = let h : length (t ∷ b) < length a = var_shorter d in let k : length c < length b = apat_shorter r in omega arith
  single_shorter (EmptySingle {a} {b} {o} {c} d e f) = let h : length (o ∷ c ∷ b) < length a = qcon_shorter d in omega arith
  single_shorter (RecordSingle {a} {b} {d} {o} {c} x e r f) = let h : length (o ∷ b) < length a = qcon_shorter x in let k : length (c ∷ d) < length b = fpats_shorter r in omega arith
  single_shorter (QuotedSingle e) = omega arith
  single_shorter (WildSingle e) = omega arith
  single_shorter (TupleSingle {a} {b} {o} {c} e d f) = let h : length (c ∷ b) < length a = patterns_shorter d in omega arith
  single_shorter (ListSingle {a} {b} {o} {c} e d f) = let h : length (c ∷ b) < length a = patterns_shorter d in omega arith
  single_shorter (LazySingle {a} {b} e d) = let h : length b < length a = apat_shorter d in omega arith

  pub patterns_shorter : {a b : List Token} {ps : List PatTree} → IsPatterns a b ps → length b < length a
  patterns_shorter (LastPattern d) = pattern_shorter d
  patterns_shorter (MorePatterns {a} {b} {c} {m} d e r) = let h : length (m ∷ b) < length a = pattern_shorter d in let k : length c < length b = patterns_shorter r in omega arith

  pub fpats_shorter : {a b : List Token} {fs : List FpatTree} → IsFpats a b fs → length b < length a
  fpats_shorter (LastFpat d) = fpat_shorter d
  fpats_shorter (MoreFpats {a} {b} {c} {m} d e r) = let h : length (m ∷ b) < length a = fpat_shorter d in let k : length c < length b = fpats_shorter r in omega arith

  pub fpat_shorter : {a b : List Token} {f : FpatTree} → IsFpat a b f → length b < length a
  fpat_shorter (FieldFpat {a} {b} {c} {t} x e r) = let h : length (t ∷ b) < length a = qvar_shorter x in let k : length c < length b = pattern_shorter r in omega arith

-- What patterns begin with

-- an apat that is no number
abbrev pub begins_single : Sign → Bool
begins_single Number = false
begins_single k = begins_apat k

-- an operand
abbrev pub begins_operand : Sign → Bool
begins_operand Minus = true
begins_operand k = begins_apat k

single_is_apat : (k : Sign) → begins_single k ≡ true → begins_apat k ≡ true
single_is_apat Number e = refl
single_is_apat k e = e

apat_is_operand : (k : Sign) → begins_apat k ≡ true → begins_operand k ≡ true
apat_is_operand Minus e = refl
apat_is_operand k e = e

pub to_apat : (a : List Token) → begins begins_single a ≡ true → begins begins_apat a ≡ true
to_apat [] e = e
to_apat (t ∷ a) e = single_is_apat (sign_of t) e

pub to_operand : (a : List Token) → begins begins_apat a ≡ true → begins begins_operand a ≡ true
to_operand [] e = e
to_operand (t ∷ a) e = apat_is_operand (sign_of t) e

qconid_starts : (k : Sign) → is_qconid k ≡ true → begins_single k ≡ true
qconid_starts Con e = refl
qconid_starts QualifiedCon e = refl
qconid_starts _ e = cc

pub var_start : {a b : List Token} {n : NameRef} → IsVar a b n → begins begins_single a ≡ true
var_start (VarIdVar e) = ap begins_single e
var_start (VarSymVar e f g) = ap begins_single e

pub qcon_start : {a b : List Token} {n : NameRef} → IsQcon a b n → begins begins_single a ≡ true
qcon_start (ConIdQcon {t = t} e) = qconid_starts (sign_of t) e
qcon_start (ConSymQcon e f g) = ap begins_single e

pub gcon_start : {a b : List Token} {g : GconTree} → IsGcon a b g → begins begins_single a ≡ true
gcon_start (ConGcon x) = qcon_start x
gcon_start (UnitGcon e f) = ap begins_single e
gcon_start (ListGcon e f) = ap begins_single e
gcon_start (TupleGcon e x f) = ap begins_single e

pub single_start : {a b : List Token} {p : ApatTree} → IsSingle a b p → begins begins_single a ≡ true
single_start (VarSingle x) = var_start x
single_start (AsSingle x e y) = var_start x
single_start (EmptySingle x e f) = qcon_start x
single_start (RecordSingle x e y f) = qcon_start x
single_start (QuotedSingle e) = ap begins_single e
single_start (WildSingle e) = ap begins_single e
single_start (TupleSingle e x f) = ap begins_single e
single_start (ListSingle e x f) = ap begins_single e
single_start (LazySingle e x) = ap begins_single e

pub apat_start : {a b : List Token} {p : ApatTree} → IsApat a b p → begins begins_apat a ≡ true
apat_start (ConApat {a = a} g) = to_apat a (gcon_start g)
apat_start (NumberApat e) = ap begins_apat e
apat_start (SingleApat {a = a} x) = to_apat a (single_start x)

pub operand_start : {a b : List Token} {x : PatOperand} → IsOperand a b x → begins begins_operand a ≡ true
operand_start (NumberOperand e) = ap begins_operand e
operand_start (MinusOperand e f) = ap begins_operand e
operand_start (AppliedOperand {a = a} g y) = to_operand a (to_apat a (gcon_start g))
operand_start (SingleOperand {a = a} y) = to_operand a (to_apat a (single_start y))

pub operands_start : {a b : List Token} {ls : List PatLink} {x : PatOperand} → IsOperands a b ls x → begins begins_operand a ≡ true
operands_start (LastOperand x) = operand_start x
operands_start (MoreOperands x q y) = operand_start x

pub pattern_start : {a b : List Token} {p : PatTree} → IsPattern a b p → begins begins_operand a ≡ true
pattern_start (ChainPattern x) = operands_start x

pub patterns_start : {a b : List Token} {ps : List PatTree} → IsPatterns a b ps → begins begins_operand a ≡ true
patterns_start (LastPattern x) = pattern_start x
patterns_start (MorePatterns x e y) = pattern_start x

-- What patterns go on with

-- behind an apat
abbrev pub apat_goes_on : Sign → Bool
apat_goes_on As = true
apat_goes_on (OpenBrace put) = true
apat_goes_on _ = false

-- behind apats
abbrev pub apats_go_on : Sign → Bool
apats_go_on As = true
apats_go_on (OpenBrace put) = true
apats_go_on k = begins_apat k

-- no pattern goes on here
pub record PatternEnds (b : List Token) : Type 0 where
  pub apats : begins apats_go_on b ≡ false
  pub operator : qconop_at b ≡ None

-- a sign that a pattern doesn't go on with; for a certain sign the last two are `refl`
pub pattern_ends : (t : Token) (b : List Token) (k : Sign) → sign_of t ≡ k → apats_go_on k ≡ false → qconop_by t b k ≡ None → PatternEnds (t ∷ b)
pattern_ends t b k e f g = record { apats = ap apats_go_on e ∙ f; operator = ap (qconop_by t b) e ∙ g }

apats_end_apat : (k : Sign) → apats_go_on k ≡ false → apat_goes_on k ≡ false
apats_end_apat As e = cc
apats_end_apat (OpenBrace put) e = cc
apats_end_apat _ e = refl

pub apat_ends : (b : List Token) → begins apats_go_on b ≡ false → begins apat_goes_on b ≡ false
apat_ends [] e = e
apat_ends (t ∷ b) e = apats_end_apat (sign_of t) e

no_more_apats : (k : Sign) → apats_go_on k ≡ false → begins_apat k ≡ false
no_more_apats As e = refl
no_more_apats (OpenBrace put) e = refl
no_more_apats k e = e

pub no_apat : (b : List Token) → begins apats_go_on b ≡ false → begins begins_apat b ≡ false
no_apat [] e = e
no_apat (t ∷ b) e = no_more_apats (sign_of t) e

apat_behind_apat : (k : Sign) → begins_apat k ≡ true → apat_goes_on k ≡ false
apat_behind_apat As e = cc
apat_behind_apat (OpenBrace put) e = cc
apat_behind_apat _ e = refl

apat_first : (b : List Token) → begins begins_apat b ≡ true → begins apat_goes_on b ≡ false
apat_first [] e = refl
apat_first (t ∷ b) e = apat_behind_apat (sign_of t) e

pub apats_front : {a b : List Token} {ps : List ApatTree} → IsApats a b ps → begins apats_go_on b ≡ false → begins apat_goes_on a ≡ false
apats_front (NoApats {a}) e = apat_ends a e
apats_front (MoreApats {a = a} x y) e = apat_first a (apat_start x)

no_as_by : (k : Sign) → apat_goes_on k ≡ false → is_as k ≡ false
no_as_by As e = cc
no_as_by _ e = refl

no_as : (b : List Token) → begins apat_goes_on b ≡ false → begins is_as b ≡ false
no_as [] e = e
no_as (t ∷ b) e = no_as_by (sign_of t) e

no_brace_by : (k : Sign) → apat_goes_on k ≡ false → is_brace k ≡ false
no_brace_by (OpenBrace put) e = cc
no_brace_by _ e = refl

no_brace : (b : List Token) → begins apat_goes_on b ≡ false → begins is_brace b ≡ false
no_brace [] e = e
no_brace (t ∷ b) e = no_brace_by (sign_of t) e

consym_ends : (k : Sign) → is_gconsym k ≡ true → apats_go_on k ≡ false
consym_ends Colon e = refl
consym_ends ConSym e = refl
consym_ends QualifiedConSym e = refl
consym_ends _ e = cc

pub qconop_ends : {a b : List Token} {q : OpName} → IsQconop a b q → begins apats_go_on a ≡ false
qconop_ends (ConSymQconop {t = t} e) = consym_ends (sign_of t) e
qconop_ends (ConIdQconop e f g) = ap apats_go_on e

-- Which alternative begins

conid_no_var : (t : Token) (a : List Token) (k : Sign) → is_qconid k ≡ true → var_by t a k ≡ None
conid_no_var t a Con e = refl
conid_no_var t a QualifiedCon e = refl
conid_no_var t a _ e = cc

consym_no_varsym : (k : Sign) → is_gconsym k ≡ true → is_varsym k ≡ false
consym_no_varsym Colon e = refl
consym_no_varsym ConSym e = refl
consym_no_varsym QualifiedConSym e = refl
consym_no_varsym _ e = cc

varsym_no_consym : (k : Sign) → is_varsym k ≡ true → is_gconsym k ≡ false
varsym_no_consym Minus e = refl
varsym_no_consym Bang e = refl
varsym_no_consym Star e = refl
varsym_no_consym VarSym e = refl
varsym_no_consym _ e = cc

-- no such symbol in parentheses
no_symbol : (p : Sign → Bool) (t : Token) (a : List Token) → p (sign_of t) ≡ false → in_parens p (t ∷ a) ≡ None
no_symbol p t a e = ap (λ b. let m : Found NameRef = cond b (with_sign (behind is_close_paren a) (name_ref t)) None in m) e

pub qcon_no_var : {a b : List Token} {n : NameRef} → IsQcon a b n → var_at a ≡ None
qcon_no_var (ConIdQcon {a = a} {t = t} e) = conid_no_var t a (sign_of t) e
qcon_no_var (ConSymQcon {a = a} {o = o} {t = t} {c = c} e f g) = ap (var_by o (t ∷ c ∷ a)) e ∙ no_symbol is_varsym t (c ∷ a) (consym_no_varsym (sign_of t) f)

varsym_paren : (at : Pos) (t : Token) (a : List Token) (k : Sign) → is_varsym k ≡ true → paren_con_by at t a k ≡ and_then (in_parens is_gconsym (t ∷ a)) (λ n rest. Some (gcon.Con at n, rest))
varsym_paren at t a CloseParen e = cc
varsym_paren at t a Comma e = cc
varsym_paren at t a _ e = refl

pub var_no_gcon : {a b : List Token} {n : NameRef} → IsVar a b n → gcon_at a ≡ None
var_no_gcon (VarIdVar {a = a} {t = t} e) = ap (gcon_by t a) e
var_no_gcon (VarSymVar {a = a} {o = o} {t = t} {c = c} e f g) = ap (gcon_by o (t ∷ c ∷ a)) e ∙ varsym_paren o.at t (c ∷ a) (sign_of t) f
    ∙ ap (λ m. and_then m (λ n rest. let r : Found GconTree = Some (gcon.Con o.at n, rest) in r)) (no_symbol is_gconsym t (c ∷ a) (varsym_no_consym (sign_of t) f))

pub operand_no_consym : (k : Sign) → begins_operand k ≡ true → is_gconsym k ≡ false
operand_no_consym Colon e = cc
operand_no_consym ConSym e = cc
operand_no_consym QualifiedConSym e = cc
operand_no_consym _ e = refl

operand_paren : (at : Pos) (t : Token) (a : List Token) (k : Sign) → begins_operand k ≡ true → paren_con_by at t a k ≡ and_then (in_parens is_gconsym (t ∷ a)) (λ n rest. Some (gcon.Con at n, rest))
operand_paren at t a CloseParen e = cc
operand_paren at t a Comma e = cc
operand_paren at t a _ e = refl

-- no constructor is in parentheses where an operand begins behind the first
operand_no_con : (at : Pos) (a : List Token) → begins begins_operand a ≡ true → paren_con at a ≡ None
operand_no_con at [] e = refl
operand_no_con at (t ∷ a) e = operand_paren at t a (sign_of t) e
    ∙ ap (λ m. and_then m (λ n rest. let r : Found GconTree = Some (gcon.Con at n, rest) in r)) (no_symbol is_gconsym t a (operand_no_consym (sign_of t) e))

operand_no_square : (k : Sign) → begins_operand k ≡ true → is_close_square k ≡ false
operand_no_square CloseSquare e = cc
operand_no_square _ e = refl

operand_not_closed : (at : Pos) (a : List Token) → begins begins_operand a ≡ true → with_sign (behind is_close_square a) (gcon.List at) ≡ None
operand_not_closed at [] e = refl
operand_not_closed at (t ∷ a) e = ap (λ b. with_sign (cond b (Some a) None) (gcon.List at)) (operand_no_square (sign_of t) e)

-- a single pattern is no constructor that no brace follows
no_con : (a : List Token) → gcon_at a ≡ None → con_at a ≡ None
no_con a e = ap (λ m. and_then m (λ g rest. let r : Found GconTree = cond (begins is_brace rest) None (Some (g, rest)) in r)) e

braced_con : {a b : List Token} {o : Token} {n : NameRef} → IsQcon a (o ∷ b) n → sign_of o ≡ OpenBrace false → con_at a ≡ None
braced_con {a = a} {b = b} {o = o} {n = n} x e = ap (λ m. and_then m (λ g rest. let r : Found GconTree = cond (begins is_brace rest) None (Some (g, rest)) in r)) (gcon_complete (ConGcon x))
    ∙ ap (λ k. let r : Found GconTree = cond (is_brace k) None (Some (gcon.Con (place a) n, o ∷ b)) in r) e

pub single_no_con : {a b : List Token} {p : ApatTree} → IsSingle a b p → con_at a ≡ None
single_no_con (VarSingle {a = a} x) = no_con a (var_no_gcon x)
single_no_con (AsSingle {a = a} x e y) = no_con a (var_no_gcon x)
single_no_con (EmptySingle x e f) = braced_con x e
single_no_con (RecordSingle x e y f) = braced_con x e
single_no_con (QuotedSingle {a = a} {t = t} e) = no_con (t ∷ a) (ap (gcon_by t a) e)
single_no_con (WildSingle {a = a} {t = t} e) = no_con (t ∷ a) (ap (gcon_by t a) e)
single_no_con (TupleSingle {a = a} {o = o} e x f) = no_con (o ∷ a) (ap (gcon_by o a) e ∙ operand_no_con o.at a (patterns_start x))
single_no_con (ListSingle {a = a} {o = o} e x f) = no_con (o ∷ a) (ap (gcon_by o a) e ∙ operand_not_closed o.at a (patterns_start x))
single_no_con (LazySingle {a = a} {t = t} e x) = no_con (t ∷ a) (ap (gcon_by t a) e)

pub con_complete : {a b : List Token} {g : GconTree} → IsGcon a b g → begins apat_goes_on b ≡ false → con_at a ≡ Some (g, b)
con_complete {b = b} {g = g} x e = ap (λ m. and_then m (λ h rest. let r : Found GconTree = cond (begins is_brace rest) None (Some (h, rest)) in r)) (gcon_complete x)
    ∙ ap (λ c. let r : Found GconTree = cond c None (Some (g, b)) in r) (no_brace b e)

-- patterns begin with no symbol that a parenthesis follows
apat_no_symbol_by : (k : Sign) → begins_apat k ≡ true → (is_varsym k || is_gconsym k) ≡ false
apat_no_symbol_by Var e = refl
apat_no_symbol_by Con e = refl
apat_no_symbol_by QualifiedCon e = refl
apat_no_symbol_by Number e = refl
apat_no_symbol_by Quoted e = refl
apat_no_symbol_by Wild e = refl
apat_no_symbol_by OpenParen e = refl
apat_no_symbol_by OpenSquare e = refl
apat_no_symbol_by Tilde e = refl
apat_no_symbol_by _ e = cc

pub apat_no_symbol : (a : List Token) → begins begins_apat a ≡ true → begins_symbol a ≡ false
apat_no_symbol [] e = refl
apat_no_symbol (t ∷ a) e = ap (λ b. cond b (begins is_close_paren a) false) (apat_no_symbol_by (sign_of t) e)

operand_no_symbol : {a b : List Token} {x : PatOperand} → IsOperand a b x → begins_symbol a ≡ false
operand_no_symbol (NumberOperand {a = a} {t = t} e) = apat_no_symbol (t ∷ a) (ap begins_apat e)
operand_no_symbol (MinusOperand {a = a} {m = m} {t = t} e f) = ap (λ k. cond (is_varsym k || is_gconsym k) (is_close_paren (sign_of t)) false) e ∙ ap is_close_paren f
operand_no_symbol (AppliedOperand {a = a} g y) = apat_no_symbol a (to_apat a (gcon_start g))
operand_no_symbol (SingleOperand {a = a} y) = apat_no_symbol a (to_apat a (single_start y))

pub pattern_no_symbol : {a b : List Token} {p : PatTree} → IsPattern a b p → begins_symbol a ≡ false
pattern_no_symbol (ChainPattern (LastOperand x)) = operand_no_symbol x
pattern_no_symbol (ChainPattern (MoreOperands x q y)) = operand_no_symbol x

patterns_no_symbol : {a b : List Token} {ps : List PatTree} → IsPatterns a b ps → begins_symbol a ≡ false
patterns_no_symbol (LastPattern x) = pattern_no_symbol x
patterns_no_symbol (MorePatterns x e y) = pattern_no_symbol x

-- a symbol with its parenthesis is one
varsym_symbol : (k : Sign) → is_varsym k ≡ true → (is_varsym k || is_gconsym k) ≡ true
varsym_symbol Minus e = refl
varsym_symbol Bang e = refl
varsym_symbol Star e = refl
varsym_symbol VarSym e = refl
varsym_symbol _ e = cc

consym_symbol : (k : Sign) → is_gconsym k ≡ true → (is_varsym k || is_gconsym k) ≡ true
consym_symbol Colon e = refl
consym_symbol ConSym e = refl
consym_symbol QualifiedConSym e = refl
consym_symbol _ e = cc

symbol_closed : (t c : Token) (a : List Token) → (is_varsym (sign_of t) || is_gconsym (sign_of t)) ≡ true → sign_of c ≡ CloseParen → begins_symbol (t ∷ c ∷ a) ≡ true
symbol_closed t c a e f = ap (λ b. cond b (is_close_paren (sign_of c)) false) e ∙ ap is_close_paren f

conid_named : (r : PatternReaders) (t : Token) (a : List Token) (k : Sign) → is_qconid k ≡ true → single_by r t a k ≡ named_pattern r t.at (t ∷ a)
conid_named r t a Con e = refl
conid_named r t a QualifiedCon e = refl
conid_named r t a _ e = cc

paren_named : (r : PatternReaders) (o : Token) (a : List Token) → sign_of o ≡ OpenParen → begins_symbol a ≡ true → single_by r o a (sign_of o) ≡ named_pattern r o.at (o ∷ a)
paren_named r o a e f = ap (single_by r o a) e ∙ ap (λ b. cond b (named_pattern r o.at (o ∷ a)) (and_then (r.patterns [] a) (tuple_pattern o.at))) f

var_named : (r : PatternReaders) {a b : List Token} {n : NameRef} → IsVar a b n → with_first a None (single_by r) ≡ var_pattern r (place a) n b
var_named r (VarIdVar {a = a} {t = t} e) = ap (single_by r t a) e
    ∙ ap (λ m. or_else_by m (var_pattern r t.at) (and_then (qcon_at (t ∷ a)) (record_pattern r t.at))) (var_complete (VarIdVar {a = a} {t = t} e))
var_named r (VarSymVar {a = a} {o = o} {t = t} {c = c} e f g) = paren_named r o (t ∷ c ∷ a) e (symbol_closed t c a (varsym_symbol (sign_of t) f) g)
    ∙ ap (λ m. or_else_by m (var_pattern r o.at) (and_then (qcon_at (o ∷ t ∷ c ∷ a)) (record_pattern r o.at))) (var_complete (VarSymVar {a = a} {o = o} {t = t} {c = c} e f g))

qcon_pattern : (r : PatternReaders) {a b : List Token} {n : NameRef} → IsQcon a b n → named_pattern r (place a) a ≡ record_pattern r (place a) n b
qcon_pattern r {a = a} x = ap (λ m. or_else_by m (var_pattern r (place a)) (and_then (qcon_at a) (record_pattern r (place a)))) (qcon_no_var x)
    ∙ ap (λ m. and_then m (record_pattern r (place a))) (qcon_complete x)

qcon_named : (r : PatternReaders) {a b : List Token} {n : NameRef} → IsQcon a b n → with_first a None (single_by r) ≡ record_pattern r (place a) n b
qcon_named r (ConIdQcon {a = a} {t = t} e) = conid_named r t a (sign_of t) e ∙ qcon_pattern r (ConIdQcon {a = a} {t = t} e)
qcon_named r (ConSymQcon {a = a} {o = o} {t = t} {c = c} e f g) = paren_named r o (t ∷ c ∷ a) e (symbol_closed t c a (consym_symbol (sign_of t) f) g)
    ∙ qcon_pattern r (ConSymQcon {a = a} {o = o} {t = t} {c = c} e f g)

single_operand : (r : PatternReaders) (t : Token) (a : List Token) (k : Sign) → begins_single k ≡ true → operand_by r t a k ≡ operand_at r t.at (t ∷ a)
single_operand r t a Number e = cc
single_operand r t a Minus e = cc
single_operand r t a _ e = refl

operand_other : (r : PatternReaders) (a : List Token) → begins begins_single a ≡ true → with_first a None (operand_by r) ≡ operand_at r (place a) a
operand_other r [] e = cc
operand_other r (t ∷ a) e = single_operand r t a (sign_of t) e

-- an apat that is no number
abbrev other_apat : PatternReaders → List Token → Found ApatTree
other_apat r a = or_else_by (con_at a) (λ g rest. Some (apat.Con (place a) g, rest)) (r.single a)

single_apat : (r : PatternReaders) (t : Token) (a : List Token) (k : Sign) → begins_single k ≡ true → apat_by r t a k ≡ other_apat r (t ∷ a)
single_apat r t a Number e = cc
single_apat r t a _ e = refl

apat_other : (r : PatternReaders) (a : List Token) → begins begins_single a ≡ true → with_first a None (apat_by r) ≡ other_apat r a
apat_other r [] e = cc
apat_other r (t ∷ a) e = single_apat r t a (sign_of t) e

-- Each derivation is read

pub record CompletePatterns (n : ℕ) (r : PatternReaders) : Type 0 where
  pub chain : {a b : List Token} {ls : List PatLink} {x : PatOperand} → IsOperands a b ls x → PatternEnds b → 8 * length a + 4 ≤ n
      → (at : Pos) (qs : List PatLink) → r.chain at qs a ≡ Some (pat_tree at (qs ++ ls) x, b)
  pub operand : {a b : List Token} {x : PatOperand} → IsOperand a b x → begins apats_go_on b ≡ false → 8 * length a + 3 ≤ n → r.operand a ≡ Some (x, b)
  pub apats : {a b : List Token} {ps : List ApatTree} → IsApats a b ps → begins apats_go_on b ≡ false → 8 * length a + 3 ≤ n
      → (qs : List ApatTree) → r.apats qs a ≡ Some (qs ++ ps, b)
  pub apat : {a b : List Token} {p : ApatTree} → IsApat a b p → begins apat_goes_on b ≡ false → 8 * length a + 2 ≤ n → r.apat a ≡ Some (p, b)
  pub single : {a b : List Token} {p : ApatTree} → IsSingle a b p → begins apat_goes_on b ≡ false → 8 * length a + 1 ≤ n → r.single a ≡ Some (p, b)
  pub patterns : {a b : List Token} {ps : List PatTree} → IsPatterns a b ps → PatternEnds b → begins is_comma b ≡ false → 8 * length a + 5 ≤ n
      → (qs : List PatTree) → r.patterns qs a ≡ Some (qs ++ ps, b)
  pub fpats : {a b : List Token} {fs : List FpatTree} → IsFpats a b fs → PatternEnds b → begins is_comma b ≡ false → 8 * length a + 1 ≤ n
      → (qs : List FpatTree) → r.fpats qs a ≡ Some (qs ++ fs, b)

pub pattern_by_complete : (n : ℕ) (r : PatternReaders) → CompletePatterns n r → {a b : List Token} {p : PatTree} → IsPattern a b p → PatternEnds b → 8 * length a + 4 ≤ n
    → pattern_by r a ≡ Some (p, b)
pattern_by_complete n r c (ChainPattern {a = a} x) ends h = c.chain x ends h (place a) []

chain_complete : (n : ℕ) (r : PatternReaders) → CompletePatterns n r → {a b : List Token} {ls : List PatLink} {x : PatOperand} → IsOperands a b ls x → PatternEnds b
    → 8 * length a + 4 ≤ suc n → (at : Pos) (qs : List PatLink) → (next_patterns r).chain at qs a ≡ Some (pat_tree at (qs ++ ls) x, b)
chain_complete n r c (LastOperand {a = a} {b = b} {x = x} d) ends h at qs =
    let k : 8 * length a + 3 ≤ n = omega arith in
    ap (λ m. and_then m (λ y rest. chain_by r at qs (place a) y rest)) (c.operand d ends.apats k)
    ∙ (ap (λ m. or_else_by m (λ q rest. r.chain at (qs ++ pat_link (place a) x q ∷ []) rest) (Some (pat_tree at qs x, b))) ends.operator
    ∙ ap (λ ms. let l : Found PatTree = Some (pat_tree at ms x, b) in l) (sym (append-nil qs)))
chain_complete n r c (MoreOperands {a = a} {b = b} {c = z} {d = w} {x = x} {y = y} {q = q} {ls = ls} d e rest) ends h at qs =
    let k : 8 * length a + 3 ≤ n = omega arith in
    let s : length b < length a = operand_shorter d in
    let t : length z < length b = qconop_shorter e in
    let m : 8 * length z + 4 ≤ n = omega arith in
    ap (λ m. and_then m (λ v to. chain_by r at qs (place a) v to)) (c.operand d (qconop_ends e) k)
    ∙ (ap (λ m. or_else_by m (λ o to. r.chain at (qs ++ pat_link (place a) x o ∷ []) to) (Some (pat_tree at qs x, b))) (qconop_complete e)
    ∙ (c.chain rest ends m at (qs ++ pat_link (place a) x q ∷ [])
    ∙ ap (λ ms. let l : Found PatTree = Some (pat_tree at ms y, w) in l) (append_assoc qs (pat_link (place a) x q ∷ []) ls)))

-- a pattern by itself needs nothing of what stands behind it but that it doesn't go on with it
pub single_operand_complete : (n : ℕ) (r : PatternReaders) → CompletePatterns n r → {a b : List Token} {p : ApatTree} → IsSingle a b p → begins apat_goes_on b ≡ false
    → 8 * length a + 1 ≤ n → with_first a None (operand_by r) ≡ Some (operand.Single (place a) p, b)
single_operand_complete n r c {a = a} {b = b} {p = p} d ends k =
    operand_other r a (single_start d)
    ∙ (ap (λ m. or_else_by m (λ f rest. and_then (r.apats [] rest) (λ qs last. let l : Found PatOperand = Some (operand.Applied (place a) f qs, last) in l))
    (and_then (r.single a) (λ q rest. let l : Found PatOperand = Some (operand.Single (place a) q, rest) in l))) (single_no_con d)
    ∙ ap (λ m. and_then m (λ q rest. let l : Found PatOperand = Some (operand.Single (place a) q, rest) in l)) (c.single d ends k))

operand_complete : (n : ℕ) (r : PatternReaders) → CompletePatterns n r → {a b : List Token} {x : PatOperand} → IsOperand a b x → begins apats_go_on b ≡ false
    → 8 * length a + 3 ≤ suc n → with_first a None (operand_by r) ≡ Some (x, b)
operand_complete n r c (NumberOperand {a = a} {t = t} e) ends h = ap (operand_by r t a) e
operand_complete n r c (MinusOperand {a = a} {m = m} {t = t} e f) ends h = ap (operand_by r m (t ∷ a)) e ∙ ap (minus_by m.at t a) f
operand_complete n r c (AppliedOperand {a = a} {b = b} {c = z} {g = g} {ps = ps} x d) ends h =
    let s : length b < length a = gcon_shorter x in
    let k : 8 * length b + 3 ≤ n = omega arith in
    operand_other r a (gcon_start x)
    ∙ (ap (λ m. or_else_by m (λ f rest. and_then (r.apats [] rest) (λ qs last. let l : Found PatOperand = Some (operand.Applied (place a) f qs, last) in l))
    (and_then (r.single a) (λ p rest. let l : Found PatOperand = Some (operand.Single (place a) p, rest) in l))) (con_complete x (apats_front d ends))
    ∙ ap (λ m. and_then m (λ qs last. let l : Found PatOperand = Some (operand.Applied (place a) g qs, last) in l)) (c.apats d ends k []))
operand_complete n r c (SingleOperand {a = a} {b = b} d) ends h =
    let k : 8 * length a + 1 ≤ n = omega arith in single_operand_complete n r c d (apat_ends b ends) k

apats_complete : (n : ℕ) (r : PatternReaders) → CompletePatterns n r → {a b : List Token} {ps : List ApatTree} → IsApats a b ps → begins apats_go_on b ≡ false
    → 8 * length a + 3 ≤ suc n → (qs : List ApatTree) → (next_patterns r).apats qs a ≡ Some (qs ++ ps, b)
apats_complete n r c (NoApats {a}) ends h qs = rw (no_apat a ends) (ap (λ l. Some (l, a)) (sym (append-nil qs)))
apats_complete n r c (MoreApats {a = a} {b = b} {c = z} {p = p} {ps = ps} d rest) ends h qs =
    let k : 8 * length a + 2 ≤ n = omega arith in
    let s : length b < length a = apat_shorter d in
    let m : 8 * length b + 3 ≤ n = omega arith in
    rw (apat_start d) (rw (c.apat d (apats_front rest ends) k) (c.apats rest ends m (qs ++ p ∷ []) ∙ ap (λ l. Some (l, z)) (append_assoc qs (p ∷ []) ps)))

apat_complete : (n : ℕ) (r : PatternReaders) → CompletePatterns n r → {a b : List Token} {p : ApatTree} → IsApat a b p → begins apat_goes_on b ≡ false
    → 8 * length a + 2 ≤ suc n → with_first a None (apat_by r) ≡ Some (p, b)
apat_complete n r c (ConApat {a = a} x) ends h = apat_other r a (gcon_start x)
    ∙ ap (λ m. or_else_by m (λ g rest. let l : Found ApatTree = Some (apat.Con (place a) g, rest) in l) (r.single a)) (con_complete x ends)
apat_complete n r c (NumberApat {a = a} {t = t} e) ends h = ap (apat_by r t a) e
apat_complete n r c (SingleApat {a = a} d) ends h =
    let k : 8 * length a + 1 ≤ n = omega arith in
    apat_other r a (single_start d)
    ∙ (ap (λ m. or_else_by m (λ g rest. let l : Found ApatTree = Some (apat.Con (place a) g, rest) in l) (r.single a)) (single_no_con d)
    ∙ c.single d ends k)

closed_ends : (c : Token) (b : List Token) → sign_of c ≡ CloseParen → PatternEnds (c ∷ b)
closed_ends c b e = record { apats = ap apats_go_on e; operator = ap (qconop_by c b) e }

square_ends : (c : Token) (b : List Token) → sign_of c ≡ CloseSquare → PatternEnds (c ∷ b)
square_ends c b e = record { apats = ap apats_go_on e; operator = ap (qconop_by c b) e }

brace_ends : (c : Token) (b : List Token) → sign_of c ≡ CloseBrace false → PatternEnds (c ∷ b)
brace_ends c b e = record { apats = ap apats_go_on e; operator = ap (qconop_by c b) e }

comma_ends : (c : Token) (b : List Token) → sign_of c ≡ Comma → PatternEnds (c ∷ b)
comma_ends c b e = record { apats = ap apats_go_on e; operator = ap (qconop_by c b) e }

-- fields begin with no closing brace
qvar_not_closed : {a b : List Token} {n : NameRef} → IsQvar a b n → begins is_close_brace a ≡ false
qvar_not_closed (VarIdQvar {t = t} e) = by_sign (sign_of t) e
  where
    by_sign : (k : Sign) → is_qvarid k ≡ true → is_close_brace k ≡ false
    by_sign Var e = refl
    by_sign QualifiedVar e = refl
    by_sign _ e = cc
qvar_not_closed (VarSymQvar e f g) = ap is_close_brace e

fpats_not_closed : {a b : List Token} {fs : List FpatTree} → IsFpats a b fs → begins is_close_brace a ≡ false
fpats_not_closed (LastFpat (FieldFpat x e y)) = qvar_not_closed x
fpats_not_closed (MoreFpats (FieldFpat x e y) f z) = qvar_not_closed x

single_complete : (n : ℕ) (r : PatternReaders) → CompletePatterns n r → {a b : List Token} {p : ApatTree} → IsSingle a b p → begins apat_goes_on b ≡ false
    → 8 * length a + 1 ≤ suc n → with_first a None (single_by r) ≡ Some (p, b)
single_complete n r c (VarSingle {a = a} {b = b} {n = v} x) ends h = var_named r x
    ∙ no_sign is_as b (λ z. and_then (r.apat z) (λ q rest. Some (as_pattern (place a) v q, rest))) (Some (apat.Var (place a) v None, b)) (no_as b ends)
single_complete n r c (AsSingle {a = a} {b = b} {c = z} {t = t} {n = v} {p = p} x e d) ends h =
    let s : length (t ∷ b) < length a = var_shorter x in
    let k : 8 * length b + 2 ≤ n = omega arith in
    var_named r x
    ∙ (ap (λ g. and_behind (cond (is_as g) (Some b) None) (λ y. and_then (r.apat y) (λ q rest. let l : Found ApatTree = Some (as_pattern (place a) v q, rest) in l)) (Some (apat.Var (place a) v None, t ∷ b))) e
    ∙ ap (λ m. and_then m (λ q rest. let l : Found ApatTree = Some (as_pattern (place a) v q, rest) in l)) (c.apat d ends k))
single_complete n r c (EmptySingle {a = a} {b = b} {o = o} {c = q} {n = v} x e f) ends h = qcon_named r x
    ∙ (ap (λ g. and_behind (cond (is_brace g) (Some (q ∷ b)) None) (fields_at r (place a) v) None) e
    ∙ ap (λ g. and_behind (cond (is_close_brace g) (Some b) None) (λ rest. let l : Found ApatTree = Some (apat.Record (place a) v [], rest) in l)
    (and_then (r.fpats [] (q ∷ b)) (λ fs rest. with_sign (behind is_close_brace rest) (apat.Record (place a) v fs)))) f)
single_complete n r c (RecordSingle {a = a} {b = b} {d = z} {o = o} {c = q} {n = v} {fs = fs} x e d f) ends h =
    let s : length (o ∷ b) < length a = qcon_shorter x in
    let k : 8 * length b + 1 ≤ n = omega arith in
    qcon_named r x
    ∙ (ap (λ g. and_behind (cond (is_brace g) (Some b) None) (fields_at r (place a) v) None) e
    ∙ (no_sign is_close_brace b (λ rest. Some (apat.Record (place a) v [], rest)) (and_then (r.fpats [] b) (λ gs rest. with_sign (behind is_close_brace rest) (apat.Record (place a) v gs))) (fpats_not_closed d)
    ∙ (ap (λ m. and_then m (λ gs rest. with_sign (behind is_close_brace rest) (apat.Record (place a) v gs))) (c.fpats d (brace_ends q z f) (ap is_comma f) k [])
    ∙ ap (λ g. with_sign (cond (is_close_brace g) (Some z) None) (apat.Record (place a) v fs)) f)))
single_complete n r c (QuotedSingle {a = a} {t = t} e) ends h = ap (single_by r t a) e
single_complete n r c (WildSingle {a = a} {t = t} e) ends h = ap (single_by r t a) e
single_complete n r c (TupleSingle {a = a} {b = b} {o = o} {c = q} {ps = ps} e d f) ends h =
    let k : 8 * length a + 5 ≤ n = omega arith in
    ap (single_by r o a) e
    ∙ (ap (λ g. cond g (named_pattern r o.at (o ∷ a)) (and_then (r.patterns [] a) (tuple_pattern o.at))) (patterns_no_symbol d)
    ∙ (ap (λ m. and_then m (tuple_pattern o.at)) (c.patterns d (closed_ends q b f) (ap is_comma f) k [])
    ∙ ap (λ g. with_sign (cond (is_close_paren g) (Some b) None) (apat.Tuple o.at ps)) f))
single_complete n r c (ListSingle {a = a} {b = b} {o = o} {c = q} {ps = ps} e d f) ends h =
    let k : 8 * length a + 5 ≤ n = omega arith in
    ap (single_by r o a) e
    ∙ (ap (λ m. and_then m (list_pattern o.at)) (c.patterns d (square_ends q b f) (ap is_comma f) k [])
    ∙ ap (λ g. with_sign (cond (is_close_square g) (Some b) None) (apat.List o.at ps)) f)
single_complete n r c (LazySingle {a = a} {b = b} {t = t} e d) ends h =
    let k : 8 * length a + 2 ≤ n = omega arith in
    ap (single_by r t a) e ∙ ap (λ m. and_then m (λ p rest. let l : Found ApatTree = Some (lazy_pattern t.at p, rest) in l)) (c.apat d ends k)

patterns_complete : (n : ℕ) (r : PatternReaders) → CompletePatterns n r → {a b : List Token} {ps : List PatTree} → IsPatterns a b ps → PatternEnds b → begins is_comma b ≡ false
    → 8 * length a + 5 ≤ suc n → (qs : List PatTree) → (next_patterns r).patterns qs a ≡ Some (qs ++ ps, b)
patterns_complete n r c (LastPattern {a = a} {b = b} {p = p} d) ends f h qs =
    let k : 8 * length a + 4 ≤ n = omega arith in
    ap (λ m. and_then m (λ y rest. and_behind (behind is_comma rest) (r.patterns (qs ++ y ∷ [])) (Some (qs ++ y ∷ [], rest)))) (pattern_by_complete n r c d ends k)
    ∙ no_sign is_comma b (r.patterns (qs ++ p ∷ [])) (Some (qs ++ p ∷ [], b)) f
patterns_complete n r c (MorePatterns {a = a} {b = b} {c = z} {m = m} {p = p} {ps = ps} d e rest) ends f h qs =
    let k : 8 * length a + 4 ≤ n = omega arith in
    let s : length (m ∷ b) < length a = pattern_shorter d in
    let l : 8 * length b + 5 ≤ n = omega arith in
    ap (λ q. and_then q (λ y to. and_behind (behind is_comma to) (r.patterns (qs ++ y ∷ [])) (Some (qs ++ y ∷ [], to)))) (pattern_by_complete n r c d (comma_ends m b e) k)
    ∙ (ap (λ g. and_behind (cond (is_comma g) (Some b) None) (r.patterns (qs ++ p ∷ [])) (Some (qs ++ p ∷ [], m ∷ b))) e
    ∙ (c.patterns rest ends f l (qs ++ p ∷ []) ∙ ap (λ x. Some (x, z)) (append_assoc qs (p ∷ []) ps)))

fpat_complete : (n : ℕ) (r : PatternReaders) → CompletePatterns n r → {a b : List Token} {f : FpatTree} → IsFpat a b f → PatternEnds b → 8 * length a + 1 ≤ suc n → fpat_by r a ≡ Some (f, b)
fpat_complete n r c (FieldFpat {a = a} {b = b} {c = z} {t = t} {n = v} {p = p} x e d) ends h =
    let s : length (t ∷ b) < length a = qvar_shorter x in
    let k : 8 * length b + 4 ≤ n = omega arith in
    ap (λ m. and_then (and_then m (λ u rest. with_sign (behind is_equals rest) u)) (λ u rest. and_then (pattern_by r rest) (λ q last. let l : Found FpatTree = Some (fpat_tree (place a) u q, last) in l))) (qvar_complete x)
    ∙ (ap (λ g. and_then (with_sign (cond (is_equals g) (Some b) None) v) (λ u rest. and_then (pattern_by r rest) (λ q last. let l : Found FpatTree = Some (fpat_tree (place a) u q, last) in l))) e
    ∙ ap (λ m. and_then m (λ q last. let l : Found FpatTree = Some (fpat_tree (place a) v q, last) in l)) (pattern_by_complete n r c d ends k))

fpats_complete : (n : ℕ) (r : PatternReaders) → CompletePatterns n r → {a b : List Token} {fs : List FpatTree} → IsFpats a b fs → PatternEnds b → begins is_comma b ≡ false
    → 8 * length a + 1 ≤ suc n → (qs : List FpatTree) → (next_patterns r).fpats qs a ≡ Some (qs ++ fs, b)
fpats_complete n r c (LastFpat {a = a} {b = b} {f = x} d) ends f h qs =
    ap (λ m. and_then m (λ y rest. and_behind (behind is_comma rest) (r.fpats (qs ++ y ∷ [])) (Some (qs ++ y ∷ [], rest)))) (fpat_complete n r c d ends h)
    ∙ no_sign is_comma b (r.fpats (qs ++ x ∷ [])) (Some (qs ++ x ∷ [], b)) f
fpats_complete n r c (MoreFpats {a = a} {b = b} {c = z} {m = m} {f = x} {fs = fs} d e rest) ends f h qs =
    let s : length (m ∷ b) < length a = fpat_shorter d in
    let l : 8 * length b + 1 ≤ n = omega arith in
    ap (λ q. and_then q (λ y to. and_behind (behind is_comma to) (r.fpats (qs ++ y ∷ [])) (Some (qs ++ y ∷ [], to)))) (fpat_complete n r c d (comma_ends m b e) h)
    ∙ (ap (λ g. and_behind (cond (is_comma g) (Some b) None) (r.fpats (qs ++ x ∷ [])) (Some (qs ++ x ∷ [], m ∷ b))) e
    ∙ (c.fpats rest ends f l (qs ++ x ∷ []) ∙ ap (λ y. Some (y, z)) (append_assoc qs (x ∷ []) fs)))

next_patterns_complete : (n : ℕ) (r : PatternReaders) → CompletePatterns n r → CompletePatterns (suc n) (next_patterns r)
next_patterns_complete n r c = record {
  chain = chain_complete n r c;
  operand = operand_complete n r c;
  apats = apats_complete n r c;
  apat = apat_complete n r c;
  single = single_complete n r c;
  patterns = patterns_complete n r c;
  fpats = fpats_complete n r c;
}

pub patterns_are_complete : (n : ℕ) → CompletePatterns n (pattern_readers n)
unfolding pattern_readers
patterns_are_complete zero = record {
  chain = λ d ends h at qs. absurd (let x : ⊥ = omega arith in x);
  operand = λ d ends h. absurd (let x : ⊥ = omega arith in x);
  apats = λ d ends h qs. absurd (let x : ⊥ = omega arith in x);
  apat = λ d ends h. absurd (let x : ⊥ = omega arith in x);
  single = λ d ends h. absurd (let x : ⊥ = omega arith in x);
  patterns = λ d ends f h qs. absurd (let x : ⊥ = omega arith in x);
  fpats = λ d ends f h qs. absurd (let x : ⊥ = omega arith in x);
}
patterns_are_complete (suc n) = next_patterns_complete n (pattern_readers n) (patterns_are_complete n)

-- a pattern, and patterns one after another
pub pattern_complete : (n : ℕ) {a b : List Token} {p : PatTree} → IsPattern a b p → PatternEnds b → 8 * length a + 4 ≤ n → pattern_at n a ≡ Some (p, b)
pattern_complete n d ends h = pattern_by_complete n (pattern_readers n) (patterns_are_complete n) d ends h

pub all_apats_complete : (n : ℕ) {a b : List Token} {ps : List ApatTree} → IsApats a b ps → begins apats_go_on b ≡ false → 8 * length a + 3 ≤ n → apats_at n a ≡ Some (ps, b)
all_apats_complete n d ends h = (patterns_are_complete n).apats d ends h []

pub some_apats_complete : (n : ℕ) {a b : List Token} {p : ApatTree} {ps : List ApatTree} → IsApats a b (p ∷ ps) → begins apats_go_on b ≡ false → 8 * length a + 3 ≤ n
    → some_apats n a ≡ Some (p ∷ ps, b)
some_apats_complete n {a = a} {b = b} (MoreApats x y) ends h = ap (λ c. cond c (apats_at n a) None) (apat_start x) ∙ all_apats_complete n (MoreApats x y) ends h
