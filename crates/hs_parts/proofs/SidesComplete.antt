-- What is derived as the left side of a clause is read as it, where what ends one stands behind it.
use Rattle.std.proofs.Common.{◌≡◌, ℕ, suc, zero, ◌+◌, ◌*◌, ◌<◌, ◌≤◌, Bool, true, false, cond, ◌||◌, List, [], ◌∷◌, length, Option, Some, None, refl, sym, ap, ◌∙◌, subst, arith}
use Rattle.mk_base.specs.declared.place.Pos.{Pos}
use Rattle.hs_syntax.specs.declared.token.Token.{Token}
use Rattle.hs_syntax.specs.declared.sign.Sign.{Sign}
use Rattle.hs_syntax.specs.declared.sign.Sign.TheVariants.{Var, Con, QualifiedCon, Minus, Bang, Star, VarSym, ConSym, QualifiedConSym, Colon, Number, Quoted, OpenBrace, OpenParen, CloseParen, OpenSquare, Comma, Backquote, Wild, Equals, Bar, As, Tilde}
use Rattle.hs_syntax.specs.declared.name_ref.NameRef.{NameRef}
use Rattle.hs_syntax.specs.declared.name_ref.OpName.{OpName}
use Rattle.hs_syntax.specs.declared.pattern_tree.GconTree.{GconTree}
use Rattle.hs_syntax.specs.declared.pattern_tree.ApatTree.{ApatTree}
use Rattle.hs_syntax.specs.declared.pattern_tree.ApatTree.TheVariants as apat
use Rattle.hs_syntax.specs.declared.pattern_tree.PatLink.{PatLink}
use Rattle.hs_syntax.specs.declared.pattern_tree.PatOperand.{PatOperand}
use Rattle.hs_syntax.specs.declared.pattern_tree.PatOperand.TheVariants as operand
use Rattle.hs_syntax.specs.declared.pattern_tree.PatTree.{PatTree}
use Rattle.hs_syntax.specs.declared.pattern_tree.LhsTree.{LhsTree}
use Rattle.hs_syntax.specs.declared.pattern_tree.LhsTree.TheVariants as lhs
use Rattle.hs_syntax.specs.Signs.{sign_of}
use Rattle.hs_syntax.specs.Reading.{Found, and_then, or_else, or_else_by, with_first, begins, behind, and_behind, with_sign, is_comma, is_open_paren, is_close_paren, is_backquote}
use Rattle.hs_syntax.specs.Names.{name_ref}
use Rattle.hs_syntax.specs.Made.{pat_tree, pat_link}
use Rattle.hs_syntax.proofs.Sound.{Sound, sound_then, none_of}
use Rattle.hs_parts.specs.Names.{place, is_varsym, is_gconsym, is_qconid}
use Rattle.hs_parts.specs.Names.{IsVar, VarIdVar, VarSymVar, IsQcon, ConIdQcon, ConSymQcon, IsCommas, LastComma, MoreCommas, IsGcon, ConGcon, UnitGcon, ListGcon, TupleGcon, IsQconop, ConSymQconop, ConIdQconop, IsVarop, VarSymVarop, VarIdVarop}
use Rattle.hs_parts.specs.NameReaders.{is_varid, var_at, varop_at, varop_by, qconop_at, qconop_by, quoted_name, in_quotes, named_op, op_name}
use Rattle.hs_parts.specs.PatternReaders.{PatternReaders, pattern_readers, next_patterns, begins_apat, begins_symbol, chain_by, pattern_at, apats_at, some_apats}
use Rattle.hs_parts.specs.SideReaders.{ends_side, ended, var_side, infix_right, infix_side, pattern_side, applied, applied_args, applied_side, next_side, function_side, enough, side_by, side_at}
use Rattle.hs_parts.specs.Grammar.{IsPattern, ChainPattern, IsOperands, LastOperand, MoreOperands, IsOperand, NumberOperand, MinusOperand, AppliedOperand, SingleOperand, IsApats, NoApats, MoreApats, IsApat}
use Rattle.hs_parts.specs.Grammar.{IsSingle, VarSingle, AsSingle, EmptySingle, RecordSingle, QuotedSingle, WildSingle, TupleSingle, ListSingle, LazySingle, IsPatterns, LastPattern, MorePatterns}
use Rattle.hs_parts.specs.Grammar.{IsFunction, VarFunction, AppliedFunction, InfixFunction, IsLhs, FunctionLhs, PatternLhs}
use Rattle.hs_parts.proofs.NamesSound.{var_sound, varop_sound}
use Rattle.hs_parts.proofs.NamesComplete.{varop_shorter, varop_complete}
use Rattle.hs_parts.proofs.PatternsSound.{pattern_sound, all_apats_sound}
use Rattle.hs_parts.proofs.PatternsComplete.{begins_operand, to_apat, to_operand, var_start, apat_start, pattern_start, pattern_shorter, apats_shorter, apat_goes_on, apats_go_on, apats_front, no_apat, PatternEnds, pattern_no_symbol, apat_no_symbol, qconop_ends, operand_no_consym}
use Rattle.hs_parts.proofs.PatternsComplete.{patterns_are_complete, pattern_complete, some_apats_complete, single_operand_complete}
use Rattle.hs_parts.proofs.SidesSound.{FunctionAt, LhsAt, var_side_sound, var_side_complete, side_sound, side_ends_apats}

-- each takes tokens
pub function_shorter : {a b : List Token} {l : LhsTree} → IsFunction a b l → length b < length a
function_shorter (VarFunction {a} {b} {c} x y) = let h : length b < length a = var_less x in let k : length c ≤ length b = apats_shorter y in omega arith
  where
    var_less : {a b : List Token} {n : NameRef} → IsVar a b n → length b < length a
    var_less (VarIdVar e) = omega arith
    var_less (VarSymVar e f g) = omega arith
function_shorter (AppliedFunction {a} {b} {d} {o} {c} e x f y) =
    let h : length (c ∷ b) < length a = function_shorter x in let k : length d ≤ length b = apats_shorter y in omega arith
function_shorter (InfixFunction {a} {b} {c} {d} x o y) =
    let h : length b < length a = pattern_shorter x in let k : length c < length b = varop_shorter o in let l : length d < length c = pattern_shorter y in omega arith

pub lhs_shorter : {a b : List Token} {l : LhsTree} → IsLhs a b l → length b < length a
lhs_shorter (FunctionLhs x) = function_shorter x
lhs_shorter (PatternLhs g x) = pattern_shorter x

-- What stands behind a pattern

-- what an operator of a variable begins with
abbrev pub begins_varop : Sign → Bool
begins_varop Backquote = true
begins_varop k = is_varsym k

varsym_begins : (k : Sign) → is_varsym k ≡ true → begins_varop k ≡ true
varsym_begins Backquote e = refl
varsym_begins k e = e

varop_start : {a b : List Token} {o : OpName} → IsVarop a b o → begins begins_varop a ≡ true
varop_start (VarSymVarop {t = t} e) = varsym_begins (sign_of t) e
varop_start (VarIdVarop e f g) = ap begins_varop e

varop_apats : (k : Sign) → begins_varop k ≡ true → apats_go_on k ≡ false
varop_apats Backquote e = refl
varop_apats Minus e = refl
varop_apats Bang e = refl
varop_apats Star e = refl
varop_apats VarSym e = refl
varop_apats _ e = cc

pub varop_ends_apats : (a : List Token) → begins begins_varop a ≡ true → begins apats_go_on a ≡ false
varop_ends_apats [] e = refl
varop_ends_apats (t ∷ a) e = varop_apats (sign_of t) e

no_consym : (t : Token) (a : List Token) (k : Sign) → is_varsym k ≡ true → qconop_by t a k ≡ None
no_consym t a Backquote e = cc
no_consym t a Minus e = refl
no_consym t a Bang e = refl
no_consym t a Star e = refl
no_consym t a VarSym e = refl
no_consym t a _ e = cc

var_no_conid : (at : Pos) (t : Token) (a : List Token) → sign_of t ≡ Var → quoted_name at is_qconid (t ∷ a) ≡ None
var_no_conid at t a e = ap (λ k. and_then (let m : Found NameRef = cond (is_qconid k) (with_sign (behind is_backquote a) (name_ref t)) None in m) (λ n rest. let r : Found OpName = Some (op_name at n, rest) in r)) e

pub varop_ends : {a b : List Token} {o : OpName} → IsVarop a b o → PatternEnds a
varop_ends (VarSymVarop {a = a} {t = t} e) = record { apats = varop_ends_apats (t ∷ a) (varsym_begins (sign_of t) e); operator = no_consym t a (sign_of t) e }
varop_ends (VarIdVarop {a = a} {o = o} {t = t} {c = c} e f g) = record { apats = ap apats_go_on e; operator = ap (qconop_by o (t ∷ c ∷ a)) e ∙ var_no_conid o.at t (c ∷ a) f }

-- what stands behind a pattern in brackets, and behind a left side
abbrev pub is_stop : Sign → Bool
is_stop Comma = true
is_stop k = ends_side k

pub side_stops : (b : List Token) → begins ends_side b ≡ true → begins is_stop b ≡ true
side_stops [] e = e
side_stops (t ∷ b) e = by_sign (sign_of t) e
  where
    by_sign : (k : Sign) → ends_side k ≡ true → is_stop k ≡ true
    by_sign Comma e = refl
    by_sign k e = e

stop_apats : (k : Sign) → is_stop k ≡ true → apats_go_on k ≡ false
stop_apats Comma e = refl
stop_apats Equals e = refl
stop_apats Bar e = refl
stop_apats CloseParen e = refl
stop_apats _ e = cc

stop_operator : (t : Token) (a : List Token) (k : Sign) → is_stop k ≡ true → qconop_by t a k ≡ None
stop_operator t a Comma e = refl
stop_operator t a Equals e = refl
stop_operator t a Bar e = refl
stop_operator t a CloseParen e = refl
stop_operator t a _ e = cc

pub stop_ends : (b : List Token) → begins is_stop b ≡ true → PatternEnds b
stop_ends [] e = record { apats = refl; operator = refl }
stop_ends (t ∷ b) e = record { apats = stop_apats (sign_of t) e; operator = stop_operator t b (sign_of t) e }

stop_no_varop : (t : Token) (a : List Token) (k : Sign) → is_stop k ≡ true → varop_by t a k ≡ None
stop_no_varop t a Comma e = refl
stop_no_varop t a Equals e = refl
stop_no_varop t a Bar e = refl
stop_no_varop t a CloseParen e = refl
stop_no_varop t a _ e = cc

no_varop_at_stop : (b : List Token) → begins is_stop b ≡ true → varop_at b ≡ None
no_varop_at_stop [] e = refl
no_varop_at_stop (t ∷ b) e = stop_no_varop t b (sign_of t) e

stop_begins : (k : Sign) → is_stop k ≡ true → begins_varop k ≡ false
stop_begins Comma e = refl
stop_begins Equals e = refl
stop_begins Bar e = refl
stop_begins CloseParen e = refl
stop_begins _ e = cc

stop_is_no_varop : (b : List Token) → begins is_stop b ≡ true → begins begins_varop b ≡ false
stop_is_no_varop [] e = refl
stop_is_no_varop (t ∷ b) e = stop_begins (sign_of t) e

-- where an apat begins, no operator does, nor does a left side end
apat_operator : (t : Token) (a : List Token) (k : Sign) → begins_apat k ≡ true → qconop_by t a k ≡ None
apat_operator t a Backquote e = cc
apat_operator t a Colon e = cc
apat_operator t a ConSym e = cc
apat_operator t a QualifiedConSym e = cc
apat_operator t a _ e = refl

apat_varop : (t : Token) (a : List Token) (k : Sign) → begins_apat k ≡ true → varop_by t a k ≡ None
apat_varop t a Backquote e = cc
apat_varop t a Minus e = cc
apat_varop t a Bang e = cc
apat_varop t a Star e = cc
apat_varop t a VarSym e = cc
apat_varop t a _ e = refl

no_varop_at_apat : (b : List Token) → begins begins_apat b ≡ true → varop_at b ≡ None
no_varop_at_apat [] e = refl
no_varop_at_apat (t ∷ b) e = apat_varop t b (sign_of t) e

apat_begins : (k : Sign) → begins_apat k ≡ true → begins_varop k ≡ false
apat_begins Backquote e = cc
apat_begins Minus e = cc
apat_begins Bang e = cc
apat_begins Star e = cc
apat_begins VarSym e = cc
apat_begins _ e = refl

apat_is_no_varop : (b : List Token) → begins begins_apat b ≡ true → begins begins_varop b ≡ false
apat_is_no_varop [] e = refl
apat_is_no_varop (t ∷ b) e = apat_begins (sign_of t) e

apat_no_stop : (k : Sign) → begins_apat k ≡ true → is_stop k ≡ false
apat_no_stop Comma e = cc
apat_no_stop Equals e = cc
apat_no_stop Bar e = cc
apat_no_stop CloseParen e = cc
apat_no_stop _ e = refl

apat_is_no_stop : (b : List Token) → begins begins_apat b ≡ true → begins is_stop b ≡ false
apat_is_no_stop [] e = refl
apat_is_no_stop (t ∷ b) e = apat_no_stop (sign_of t) e

apat_no_end : (k : Sign) → begins_apat k ≡ true → ends_side k ≡ false
apat_no_end Equals e = cc
apat_no_end Bar e = cc
apat_no_end CloseParen e = cc
apat_no_end _ e = refl

apat_is_no_end : (b : List Token) → begins begins_apat b ≡ true → begins ends_side b ≡ false
apat_is_no_end [] e = refl
apat_is_no_end (t ∷ b) e = apat_no_end (sign_of t) e

operator_behind : {a b : List Token} {ps : List ApatTree} → IsApats a b ps → begins ends_side b ≡ true → qconop_at a ≡ None
operator_behind (NoApats {a}) e = (stop_ends a (side_stops a e)).operator
operator_behind (MoreApats {a = a} x y) e = by_first a (apat_start x)
  where
    by_first : (a : List Token) → begins begins_apat a ≡ true → qconop_at a ≡ None
    by_first [] e = refl
    by_first (t ∷ a) e = apat_operator t a (sign_of t) e

varop_behind : {a b : List Token} {ps : List ApatTree} → IsApats a b ps → begins ends_side b ≡ true → begins begins_varop a ≡ false
varop_behind (NoApats {a}) e = stop_is_no_varop a (side_stops a e)
varop_behind (MoreApats {a = a} x y) e = apat_is_no_varop a (apat_start x)

true_false : {b : Bool} → b ≡ true → b ≡ false → ⊥
true_false e f = cc

-- Where a pattern ends

abbrev end_of : {X : Type 0} → Found X → List Token
end_of None = []
end_of (Some p) = p.1

pub pattern_once : {a b c : List Token} {p q : PatTree} → IsPattern a b p → PatternEnds b → IsPattern a c q → PatternEnds c → b ≡ c
pattern_once {a = a} x f y g =
    let h : 8 * length a + 4 ≤ 8 * length a + 4 = omega arith in
    ap end_of (sym (pattern_complete (8 * length a + 4) x f h) ∙ pattern_complete (8 * length a + 4) y g h)

pattern_of_var : (n : ℕ) {a b : List Token} {v : NameRef} → IsVar a b v → begins apat_goes_on b ≡ false → qconop_at b ≡ None → 8 * length a + 4 ≤ n
    → pattern_at n a ≡ Some (pat_tree (place a) [] (operand.Single (place a) (apat.Var (place a) v None)), b)
unfolding pattern_readers
pattern_of_var zero x e f h = absurd (let y : ⊥ = omega arith in y)
pattern_of_var (suc zero) x e f h = absurd (let y : ⊥ = omega arith in y)
pattern_of_var (suc (suc n)) {a = a} {b = b} {v = v} x e f h =
    let k : 8 * length a + 1 ≤ n = omega arith in
    ap (λ m. and_then m (λ y rest. chain_by (next_patterns (pattern_readers n)) (place a) [] (place a) y rest)) (single_operand_complete n (pattern_readers n) (patterns_are_complete n) (VarSingle x) e k)
    ∙ ap (λ m. or_else_by m (λ q rest. (next_patterns (pattern_readers n)).chain (place a) (pat_link (place a) (operand.Single (place a) (apat.Var (place a) v None)) q ∷ []) rest)
    (Some (pat_tree (place a) [] (operand.Single (place a) (apat.Var (place a) v None)), b))) f

-- a pattern at the front of a variable with its patterns is the variable alone
var_reads : {a c to r : List Token} {v : NameRef} {ps : List ApatTree} {p : PatTree} → IsVar a c v → IsApats c to ps → begins ends_side to ≡ true → IsPattern a r p → PatternEnds r → r ≡ c
var_reads {a = a} {to = to} x y e d f =
    let h : 8 * length a + 4 ≤ 8 * length a + 4 = omega arith in
    ap end_of (sym (pattern_complete (8 * length a + 4) d f h) ∙ pattern_of_var (8 * length a + 4) x (apats_front y (side_ends_apats to e)) (operator_behind y e) h)

-- What begins a function's left side

pub function_start : {a b : List Token} {l : LhsTree} → IsFunction a b l → begins begins_operand a ≡ true
function_start (VarFunction {a = a} x y) = to_operand a (to_apat a (var_start x))
function_start (AppliedFunction e x f y) = ap begins_operand e
function_start (InfixFunction x o y) = pattern_start x

pub function_no_symbol : {a b : List Token} {l : LhsTree} → IsFunction a b l → begins_symbol a ≡ false
function_no_symbol (VarFunction {a = a} x y) = apat_no_symbol a (to_apat a (var_start x))
function_no_symbol (AppliedFunction {a = a} {o = o} e x f y) = apat_no_symbol (o ∷ a) (ap begins_apat e)
function_no_symbol (InfixFunction x o y) = pattern_no_symbol x

commas_no_operand : {a b : List Token} {n : ℕ} → IsCommas a b n → begins begins_operand a ≡ false
commas_no_operand (LastComma e) = ap begins_operand e
commas_no_operand (MoreCommas e x) = ap begins_operand e

-- In parentheses a function's left side is no pattern but a variable alone

qcon_apart : {o : Token} {a r : List Token} {n : NameRef} → sign_of o ≡ OpenParen → begins begins_operand a ≡ true → IsQcon (o ∷ a) r n → ⊥
qcon_apart e s (ConIdQcon f) = true_false f (ap is_qconid e)
qcon_apart e s (ConSymQcon {t = t} f g h) = true_false g (operand_no_consym (sign_of t) s)

gcon_apart : {o : Token} {a r : List Token} {g : GconTree} → sign_of o ≡ OpenParen → begins begins_operand a ≡ true → IsGcon (o ∷ a) r g → ⊥
gcon_apart e s (ConGcon x) = qcon_apart e s x
gcon_apart e s (UnitGcon f g) = true_false s (ap begins_operand g)
gcon_apart e s (ListGcon f g) = true_false (ap is_open_paren e) (ap is_open_paren f)
gcon_apart e s (TupleGcon f x g) = true_false s (commas_no_operand x)

symbol_by : (t c : Token) (r : List Token) → is_varsym (sign_of t) ≡ true → sign_of c ≡ CloseParen → begins_symbol (t ∷ c ∷ r) ≡ true
symbol_by t c r e f = ap (λ b. cond (b || is_gconsym (sign_of t)) (is_close_paren (sign_of c)) false) e ∙ ap is_close_paren f

var_apart : {o : Token} {a r : List Token} {n : NameRef} → sign_of o ≡ OpenParen → begins_symbol a ≡ false → IsVar (o ∷ a) r n → ⊥
var_apart e s (VarIdVar f) = true_false (ap is_open_paren e) (ap is_open_paren f)
var_apart e s (VarSymVar {a = r} {t = t} {c = c} f g h) = true_false (symbol_by t c r g h) s

abbrev head_of : List Token → List Token → List Token
head_of other [] = other
head_of other (t ∷ ts) = ts

patterns_apart : {a b r : List Token} {c d : Token} {ps : List PatTree} → sign_of c ≡ CloseParen → begins begins_apat b ≡ true
    → ((r : List Token) (p : PatTree) → IsPattern a r p → begins is_stop r ≡ true → r ≡ c ∷ b) → IsPatterns a (d ∷ r) ps → sign_of d ≡ CloseParen → begins begins_apat r ≡ false → ⊥
patterns_apart {b = b} {r = r} {c = c} {d = d} e g inner (LastPattern {p = p} x) f h =
    true_false g (ap (begins begins_apat) (sym (ap (head_of []) (inner (d ∷ r) p x (ap is_stop f)))) ∙ h)
patterns_apart {b = b} {c = c} e g inner (MorePatterns {b = z} {m = m} {p = p} x i y) f h =
    true_false (ap is_close_paren e) (sym (ap (begins is_close_paren) (inner (m ∷ z) p x (ap is_stop i))) ∙ ap is_close_paren i)

single_apart : {o : Token} {a b r : List Token} {c : Token} {p : ApatTree} → sign_of o ≡ OpenParen → begins begins_operand a ≡ true → begins_symbol a ≡ false
    → sign_of c ≡ CloseParen → begins begins_apat b ≡ true → ((r : List Token) (p : PatTree) → IsPattern a r p → begins is_stop r ≡ true → r ≡ c ∷ b)
    → IsSingle (o ∷ a) r p → begins begins_apat r ≡ false → ⊥
single_apart e s n f g inner (VarSingle x) h = var_apart e n x
single_apart e s n f g inner (AsSingle x i y) h = var_apart e n x
single_apart e s n f g inner (EmptySingle x i j) h = qcon_apart e s x
single_apart e s n f g inner (RecordSingle x i y j) h = qcon_apart e s x
single_apart e s n f g inner (QuotedSingle i) h = true_false (ap is_open_paren e) (ap is_open_paren i)
single_apart e s n f g inner (WildSingle i) h = true_false (ap is_open_paren e) (ap is_open_paren i)
single_apart e s n f g inner (TupleSingle i x j) h = patterns_apart f g inner x j h
single_apart e s n f g inner (ListSingle i x j) h = true_false (ap is_open_paren e) (ap is_open_paren i)
single_apart e s n f g inner (LazySingle i x) h = true_false (ap is_open_paren e) (ap is_open_paren i)

operand_apart : {o : Token} {a b r : List Token} {c : Token} {x : PatOperand} → sign_of o ≡ OpenParen → begins begins_operand a ≡ true → begins_symbol a ≡ false
    → sign_of c ≡ CloseParen → begins begins_apat b ≡ true → ((r : List Token) (p : PatTree) → IsPattern a r p → begins is_stop r ≡ true → r ≡ c ∷ b)
    → IsOperand (o ∷ a) r x → begins begins_apat r ≡ false → ⊥
operand_apart e s n f g inner (NumberOperand i) h = true_false (ap is_open_paren e) (ap is_open_paren i)
operand_apart e s n f g inner (MinusOperand i j) h = true_false (ap is_open_paren e) (ap is_open_paren i)
operand_apart e s n f g inner (AppliedOperand x y) h = gcon_apart e s x
operand_apart e s n f g inner (SingleOperand x) h = single_apart e s n f g inner x h

qconop_no_apat : {a b : List Token} {q : OpName} → IsQconop a b q → begins begins_apat a ≡ false
qconop_no_apat {a = a} x = no_apat a (qconop_ends x)

pattern_apart : {o : Token} {a b r : List Token} {c : Token} {p : PatTree} → sign_of o ≡ OpenParen → begins begins_operand a ≡ true → begins_symbol a ≡ false
    → sign_of c ≡ CloseParen → begins begins_apat b ≡ true → ((r : List Token) (p : PatTree) → IsPattern a r p → begins is_stop r ≡ true → r ≡ c ∷ b)
    → IsPattern (o ∷ a) r p → begins begins_apat r ≡ false → ⊥
pattern_apart e s n f g inner (ChainPattern (LastOperand x)) h = operand_apart e s n f g inner x h
pattern_apart e s n f g inner (ChainPattern (MoreOperands x q y)) h = operand_apart e s n f g inner x (qconop_no_apat q)

-- Where a function's left side and a pattern stand at one place with what may end them, both are a variable alone.
pub function_pattern : {a to r : List Token} {l : LhsTree} {p : PatTree} → IsFunction a to l → begins ends_side to ≡ true → IsPattern a r p → begins is_stop r ≡ true
    → (v : NameRef) × IsVar a to v × (r ≡ to)
function_pattern {r = r} (VarFunction {n = v} x NoApats) e d s = (v, x, var_reads x NoApats e d (stop_ends r s))
function_pattern {r = r} (VarFunction {b = c} x (MoreApats y z)) e d s =
    absurd (true_false s (ap (begins is_stop) (var_reads x (MoreApats y z) e d (stop_ends r s)) ∙ apat_is_no_stop c (apat_start y)))
function_pattern {r = r} (AppliedFunction {b = b} {o = o} {c = c} f x g (MoreApats y z)) e d s =
    absurd (pattern_apart f (function_start x) (function_no_symbol x) g (apat_start y) (λ q p m t. (function_pattern x (ap ends_side g) m t).2) d (no_apat r (stop_ends r s).apats))
function_pattern {r = r} (InfixFunction {b = b} x o y) e d s =
    absurd (true_false (varop_start o) (ap (begins begins_varop) (pattern_once x (varop_ends o) d (stop_ends r s)) ∙ stop_is_no_varop r s))

-- Each left side is read

-- a variable with its patterns, as it was read
abbrev VarAt : List Token → List Token → LhsTree → Type 0
VarAt a to l = (v : NameRef) × (c : List Token) × (ps : List ApatTree) × IsVar a c v × IsApats c to ps × (begins ends_side to ≡ true)

var_if : (a c to : List Token) (v : NameRef) (ps : List ApatTree) → IsVar a c v → IsApats c to ps → (l : LhsTree) (b : Bool) → begins ends_side to ≡ b → Sound (VarAt a) (cond b (Some (l, to)) None)
var_if a c to v ps x y l true e = (v, c, ps, x, y, e)
var_if a c to v ps x y l false e = tt

var_side_parts : (n : ℕ) (a : List Token) → Sound (VarAt a) (var_side n a)
var_side_parts n a = sound_then (IsVar a) (VarAt a) (var_at a) (λ v rest. and_then (apats_at n rest) (λ ps last. ended (lhs.Function (place a) v ps) last)) (var_sound a)
    (λ v c x. sound_then (IsApats c) (VarAt a) (apats_at n c) (λ ps last. ended (lhs.Function (place a) v ps) last) (all_apats_sound n c)
    (λ ps to y. var_if a c to v ps x y (lhs.Function (place a) v ps) (begins ends_side to) refl))

infix_no_var : {a b c : List Token} {p : PatTree} {o : OpName} → IsPattern a b p → IsVarop b c o → (n : ℕ) → var_side n a ≡ None
infix_no_var {a = a} x o n = none_of (VarAt a) (var_side n a) (var_side_parts n a)
    (λ to l w. true_false (varop_start o) (ap (begins begins_varop) (var_reads w.3 w.4 w.5 x (varop_ends o)) ∙ varop_behind w.4 w.5))

none_then : {X Y : Type 0} (P : List Token → X → Type 0) (m : Found X) (f : X → List Token → Found Y) → Sound P m → ((x : X) (rest : List Token) → P rest x → f x rest ≡ None) → and_then m f ≡ None
none_then P None f s h = refl
none_then P (Some p) f s h = h p.0 p.1 s

paren_no_var : (n : ℕ) (o : Token) {a b : List Token} {l : LhsTree} → sign_of o ≡ OpenParen → IsFunction a b l → var_side n (o ∷ a) ≡ None
paren_no_var n o {a = a} e x = none_then (IsVar (o ∷ a)) (var_at (o ∷ a)) (λ v rest. and_then (apats_at n rest) (λ ps last. ended (lhs.Function o.at v ps) last)) (var_sound (o ∷ a))
    (λ v rest d. absurd (var_apart e (function_no_symbol x) d))

-- a pattern where an applied left side stands
abbrev Apart : Token → List Token → Type 0
Apart o a = (r : List Token) (p : PatTree) → IsPattern (o ∷ a) r p → begins begins_apat r ≡ false → ⊥

applied_apart : {a b d : List Token} {o c : Token} {l : LhsTree} {ps : List ApatTree} {p : ApatTree} → sign_of o ≡ OpenParen → IsFunction a (c ∷ b) l → sign_of c ≡ CloseParen → IsApats b d (p ∷ ps) → Apart o a
applied_apart e x f (MoreApats y z) = λ r p d h. pattern_apart e (function_start x) (function_no_symbol x) f (apat_start y) (λ q p m t. (function_pattern x (ap ends_side f) m t).2) d h

paren_no_infix : (n : ℕ) (o : Token) (a : List Token) → Apart o a → infix_side n (o ∷ a) ≡ None
paren_no_infix n o a h = none_then (IsPattern (o ∷ a)) (pattern_at n (o ∷ a)) (λ p rest. and_then (varop_at rest) (λ q last. infix_right n o.at p q last)) (pattern_sound n (o ∷ a))
    (λ p r d. none_then (IsVarop r) (varop_at r) (λ q last. infix_right n o.at p q last) (varop_sound r) (λ q z x. absurd (h r p d (no_apat r (varop_ends x).apats))))

alone_none : (n : ℕ) (at : Pos) (p : PatTree) (r : List Token) → begins begins_apat r ≡ true
    → or_else_by (varop_at r) (λ q last. infix_right n at p q last) (ended (lhs.Pattern at p) r) ≡ None
alone_none n at p r e = ap (λ m. or_else_by m (λ q last. infix_right n at p q last) (ended (lhs.Pattern at p) r)) (no_varop_at_apat r e)
    ∙ ap (λ t. let f : Found LhsTree = cond t (Some (lhs.Pattern at p, r)) None in f) (apat_is_no_end r e)

paren_no_pattern : (n : ℕ) (o : Token) (a : List Token) → Apart o a → pattern_side n (o ∷ a) ≡ None
paren_no_pattern n o a h = none_then (IsPattern (o ∷ a)) (pattern_at n (o ∷ a)) (λ p rest. or_else_by (varop_at rest) (λ q last. infix_right n o.at p q last) (ended (lhs.Pattern o.at p) rest)) (pattern_sound n (o ∷ a))
    (λ p r d. by_first p r d (begins begins_apat r) refl)
  where
    by_first : (p : PatTree) (r : List Token) → IsPattern (o ∷ a) r p → (t : Bool) → begins begins_apat r ≡ t
        → or_else_by (varop_at r) (λ q last. infix_right n o.at p q last) (ended (lhs.Pattern o.at p) r) ≡ None
    by_first p r d true e = alone_none n o.at p r e
    by_first p r d false e = absurd (h r p d e)

right_complete : (n : ℕ) (at : Pos) (p : PatTree) (o : OpName) {c d : List Token} {q : PatTree} → IsPattern c d q → begins ends_side d ≡ true → 8 * length c + 4 ≤ n
    → infix_right n at p o c ≡ Some (lhs.Infix at p o q, d)
right_complete n at p o {c = c} {d = d} {q = q} y e h = ap (λ m. and_then m (λ r rest. ended (lhs.Infix at p o r) rest)) (pattern_complete n y (stop_ends d (side_stops d e)) h)
    ∙ ap (λ t. let f : Found LhsTree = cond t (Some (lhs.Infix at p o q, d)) None in f) e

infix_complete : (n : ℕ) {a b c d : List Token} {p q : PatTree} {o : OpName} → IsPattern a b p → IsVarop b c o → IsPattern c d q → begins ends_side d ≡ true → 8 * length a + 4 ≤ n
    → infix_side n a ≡ Some (lhs.Infix (place a) p o q, d)
infix_complete n {a = a} {b = b} {c = c} {p = p} {o = o} x v y e h =
    let s : length b < length a = pattern_shorter x in
    let t : length c < length b = varop_shorter v in
    let k : 8 * length c + 4 ≤ n = omega arith in
    ap (λ m. and_then m (λ r rest. and_then (varop_at rest) (λ w last. infix_right n (place a) r w last))) (pattern_complete n x (varop_ends v) h)
    ∙ (ap (λ m. and_then m (λ w last. infix_right n (place a) p w last)) (varop_complete v) ∙ right_complete n (place a) p o y e k)

chain_complete : (n : ℕ) {a b c d : List Token} {p q : PatTree} {o : OpName} → IsPattern a b p → IsVarop b c o → IsPattern c d q → begins ends_side d ≡ true → 8 * length a + 4 ≤ n
    → pattern_side n a ≡ Some (lhs.Infix (place a) p o q, d)
chain_complete n {a = a} {b = b} {c = c} {p = p} {o = o} x v y e h =
    let s : length b < length a = pattern_shorter x in
    let t : length c < length b = varop_shorter v in
    let k : 8 * length c + 4 ≤ n = omega arith in
    ap (λ m. and_then m (λ r rest. or_else_by (varop_at rest) (λ w last. infix_right n (place a) r w last) (ended (lhs.Pattern (place a) r) rest))) (pattern_complete n x (varop_ends v) h)
    ∙ (ap (λ m. or_else_by m (λ w last. infix_right n (place a) p w last) (ended (lhs.Pattern (place a) p) b)) (varop_complete v) ∙ right_complete n (place a) p o y e k)

applied_complete : (n : ℕ) (o : Token) {a b d : List Token} {c : Token} {l : LhsTree} {p : ApatTree} {ps : List ApatTree} (side : List Token → Found LhsTree)
    → sign_of o ≡ OpenParen → side a ≡ Some (l, c ∷ b) → sign_of c ≡ CloseParen → IsApats b d (p ∷ ps) → begins ends_side d ≡ true → 8 * length b + 3 ≤ n
    → applied_side n side (o ∷ a) ≡ Some (lhs.Applied o.at l (p ∷ ps), d)
applied_complete n o {a = a} {b = b} {d = d} {c = c} {l = l} {p = p} {ps = ps} side e x f y g h =
    ap (λ k. and_behind (cond (is_open_paren k) (Some a) None) (λ z. and_then (side z) (λ m q. and_behind (behind is_close_paren q) (applied_args n o.at m) None)) None) e
    ∙ (ap (λ m. and_then m (λ k q. and_behind (behind is_close_paren q) (applied_args n o.at k) None)) x
    ∙ (ap (λ k. and_behind (cond (is_close_paren k) (Some b) None) (applied_args n o.at l) None) f
    ∙ (ap (λ m. and_then m (λ qs rest. ended (applied o.at l qs) rest)) (some_apats_complete n y (side_ends_apats d g) h)
    ∙ ap (λ t. let r : Found LhsTree = cond t (Some (applied o.at l (p ∷ ps), d)) None in r) g)))

pub function_complete : (n : ℕ) {a b : List Token} {l : LhsTree} → IsFunction a b l → begins ends_side b ≡ true → 8 * length a + 8 ≤ n → function_side n a ≡ Some (l, b)
unfolding function_side
function_complete zero x e h = absurd (let y : ⊥ = omega arith in y)
function_complete (suc n) (VarFunction {a = a} x y) e h =
    let k : 8 * length a + 3 ≤ n = omega arith in
    ap (λ m. or_else m (or_else (infix_side n a) (applied_side n (function_side n) a))) (var_side_complete n x y e k)
function_complete (suc n) (AppliedFunction {a = a} {b = b} {o = o} {c = c} f x g y) e h =
    let s : length (c ∷ b) < length a = function_shorter x in
    let i : 8 * length a + 8 ≤ n = omega arith in
    let j : 8 * length b + 3 ≤ n = omega arith in
    ap (λ m. or_else m (or_else (infix_side n (o ∷ a)) (applied_side n (function_side n) (o ∷ a)))) (paren_no_var n o f x)
    ∙ (ap (λ m. or_else m (applied_side n (function_side n) (o ∷ a))) (paren_no_infix n o a (applied_apart f x g y))
    ∙ applied_complete n o (function_side n) f (function_complete n x (ap ends_side g) i) g y e j)
function_complete (suc n) (InfixFunction {a = a} x o y) e h =
    let k : 8 * length a + 4 ≤ n = omega arith in
    ap (λ m. or_else m (or_else (infix_side n a) (applied_side n (function_side n) a))) (infix_no_var x o n)
    ∙ ap (λ m. or_else m (applied_side n (function_side n) a)) (infix_complete n x o y e k)

alone_no_var : (n : ℕ) {a b : List Token} {p : PatTree} → ((v : NameRef) → IsVar a b v → ⊥) → IsPattern a b p → begins ends_side b ≡ true → var_side n a ≡ None
alone_no_var n {a = a} {b = b} g x e = none_of (FunctionAt a) (var_side n a) (var_side_sound n a)
    (λ to l c. let w : (v : NameRef) × IsVar a to v × (b ≡ to) = function_pattern c.0 c.1 x (side_stops b e) in g w.0 (subst (λ z. IsVar a z w.0) (sym w.2) w.1))

alone_complete : (n : ℕ) {a b : List Token} {p : PatTree} → IsPattern a b p → begins ends_side b ≡ true → 8 * length a + 4 ≤ n → pattern_side n a ≡ Some (lhs.Pattern (place a) p, b)
alone_complete n {a = a} {b = b} {p = p} x e h =
    ap (λ m. and_then m (λ r rest. or_else_by (varop_at rest) (λ w last. infix_right n (place a) r w last) (ended (lhs.Pattern (place a) r) rest))) (pattern_complete n x (stop_ends b (side_stops b e)) h)
    ∙ (ap (λ m. or_else_by m (λ w last. infix_right n (place a) p w last) (ended (lhs.Pattern (place a) p) b)) (no_varop_at_stop b (side_stops b e))
    ∙ ap (λ t. let f : Found LhsTree = cond t (Some (lhs.Pattern (place a) p, b)) None in f) e)

side_by_complete : (n : ℕ) {a b : List Token} {l : LhsTree} → IsLhs a b l → begins ends_side b ≡ true → 8 * length a + 8 ≤ n → side_by n a ≡ Some (l, b)
side_by_complete n (FunctionLhs (VarFunction {a = a} x y)) e h =
    let k : 8 * length a + 3 ≤ n = omega arith in
    ap (λ m. or_else m (or_else (pattern_side n a) (applied_side n (function_side n) a))) (var_side_complete n x y e k)
side_by_complete n (FunctionLhs (AppliedFunction {a = a} {b = b} {o = o} {c = c} f x g y)) e h =
    let s : length (c ∷ b) < length a = function_shorter x in
    let i : 8 * length a + 8 ≤ n = omega arith in
    let j : 8 * length b + 3 ≤ n = omega arith in
    ap (λ m. or_else m (or_else (pattern_side n (o ∷ a)) (applied_side n (function_side n) (o ∷ a)))) (paren_no_var n o f x)
    ∙ (ap (λ m. or_else m (applied_side n (function_side n) (o ∷ a))) (paren_no_pattern n o a (applied_apart f x g y))
    ∙ applied_complete n o (function_side n) f (function_complete n x (ap ends_side g) i) g y e j)
side_by_complete n (FunctionLhs (InfixFunction {a = a} x o y)) e h =
    let k : 8 * length a + 4 ≤ n = omega arith in
    ap (λ m. or_else m (or_else (pattern_side n a) (applied_side n (function_side n) a))) (infix_no_var x o n)
    ∙ ap (λ m. or_else m (applied_side n (function_side n) a)) (chain_complete n x o y e k)
side_by_complete n (PatternLhs {a = a} g x) e h =
    let k : 8 * length a + 4 ≤ n = omega arith in
    ap (λ m. or_else m (or_else (pattern_side n a) (applied_side n (function_side n) a))) (alone_no_var n g x e)
    ∙ ap (λ m. or_else m (applied_side n (function_side n) a)) (alone_complete n x e k)

-- A left side is read where a =, a bar or a closing parenthesis stands behind it.
pub side_complete : {a b : List Token} {l : LhsTree} → IsLhs a b l → begins ends_side b ≡ true → side_at a ≡ Some (l, b)
side_complete {a = a} d e = let h : 8 * length a + 8 ≤ enough a = omega arith in side_by_complete (enough a) d e h

abbrev tree_of : LhsTree → Found LhsTree → LhsTree
tree_of other None = other
tree_of other (Some p) = p.0

same_pair : {l m : LhsTree} {b c : List Token} → Path (Found LhsTree) (Some (l, b)) (Some (m, c)) → (l ≡ m) × (b ≡ c)
same_pair {l = l} e = (ap (tree_of l) e, ap end_of e)

-- There is one left side at a place.
pub sides_are_unique : {a b c : List Token} {l m : LhsTree} → IsLhs a b l → begins ends_side b ≡ true → IsLhs a c m → begins ends_side c ≡ true → (l ≡ m) × (b ≡ c)
sides_are_unique x e y f = same_pair (sym (side_complete x e) ∙ side_complete y f)
