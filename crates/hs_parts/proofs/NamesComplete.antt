-- What is derived as a name or an operator is read as it.
use Rattle.std.proofs.Common.{◌≡◌, ℕ, suc, zero, ◌+◌, ◌<◌, ◌≤◌, Bool, true, false, cond, List, [], ◌∷◌, length, Option, Some, None, refl, sym, ap, ◌∙◌, subst, arith}
use Rattle.mk_base.specs.declared.place.Pos.{Pos}
use Rattle.hs_syntax.specs.declared.token.Token.{Token}
use Rattle.hs_syntax.specs.declared.sign.Sign.{Sign}
use Rattle.hs_syntax.specs.declared.sign.Sign.TheVariants.{Var, QualifiedVar, Con, QualifiedCon, Minus, Bang, Star, VarSym, QualifiedVarSym, ConSym, QualifiedConSym, Colon, OpenParen, CloseParen, OpenSquare, CloseSquare, Comma, Backquote}
use Rattle.hs_syntax.specs.declared.name_ref.NameRef.{NameRef}
use Rattle.hs_syntax.specs.declared.name_ref.OpName.{OpName}
use Rattle.hs_syntax.specs.declared.name_ref.QopTree.{QopTree}
use Rattle.hs_syntax.specs.declared.name_ref.QopTree.TheVariants as qop
use Rattle.hs_syntax.specs.declared.pattern_tree.GconTree.{GconTree}
use Rattle.hs_syntax.specs.declared.pattern_tree.GconTree.TheVariants as gcon
use Rattle.hs_syntax.specs.Signs.{sign_of}
use Rattle.hs_syntax.specs.Names.{name_ref}
use Rattle.hs_syntax.specs.Reading.{Found, and_then, or_else_by, with_first, begins, behind, with_sign, is_comma, is_close_paren, is_close_square, is_backquote}
use Rattle.hs_parts.specs.Names.{place, is_varsym, is_qvarsym, is_gconsym, is_qvarid, is_qconid}
use Rattle.hs_parts.specs.Names.{IsVar, VarIdVar, VarSymVar, IsQvar, VarIdQvar, VarSymQvar, IsQcon, ConIdQcon, ConSymQcon, IsCommas, LastComma, MoreCommas, IsGcon, ConGcon, UnitGcon, ListGcon, TupleGcon}
use Rattle.hs_parts.specs.Names.{IsQop, VarSymQop, ConSymQop, VarIdQop, ConIdQop, IsQconop, ConSymQconop, ConIdQconop, IsVarop, VarSymVarop, VarIdVarop, IsOp, VarSymOp, ConSymOp, VarIdOp, ConIdOp}
use Rattle.hs_parts.specs.NameReaders.{is_varid, is_conid, named, named_con, name_before, in_parens, in_quotes, var_by, var_at, qvar_by, qvar_at, qcon_by, qcon_at, commas_from, more_commas, paren_con_by, paren_con, gcon_by, gcon_at}
use Rattle.hs_parts.specs.NameReaders.{var_op, con_op, quoted_op, qop_by, qop_at, op_name, named_op, quoted_name, qconop_by, qconop_at, varop_by, varop_at, op_by, op_at}

-- each takes tokens
pub var_shorter : {a b : List Token} {n : NameRef} → IsVar a b n → length b < length a
var_shorter (VarIdVar e) = omega arith
var_shorter (VarSymVar e f g) = omega arith

pub qvar_shorter : {a b : List Token} {n : NameRef} → IsQvar a b n → length b < length a
qvar_shorter (VarIdQvar e) = omega arith
qvar_shorter (VarSymQvar e f g) = omega arith

pub qcon_shorter : {a b : List Token} {n : NameRef} → IsQcon a b n → length b < length a
qcon_shorter (ConIdQcon e) = omega arith
qcon_shorter (ConSymQcon e f g) = omega arith

pub commas_shorter : {a b : List Token} {n : ℕ} → IsCommas a b n → length b < length a
commas_shorter (LastComma e) = omega arith
commas_shorter (MoreCommas {a} {b} e x) = let h : length b < length a = commas_shorter x in omega arith

pub gcon_shorter : {a b : List Token} {g : GconTree} → IsGcon a b g → length b < length a
gcon_shorter (ConGcon x) = qcon_shorter x
gcon_shorter (UnitGcon e f) = omega arith
gcon_shorter (ListGcon e f) = omega arith
gcon_shorter (TupleGcon {a} {b} {o} {c} e x f) = let h : length (c ∷ b) < length a = commas_shorter x in omega arith

pub qop_shorter : {a b : List Token} {q : QopTree} → IsQop a b q → length b < length a
qop_shorter (VarSymQop e) = omega arith
qop_shorter (ConSymQop e) = omega arith
qop_shorter (VarIdQop e f g) = omega arith
qop_shorter (ConIdQop e f g) = omega arith

pub qconop_shorter : {a b : List Token} {q : OpName} → IsQconop a b q → length b < length a
qconop_shorter (ConSymQconop e) = omega arith
qconop_shorter (ConIdQconop e f g) = omega arith

pub varop_shorter : {a b : List Token} {q : OpName} → IsVarop a b q → length b < length a
varop_shorter (VarSymVarop e) = omega arith
varop_shorter (VarIdVarop e f g) = omega arith

pub op_shorter : {a b : List Token} {q : QopTree} → IsOp a b q → length b < length a
op_shorter (VarSymOp e) = omega arith
op_shorter (ConSymOp e) = omega arith
op_shorter (VarIdOp e f g) = omega arith
op_shorter (ConIdOp e f g) = omega arith

-- a name with a sign behind it
before_complete : (close p : Sign → Bool) (t c : Token) (a : List Token) → p (sign_of t) ≡ true → close (sign_of c) ≡ true → name_before close p (t ∷ c ∷ a) ≡ Some (name_ref t, a)
before_complete close p t c a e f = ap (λ b. let m : Found NameRef = cond b (with_sign (behind close (c ∷ a)) (name_ref t)) None in m) e ∙ ap (λ b. with_sign (cond b (Some a) None) (name_ref t)) f

-- and none
no_before : (close p : Sign → Bool) (t c : Token) (a : List Token) → p (sign_of t) ≡ false → name_before close p (t ∷ c ∷ a) ≡ None
no_before close p t c a e = ap (λ b. let m : Found NameRef = cond b (with_sign (behind close (c ∷ a)) (name_ref t)) None in m) e

pub var_complete : {a b : List Token} {n : NameRef} → IsVar a b n → var_at a ≡ Some (n, b)
var_complete (VarIdVar {a = a} {t = t} e) = ap (var_by t a) e
var_complete (VarSymVar {a = a} {o = o} {t = t} {c = c} e f g) = ap (var_by o (t ∷ c ∷ a)) e ∙ before_complete is_close_paren is_varsym t c a f (ap is_close_paren g)

qvarid_named : (t : Token) (a : List Token) (k : Sign) → is_qvarid k ≡ true → qvar_by t a k ≡ Some (name_ref t, a)
qvarid_named t a Var e = refl
qvarid_named t a QualifiedVar e = refl
qvarid_named t a _ e = cc

pub qvar_complete : {a b : List Token} {n : NameRef} → IsQvar a b n → qvar_at a ≡ Some (n, b)
qvar_complete (VarIdQvar {a = a} {t = t} e) = qvarid_named t a (sign_of t) e
qvar_complete (VarSymQvar {a = a} {o = o} {t = t} {c = c} e f g) = ap (qvar_by o (t ∷ c ∷ a)) e ∙ before_complete is_close_paren is_qvarsym t c a f (ap is_close_paren g)

qconid_named : (t : Token) (a : List Token) (k : Sign) → is_qconid k ≡ true → qcon_by t a k ≡ Some (name_ref t, a)
qconid_named t a Con e = refl
qconid_named t a QualifiedCon e = refl
qconid_named t a _ e = cc

pub qcon_complete : {a b : List Token} {n : NameRef} → IsQcon a b n → qcon_at a ≡ Some (n, b)
qcon_complete (ConIdQcon {a = a} {t = t} e) = qconid_named t a (sign_of t) e
qcon_complete (ConSymQcon {a = a} {o = o} {t = t} {c = c} e f g) = ap (qcon_by o (t ∷ c ∷ a)) e ∙ before_complete is_close_paren is_gconsym t c a f (ap is_close_paren g)

pair_of : {m n : ℕ} → m ≡ n → (b : List Token) → Path (ℕ × List Token) (m, b) (n, b)
pair_of e b = ap (λ k. let p : ℕ × List Token = (k, b) in p) e

commas_end : (b : List Token) (n : ℕ) → begins is_comma b ≡ false → commas_from b n ≡ (n, b)
commas_end [] n e = refl
commas_end (t ∷ ts) n e = ap (λ c. cond c (commas_from ts (suc n)) (n, t ∷ ts)) e

commas_complete : {a b : List Token} {k : ℕ} → IsCommas a b k → begins is_comma b ≡ false → (n : ℕ) → commas_from a n ≡ (n + k, b)
commas_complete (LastComma {a = a} {t = t} e) f n =
    let h : suc n ≡ n + 1 = omega arith in
    ap (λ c. cond c (commas_from a (suc n)) (n, t ∷ a)) (ap is_comma e) ∙ (commas_end a (suc n) f ∙ pair_of h a)
commas_complete (MoreCommas {a = a} {b = b} {t = t} {n = k} e x) f n =
    let h : suc n + k ≡ n + suc k = omega arith in
    ap (λ c. cond c (commas_from a (suc n)) (n, t ∷ a)) (ap is_comma e) ∙ (commas_complete x f (suc n) ∙ pair_of h b)

-- commas begin with one
commas_first : {a b : List Token} {k : ℕ} → IsCommas a b k → (t : Token) × (ts : List Token) × (a ≡ t ∷ ts) × (sign_of t ≡ Comma)
commas_first (LastComma {a = a} {t = t} e) = (t, a, refl, e)
commas_first (MoreCommas {a = a} {t = t} e x) = (t, a, refl, e)

pub more_commas_complete : {t c : Token} {a b : List Token} {k : ℕ} → IsCommas (t ∷ a) (c ∷ b) k → sign_of t ≡ Comma → sign_of c ≡ CloseParen → more_commas a ≡ Some (k, b)
more_commas_complete {t = t} {c = c} {a = a} {b = b} {k = k} x e f =
    let h : 0 + k ≡ k = omega arith in
    let g : commas_from a 1 ≡ (k, c ∷ b) = sym (ap (λ d. cond d (commas_from a 1) (0, t ∷ a)) (ap is_comma e)) ∙ (commas_complete x (ap is_comma f) 0 ∙ pair_of h (c ∷ b)) in
    ap (λ m. with_sign (behind is_close_paren m.1) m.0) g ∙ ap (λ s. with_sign (cond (is_close_paren s) (Some b) None) k) f

-- behind an opening parenthesis
paren_symbol : (at : Pos) (t c : Token) (a : List Token) (k : Sign) → is_gconsym k ≡ true → paren_con_by at t (c ∷ a) k ≡ and_then (in_parens is_gconsym (t ∷ c ∷ a)) (λ n rest. Some (gcon.Con at n, rest))
paren_symbol at t c a CloseParen e = cc
paren_symbol at t c a Comma e = cc
paren_symbol at t c a _ e = refl

qconid_gcon : (t : Token) (a : List Token) (k : Sign) → is_qconid k ≡ true → gcon_by t a k ≡ Some (gcon.Con t.at (name_ref t), a)
qconid_gcon t a Con e = refl
qconid_gcon t a QualifiedCon e = refl
qconid_gcon t a _ e = cc

paren_commas : (o : Token) {a : List Token} {c : Token} {b : List Token} {k : ℕ} → IsCommas a (c ∷ b) k → sign_of c ≡ CloseParen → paren_con o.at a ≡ Some (gcon.Tuple o.at k, b)
paren_commas o (LastComma {a = a} {t = t} e) f = ap (paren_con_by o.at t a) e ∙ ap (λ m. and_then m (λ n rest. let r : Found GconTree = Some (gcon.Tuple o.at n, rest) in r)) (more_commas_complete (LastComma {a = a} {t = t} e) e f)
paren_commas o (MoreCommas {a = a} {t = t} e x) f = ap (paren_con_by o.at t a) e ∙ ap (λ m. and_then m (λ n rest. let r : Found GconTree = Some (gcon.Tuple o.at n, rest) in r)) (more_commas_complete (MoreCommas {t = t} e x) e f)

pub gcon_complete : {a b : List Token} {g : GconTree} → IsGcon a b g → gcon_at a ≡ Some (g, b)
gcon_complete (ConGcon (ConIdQcon {a = a} {t = t} e)) = qconid_gcon t a (sign_of t) e
gcon_complete (ConGcon (ConSymQcon {a = a} {o = o} {t = t} {c = c} e f g)) =
    ap (gcon_by o (t ∷ c ∷ a)) e ∙ paren_symbol o.at t c a (sign_of t) f
    ∙ ap (λ m. and_then m (λ n rest. let r : Found GconTree = Some (gcon.Con o.at n, rest) in r)) (before_complete is_close_paren is_gconsym t c a f (ap is_close_paren g))
gcon_complete (UnitGcon {a = a} {o = o} {c = c} e f) = ap (gcon_by o (c ∷ a)) e ∙ ap (paren_con_by o.at c a) f
gcon_complete (ListGcon {a = a} {o = o} {c = c} e f) = ap (gcon_by o (c ∷ a)) e ∙ ap (λ s. with_sign (cond (is_close_square s) (Some a) None) (gcon.List o.at)) f
gcon_complete (TupleGcon {a = a} {o = o} e x f) = ap (gcon_by o a) e ∙ paren_commas o x f

-- signs of one sort are of no other
varid_no_con : (k : Sign) → is_qconid k ≡ true → is_qvarid k ≡ false
varid_no_con Con e = refl
varid_no_con QualifiedCon e = refl
varid_no_con _ e = cc

conid_no_var : (k : Sign) → k ≡ Con → is_varid k ≡ false
conid_no_var k e = ap is_varid e

-- a symbol is no backquote
qop_varsym : (t : Token) (a : List Token) (k : Sign) → is_qvarsym k ≡ true → qop_by t a k ≡ var_op t.at t a
qop_varsym t a Backquote e = cc
qop_varsym t a k e = ap (λ b. cond b (var_op t.at t a) (cond (is_gconsym k) (con_op t.at t a) None)) e

qop_consym : (t : Token) (a : List Token) (k : Sign) → is_gconsym k ≡ true → qop_by t a k ≡ con_op t.at t a
qop_consym t a Colon e = refl
qop_consym t a ConSym e = refl
qop_consym t a QualifiedConSym e = refl
qop_consym t a _ e = cc

quoted_var : (at : Pos) (p q : Sign → Bool) (t c : Token) (a : List Token) → p (sign_of t) ≡ true → sign_of c ≡ Backquote → quoted_op at p q (t ∷ c ∷ a) ≡ Some (qop.Var at (name_ref t), a)
quoted_var at p q t c a e f = ap (λ m. or_else_by m (λ n rest. let r : Found QopTree = Some (qop.Var at n, rest) in r) (and_then (in_quotes q (t ∷ c ∷ a)) (λ n rest. let r : Found QopTree = Some (qop.Con at n, rest) in r)))
    (before_complete is_backquote p t c a e (ap is_backquote f))

quoted_con : (at : Pos) (p q : Sign → Bool) (t c : Token) (a : List Token) → p (sign_of t) ≡ false → q (sign_of t) ≡ true → sign_of c ≡ Backquote → quoted_op at p q (t ∷ c ∷ a) ≡ Some (qop.Con at (name_ref t), a)
quoted_con at p q t c a e g f = ap (λ m. or_else_by m (λ n rest. let r : Found QopTree = Some (qop.Var at n, rest) in r) (and_then (in_quotes q (t ∷ c ∷ a)) (λ n rest. let r : Found QopTree = Some (qop.Con at n, rest) in r)))
    (no_before is_backquote p t c a e)
    ∙ ap (λ m. and_then m (λ n rest. let r : Found QopTree = Some (qop.Con at n, rest) in r)) (before_complete is_backquote q t c a g (ap is_backquote f))

pub qop_complete : {a b : List Token} {q : QopTree} → IsQop a b q → qop_at a ≡ Some (q, b)
qop_complete (VarSymQop {a = a} {t = t} e) = qop_varsym t a (sign_of t) e
qop_complete (ConSymQop {a = a} {t = t} e) = qop_consym t a (sign_of t) e
qop_complete (VarIdQop {a = a} {o = o} {t = t} {c = c} e f g) = ap (qop_by o (t ∷ c ∷ a)) e ∙ quoted_var o.at is_qvarid is_qconid t c a f g
qop_complete (ConIdQop {a = a} {o = o} {t = t} {c = c} e f g) = ap (qop_by o (t ∷ c ∷ a)) e ∙ quoted_con o.at is_qvarid is_qconid t c a (varid_no_con (sign_of t) f) f g

quoted_name_complete : (at : Pos) (p : Sign → Bool) (t c : Token) (a : List Token) → p (sign_of t) ≡ true → sign_of c ≡ Backquote → quoted_name at p (t ∷ c ∷ a) ≡ Some (op_name at (name_ref t), a)
quoted_name_complete at p t c a e f = ap (λ m. and_then m (λ n rest. let r : Found OpName = Some (op_name at n, rest) in r)) (before_complete is_backquote p t c a e (ap is_backquote f))

qconop_symbol : (t : Token) (a : List Token) (k : Sign) → is_gconsym k ≡ true → qconop_by t a k ≡ named_op t.at t a
qconop_symbol t a Backquote e = cc
qconop_symbol t a k e = ap (λ b. cond b (named_op t.at t a) None) e

pub qconop_complete : {a b : List Token} {q : OpName} → IsQconop a b q → qconop_at a ≡ Some (q, b)
qconop_complete (ConSymQconop {a = a} {t = t} e) = qconop_symbol t a (sign_of t) e
qconop_complete (ConIdQconop {a = a} {o = o} {t = t} {c = c} e f g) = ap (qconop_by o (t ∷ c ∷ a)) e ∙ quoted_name_complete o.at is_qconid t c a f g

varop_symbol : (t : Token) (a : List Token) (k : Sign) → is_varsym k ≡ true → varop_by t a k ≡ named_op t.at t a
varop_symbol t a Backquote e = cc
varop_symbol t a k e = ap (λ b. cond b (named_op t.at t a) None) e

pub varop_complete : {a b : List Token} {q : OpName} → IsVarop a b q → varop_at a ≡ Some (q, b)
varop_complete (VarSymVarop {a = a} {t = t} e) = varop_symbol t a (sign_of t) e
varop_complete (VarIdVarop {a = a} {o = o} {t = t} {c = c} e f g) = ap (varop_by o (t ∷ c ∷ a)) e ∙ quoted_name_complete o.at is_varid t c a (ap is_varid f) g

op_symbol : (t : Token) (a : List Token) (k : Sign) → is_varsym k ≡ true → op_by t a k ≡ var_op t.at t a
op_symbol t a Backquote e = cc
op_symbol t a ConSym e = cc
op_symbol t a k e = ap (λ b. cond b (var_op t.at t a) None) e

pub op_complete : {a b : List Token} {q : QopTree} → IsOp a b q → op_at a ≡ Some (q, b)
op_complete (VarSymOp {a = a} {t = t} e) = op_symbol t a (sign_of t) e
op_complete (ConSymOp {a = a} {t = t} e) = ap (op_by t a) e
op_complete (VarIdOp {a = a} {o = o} {t = t} {c = c} e f g) = ap (op_by o (t ∷ c ∷ a)) e ∙ quoted_var o.at is_varid is_conid t c a (ap is_varid f) g
op_complete (ConIdOp {a = a} {o = o} {t = t} {c = c} e f g) = ap (op_by o (t ∷ c ∷ a)) e ∙ quoted_con o.at is_varid is_conid t c a (conid_no_var (sign_of t) f) (ap is_conid f) g
