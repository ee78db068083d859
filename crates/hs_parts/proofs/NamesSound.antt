-- What is read as a name or an operator is derived as one.
use Rattle.std.proofs.Common.{◌≡◌, ℕ, suc, zero, ◌+◌, Bool, true, false, cond, List, [], ◌∷◌, Option, Some, None, refl, sym, ap, ◌∙◌, subst, arith}
use Rattle.mk_base.specs.declared.place.Pos.{Pos}
use Rattle.hs_syntax.specs.declared.token.Token.{Token}
use Rattle.hs_syntax.specs.declared.sign.Sign.{Sign}
use Rattle.hs_syntax.specs.declared.sign.Sign.TheVariants.{Var, QualifiedVar, Con, QualifiedCon, ConSym, OpenParen, CloseParen, OpenSquare, CloseSquare, Comma, Backquote}
use Rattle.hs_syntax.specs.declared.name_ref.NameRef.{NameRef}
use Rattle.hs_syntax.specs.declared.name_ref.OpName.{OpName}
use Rattle.hs_syntax.specs.declared.name_ref.QopTree.{QopTree}
use Rattle.hs_syntax.specs.declared.name_ref.QopTree.TheVariants as qop
use Rattle.hs_syntax.specs.declared.pattern_tree.GconTree.{GconTree}
use Rattle.hs_syntax.specs.declared.pattern_tree.GconTree.TheVariants as gcon
use Rattle.hs_syntax.specs.Signs.{sign_of}
use Rattle.hs_syntax.specs.Names.{name_ref}
use Rattle.hs_syntax.specs.Reading.{Found, and_then, or_else_by, with_first, behind, with_sign, is_comma, is_close_paren, is_close_square, is_backquote}
use Rattle.hs_syntax.proofs.Sound.{Sound, sound_then, sound_as, sound_or_by, sound_sign}
use Rattle.hs_parts.specs.Names.{place, is_varsym, is_qvarsym, is_gconsym, is_qvarid, is_qconid}
use Rattle.hs_parts.specs.Names.{IsVar, VarIdVar, VarSymVar, IsQvar, VarIdQvar, VarSymQvar, IsQcon, ConIdQcon, ConSymQcon, IsCommas, LastComma, MoreCommas, IsGcon, ConGcon, UnitGcon, ListGcon, TupleGcon}
use Rattle.hs_parts.specs.Names.{IsQop, VarSymQop, ConSymQop, VarIdQop, ConIdQop, IsQconop, ConSymQconop, ConIdQconop, IsVarop, VarSymVarop, VarIdVarop, IsOp, VarSymOp, ConSymOp, VarIdOp, ConIdOp}
use Rattle.hs_parts.specs.NameReaders.{is_varid, is_conid, name_before, in_parens, in_quotes, var_by, var_at, qvar_by, qvar_at, qcon_by, qcon_at, commas_from, more_commas, paren_con_by, paren_con, gcon_by, gcon_at}
use Rattle.hs_parts.specs.NameReaders.{var_op, con_op, quoted_op, qop_by, qop_at, op_name, named_op, quoted_name, qconop_by, qconop_at, varop_by, varop_at, op_by, op_at}

-- a sign that is the one of its sort
pub comma_of : (k : Sign) → is_comma k ≡ true → k ≡ Comma
comma_of Comma e = refl
comma_of _ e = cc

pub close_paren_of : (k : Sign) → is_close_paren k ≡ true → k ≡ CloseParen
close_paren_of CloseParen e = refl
close_paren_of _ e = cc

pub close_square_of : (k : Sign) → is_close_square k ≡ true → k ≡ CloseSquare
close_square_of CloseSquare e = refl
close_square_of _ e = cc

pub backquote_of : (k : Sign) → is_backquote k ≡ true → k ≡ Backquote
backquote_of Backquote e = refl
backquote_of _ e = cc

varid_of : (k : Sign) → is_varid k ≡ true → k ≡ Var
varid_of Var e = refl
varid_of _ e = cc

conid_of : (k : Sign) → is_conid k ≡ true → k ≡ Con
conid_of Con e = refl
conid_of _ e = cc

-- a name with a sign behind it
before_close : (close : Sign → Bool) (Q : List Token → List Token → NameRef → Type 0) (t c : Token) (to : List Token)
    → (close (sign_of c) ≡ true → Q (t ∷ c ∷ to) to (name_ref t)) → (b : Bool) → close (sign_of c) ≡ b → Sound (Q (t ∷ c ∷ to)) (with_sign (cond b (Some to) None) (name_ref t))
before_close close Q t c to h true e = h e
before_close close Q t c to h false e = tt

before_name : (close p : Sign → Bool) (Q : List Token → List Token → NameRef → Type 0)
    → ((t c : Token) (to : List Token) → p (sign_of t) ≡ true → close (sign_of c) ≡ true → Q (t ∷ c ∷ to) to (name_ref t))
    → (t : Token) (ts : List Token) (b : Bool) → p (sign_of t) ≡ b → Sound (Q (t ∷ ts)) (cond b (with_sign (behind close ts) (name_ref t)) None)
before_name close p Q h t ts false e = tt
before_name close p Q h t [] true e = tt
before_name close p Q h t (c ∷ to) true e = before_close close Q t c to (h t c to e) (close (sign_of c)) refl

before_sound : (close p : Sign → Bool) (Q : List Token → List Token → NameRef → Type 0)
    → ((t c : Token) (to : List Token) → p (sign_of t) ≡ true → close (sign_of c) ≡ true → Q (t ∷ c ∷ to) to (name_ref t))
    → (ts : List Token) → Sound (Q ts) (name_before close p ts)
before_sound close p Q h [] = tt
before_sound close p Q h (t ∷ ts) = before_name close p Q h t ts (p (sign_of t)) refl

var_by_sound : (t : Token) (ts : List Token) (k : Sign) → sign_of t ≡ k → Sound (IsVar (t ∷ ts)) (var_by t ts k)
var_by_sound t ts Var e = VarIdVar e
var_by_sound t ts OpenParen e = before_sound is_close_paren is_varsym (λ a to n. IsVar (t ∷ a) to n) (λ v c to f g. VarSymVar e f (close_paren_of (sign_of c) g)) ts
var_by_sound t ts _ e = tt

pub var_sound : (ts : List Token) → Sound (IsVar ts) (var_at ts)
var_sound [] = tt
var_sound (t ∷ ts) = var_by_sound t ts (sign_of t) refl

qvar_by_sound : (t : Token) (ts : List Token) (k : Sign) → sign_of t ≡ k → Sound (IsQvar (t ∷ ts)) (qvar_by t ts k)
qvar_by_sound t ts Var e = VarIdQvar (ap is_qvarid e)
qvar_by_sound t ts QualifiedVar e = VarIdQvar (ap is_qvarid e)
qvar_by_sound t ts OpenParen e = before_sound is_close_paren is_qvarsym (λ a to n. IsQvar (t ∷ a) to n) (λ v c to f g. VarSymQvar e f (close_paren_of (sign_of c) g)) ts
qvar_by_sound t ts _ e = tt

pub qvar_sound : (ts : List Token) → Sound (IsQvar ts) (qvar_at ts)
qvar_sound [] = tt
qvar_sound (t ∷ ts) = qvar_by_sound t ts (sign_of t) refl

qcon_by_sound : (t : Token) (ts : List Token) (k : Sign) → sign_of t ≡ k → Sound (IsQcon (t ∷ ts)) (qcon_by t ts k)
qcon_by_sound t ts Con e = ConIdQcon (ap is_qconid e)
qcon_by_sound t ts QualifiedCon e = ConIdQcon (ap is_qconid e)
qcon_by_sound t ts OpenParen e = before_sound is_close_paren is_gconsym (λ a to n. IsQcon (t ∷ a) to n) (λ v c to f g. ConSymQcon e f (close_paren_of (sign_of c) g)) ts
qcon_by_sound t ts _ e = tt

pub qcon_sound : (ts : List Token) → Sound (IsQcon ts) (qcon_at ts)
qcon_sound [] = tt
qcon_sound (t ∷ ts) = qcon_by_sound t ts (sign_of t) refl

-- commas behind one
abbrev CommasFrom : Token → List Token → ℕ → ℕ × List Token → Type 0
CommasFrom t ts n m = (k : ℕ) × (m.0 ≡ n + k) × IsCommas (t ∷ ts) m.1 k

commas_next : (u : Token) (ts : List Token) (t : Token) → sign_of t ≡ Comma → (n : ℕ) → (is_comma (sign_of u) ≡ true → CommasFrom u ts (suc n) (commas_from ts (suc (suc n))))
    → (b : Bool) → is_comma (sign_of u) ≡ b → CommasFrom t (u ∷ ts) n (cond b (commas_from ts (suc (suc n))) (suc n, u ∷ ts))
commas_next u ts t e n m true f =
    let g : (commas_from ts (suc (suc n))).0 ≡ suc n + (m f).0 = (m f).1 in
    let h : (commas_from ts (suc (suc n))).0 ≡ n + suc (m f).0 = omega arith in
    (suc (m f).0, h, MoreCommas e (m f).2)
commas_next u ts t e n m false f = let h : suc n ≡ n + 1 = omega arith in (1, h, LastComma e)

commas_sound : (ts : List Token) (t : Token) → sign_of t ≡ Comma → (n : ℕ) → CommasFrom t ts n (commas_from ts (suc n))
commas_sound [] t e n = let h : suc n ≡ n + 1 = omega arith in (1, h, LastComma e)
commas_sound (u ∷ ts) t e n = commas_next u ts t e n (λ f. commas_sound ts u (comma_of (sign_of u) f) (suc n)) (is_comma (sign_of u)) refl

-- the commas of a constructor of tuples, with the closing parenthesis
abbrev pub Commas : Token → List Token → List Token → ℕ → Type 0
Commas t ts to n = (c : Token) × IsCommas (t ∷ ts) (c ∷ to) n × (sign_of c ≡ CloseParen)

more_commas_count : (t : Token) (e : sign_of t ≡ Comma) (ts : List Token) → (commas_from ts 1).0 ≡ (commas_sound ts t e 0).0
more_commas_count t e ts = let h : (commas_from ts 1).0 ≡ 0 + (commas_sound ts t e 0).0 = (commas_sound ts t e 0).1 in omega arith

pub more_commas_sound : (t : Token) → sign_of t ≡ Comma → (ts : List Token) → Sound (Commas t ts) (more_commas ts)
more_commas_sound t e ts = sound_sign is_close_paren (Commas t ts) (commas_from ts 1).1 (commas_from ts 1).0
    (λ c to g f. (c, subst (λ n. IsCommas (t ∷ ts) (c ∷ to) n) (sym (more_commas_count t e ts)) (subst (λ z. IsCommas (t ∷ ts) z (commas_sound ts t e 0).0) g (commas_sound ts t e 0).2), close_paren_of (sign_of c) f))

paren_con_by_sound : (o : Token) → sign_of o ≡ OpenParen → (t : Token) (ts : List Token) (k : Sign) → sign_of t ≡ k → Sound (IsGcon (o ∷ t ∷ ts)) (paren_con_by o.at t ts k)
paren_con_by_sound o e t ts CloseParen f = UnitGcon e f
paren_con_by_sound o e t ts Comma f = sound_then (Commas t ts) (IsGcon (o ∷ t ∷ ts)) (more_commas ts) (λ n rest. Some (gcon.Tuple o.at n, rest)) (more_commas_sound t f ts)
    (λ n rest c. TupleGcon e c.1 c.2)
paren_con_by_sound o e t ts _ f = sound_then (λ to n. IsQcon (o ∷ t ∷ ts) to n) (IsGcon (o ∷ t ∷ ts)) (in_parens is_gconsym (t ∷ ts)) (λ n rest. Some (gcon.Con o.at n, rest))
    (before_sound is_close_paren is_gconsym (λ a to n. IsQcon (o ∷ a) to n) (λ v c to g h. ConSymQcon e g (close_paren_of (sign_of c) h)) (t ∷ ts))
    (λ n rest d. ConGcon d)

paren_con_sound : (o : Token) → sign_of o ≡ OpenParen → (ts : List Token) → Sound (IsGcon (o ∷ ts)) (paren_con o.at ts)
paren_con_sound o e [] = tt
paren_con_sound o e (t ∷ ts) = paren_con_by_sound o e t ts (sign_of t) refl

gcon_by_sound : (t : Token) (ts : List Token) (k : Sign) → sign_of t ≡ k → Sound (IsGcon (t ∷ ts)) (gcon_by t ts k)
gcon_by_sound t ts Con e = ConGcon (ConIdQcon (ap is_qconid e))
gcon_by_sound t ts QualifiedCon e = ConGcon (ConIdQcon (ap is_qconid e))
gcon_by_sound t ts OpenParen e = paren_con_sound t e ts
gcon_by_sound t ts OpenSquare e = sound_sign is_close_square (IsGcon (t ∷ ts)) ts (gcon.List t.at)
    (λ c to g f. subst (λ z. IsGcon (t ∷ z) to (gcon.List t.at)) (sym g) (ListGcon e (close_square_of (sign_of c) f)))
gcon_by_sound t ts _ e = tt

pub gcon_sound : (ts : List Token) → Sound (IsGcon ts) (gcon_at ts)
gcon_sound [] = tt
gcon_sound (t ∷ ts) = gcon_by_sound t ts (sign_of t) refl

-- an operator between backquotes
quoted_op_sound : (Q : List Token → List Token → QopTree → Type 0) (o : Token) (p q : Sign → Bool)
    → ((t c : Token) (to : List Token) → p (sign_of t) ≡ true → is_backquote (sign_of c) ≡ true → Q (t ∷ c ∷ to) to (qop.Var o.at (name_ref t)))
    → ((t c : Token) (to : List Token) → q (sign_of t) ≡ true → is_backquote (sign_of c) ≡ true → Q (t ∷ c ∷ to) to (qop.Con o.at (name_ref t)))
    → (ts : List Token) → Sound (Q ts) (quoted_op o.at p q ts)
quoted_op_sound Q o p q h k ts = sound_or_by (λ to n. Q ts to (qop.Var o.at n)) (Q ts) (in_quotes p ts) (λ n rest. Some (qop.Var o.at n, rest))
    (and_then (in_quotes q ts) (λ n rest. Some (qop.Con o.at n, rest)))
    (before_sound is_backquote p (λ a to n. Q a to (qop.Var o.at n)) h ts) (λ n rest d. d)
    (sound_then (λ to n. Q ts to (qop.Con o.at n)) (Q ts) (in_quotes q ts) (λ n rest. Some (qop.Con o.at n, rest))
    (before_sound is_backquote q (λ a to n. Q a to (qop.Con o.at n)) k ts) (λ n rest d. d))

qop_symbol : (t : Token) (ts : List Token) (b c : Bool) → is_qvarsym (sign_of t) ≡ b → is_gconsym (sign_of t) ≡ c
    → Sound (IsQop (t ∷ ts)) (cond b (var_op t.at t ts) (cond c (con_op t.at t ts) None))
qop_symbol t ts true c e f = VarSymQop e
qop_symbol t ts false true e f = ConSymQop f
qop_symbol t ts false false e f = tt

qop_by_sound : (t : Token) (ts : List Token) (k : Sign) → sign_of t ≡ k → Sound (IsQop (t ∷ ts)) (qop_by t ts k)
qop_by_sound t ts Backquote e = quoted_op_sound (λ a to q. IsQop (t ∷ a) to q) t is_qvarid is_qconid (λ v c to f g. VarIdQop e f (backquote_of (sign_of c) g)) (λ v c to f g. ConIdQop e f (backquote_of (sign_of c) g)) ts
qop_by_sound t ts k e = qop_symbol t ts (is_qvarsym k) (is_gconsym k) (ap is_qvarsym e) (ap is_gconsym e)

pub qop_sound : (ts : List Token) → Sound (IsQop ts) (qop_at ts)
qop_sound [] = tt
qop_sound (t ∷ ts) = qop_by_sound t ts (sign_of t) refl

quoted_name_sound : (Q : List Token → List Token → OpName → Type 0) (o : Token) (p : Sign → Bool)
    → ((t c : Token) (to : List Token) → p (sign_of t) ≡ true → is_backquote (sign_of c) ≡ true → Q (t ∷ c ∷ to) to (op_name o.at (name_ref t)))
    → (ts : List Token) → Sound (Q ts) (quoted_name o.at p ts)
quoted_name_sound Q o p h ts = sound_then (λ to n. Q ts to (op_name o.at n)) (Q ts) (in_quotes p ts) (λ n rest. Some (op_name o.at n, rest))
    (before_sound is_backquote p (λ a to n. Q a to (op_name o.at n)) h ts) (λ n rest d. d)

qconop_symbol : (t : Token) (ts : List Token) (b : Bool) → is_gconsym (sign_of t) ≡ b → Sound (IsQconop (t ∷ ts)) (cond b (named_op t.at t ts) None)
qconop_symbol t ts true e = ConSymQconop e
qconop_symbol t ts false e = tt

qconop_by_sound : (t : Token) (ts : List Token) (k : Sign) → sign_of t ≡ k → Sound (IsQconop (t ∷ ts)) (qconop_by t ts k)
qconop_by_sound t ts Backquote e = quoted_name_sound (λ a to q. IsQconop (t ∷ a) to q) t is_qconid (λ v c to f g. ConIdQconop e f (backquote_of (sign_of c) g)) ts
qconop_by_sound t ts k e = qconop_symbol t ts (is_gconsym k) (ap is_gconsym e)

pub qconop_sound : (ts : List Token) → Sound (IsQconop ts) (qconop_at ts)
qconop_sound [] = tt
qconop_sound (t ∷ ts) = qconop_by_sound t ts (sign_of t) refl

varop_symbol : (t : Token) (ts : List Token) (b : Bool) → is_varsym (sign_of t) ≡ b → Sound (IsVarop (t ∷ ts)) (cond b (named_op t.at t ts) None)
varop_symbol t ts true e = VarSymVarop e
varop_symbol t ts false e = tt

varop_by_sound : (t : Token) (ts : List Token) (k : Sign) → sign_of t ≡ k → Sound (IsVarop (t ∷ ts)) (varop_by t ts k)
varop_by_sound t ts Backquote e = quoted_name_sound (λ a to q. IsVarop (t ∷ a) to q) t is_varid (λ v c to f g. VarIdVarop e (varid_of (sign_of v) f) (backquote_of (sign_of c) g)) ts
varop_by_sound t ts k e = varop_symbol t ts (is_varsym k) (ap is_varsym e)

pub varop_sound : (ts : List Token) → Sound (IsVarop ts) (varop_at ts)
varop_sound [] = tt
varop_sound (t ∷ ts) = varop_by_sound t ts (sign_of t) refl

op_symbol : (t : Token) (ts : List Token) (b : Bool) → is_varsym (sign_of t) ≡ b → Sound (IsOp (t ∷ ts)) (cond b (var_op t.at t ts) None)
op_symbol t ts true e = VarSymOp e
op_symbol t ts false e = tt

op_by_sound : (t : Token) (ts : List Token) (k : Sign) → sign_of t ≡ k → Sound (IsOp (t ∷ ts)) (op_by t ts k)
op_by_sound t ts Backquote e = quoted_op_sound (λ a to q. IsOp (t ∷ a) to q) t is_varid is_conid
    (λ v c to f g. VarIdOp e (varid_of (sign_of v) f) (backquote_of (sign_of c) g)) (λ v c to f g. ConIdOp e (conid_of (sign_of v) f) (backquote_of (sign_of c) g)) ts
op_by_sound t ts ConSym e = ConSymOp e
op_by_sound t ts k e = op_symbol t ts (is_varsym k) (ap is_varsym e)

pub op_sound : (ts : List Token) → Sound (IsOp ts) (op_at ts)
op_sound [] = tt
op_sound (t ∷ ts) = op_by_sound t ts (sign_of t) refl
