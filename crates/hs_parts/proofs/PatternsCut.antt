-- Patterns and left sides are passed over whole where no sign of their own level counts.
use Rattle.std.proofs.Common.{◌≡◌, ℕ, suc, zero, Bool, true, false, List, [], ◌∷◌, refl, sym, ap, ◌∙◌}
use Rattle.hs_syntax.specs.declared.token.Token.{Token}
use Rattle.hs_syntax.specs.declared.sign.Sign.{Sign}
use Rattle.hs_syntax.specs.declared.sign.Sign.TheVariants.{Var, QualifiedVar, Con, QualifiedCon, Minus, Bang, Star, VarSym, QualifiedVarSym, ConSym, QualifiedConSym, Colon, Number, Quoted, OpenBrace, CloseBrace, OpenParen, CloseParen, OpenSquare, CloseSquare, Comma, Backquote, Wild, Equals, As, Tilde}
use Rattle.hs_syntax.specs.declared.name_ref.NameRef.{NameRef}
use Rattle.hs_syntax.specs.declared.name_ref.OpName.{OpName}
use Rattle.hs_syntax.specs.declared.name_ref.QopTree.{QopTree}
use Rattle.hs_syntax.specs.declared.pattern_tree.GconTree.{GconTree}
use Rattle.hs_syntax.specs.declared.pattern_tree.PatTree.{PatTree}
use Rattle.hs_syntax.specs.declared.pattern_tree.PatLink.{PatLink}
use Rattle.hs_syntax.specs.declared.pattern_tree.PatOperand.{PatOperand}
use Rattle.hs_syntax.specs.declared.pattern_tree.ApatTree.{ApatTree}
use Rattle.hs_syntax.specs.declared.pattern_tree.FpatTree.{FpatTree}
use Rattle.hs_syntax.specs.declared.pattern_tree.LhsTree.{LhsTree}
use Rattle.hs_syntax.specs.Signs.{sign_of}
use Rattle.hs_syntax.proofs.Cut.{cut, pass, inner, opens, closes, is_plain}
use Rattle.hs_parts.specs.Names.{is_varsym, is_qvarsym, is_gconsym, is_qvarid, is_qconid}
use Rattle.hs_parts.specs.Names.{IsVar, VarIdVar, VarSymVar, IsQvar, VarIdQvar, VarSymQvar, IsQcon, ConIdQcon, ConSymQcon, IsGcon, ConGcon, UnitGcon, ListGcon, TupleGcon, IsQconop, ConSymQconop, ConIdQconop, IsVarop, VarSymVarop, VarIdVarop, IsQop, VarSymQop, ConSymQop, VarIdQop, ConIdQop}
use Rattle.hs_parts.specs.Grammar.{IsPattern, ChainPattern, IsOperands, LastOperand, MoreOperands, IsOperand, NumberOperand, MinusOperand, AppliedOperand, SingleOperand, IsApats, NoApats, MoreApats, IsApat, ConApat, NumberApat, SingleApat}
use Rattle.hs_parts.specs.Grammar.{IsSingle, VarSingle, AsSingle, EmptySingle, RecordSingle, QuotedSingle, WildSingle, TupleSingle, ListSingle, LazySingle, IsPatterns, LastPattern, MorePatterns, IsFpats, LastFpat, MoreFpats, IsFpat, FieldFpat}
use Rattle.hs_parts.specs.Grammar.{IsFunction, VarFunction, AppliedFunction, InfixFunction, IsLhs, FunctionLhs, PatternLhs, IsVars, LastVar, MoreVars}
use Rattle.hs_parts.proofs.TypesCut.{NoCon, con_cut, qconid_plain, qvarid_plain, gconsym_plain, varsym_plain, qvarsym_plain, commas_inner}

-- a sort of signs that is in no apat at its level
pub record NoApat (p : Sign → List Token → Bool) : Type 0 where
  pub var : (ts : List Token) → p Var ts ≡ false
  pub con : (ts : List Token) → p Con ts ≡ false
  pub qcon : (ts : List Token) → p QualifiedCon ts ≡ false
  pub number : (ts : List Token) → p Number ts ≡ false
  pub quoted : (ts : List Token) → p Quoted ts ≡ false
  pub wild : (ts : List Token) → p Wild ts ≡ false
  pub at : (ts : List Token) → p As ts ≡ false
  pub tilde : (ts : List Token) → p Tilde ts ≡ false

-- nor in a pattern
pub record NoPattern (p : Sign → List Token → Bool) : Type 0 where
  pub apat : NoApat p
  pub minus : (ts : List Token) → p Minus ts ≡ false
  pub colon : (ts : List Token) → p Colon ts ≡ false
  pub consym : (ts : List Token) → p ConSym ts ≡ false
  pub qconsym : (ts : List Token) → p QualifiedConSym ts ≡ false
  pub backquote : (ts : List Token) → p Backquote ts ≡ false

-- nor in a left side
pub record NoSide (p : Sign → List Token → Bool) : Type 0 where
  pub pattern : NoPattern p
  pub bang : (ts : List Token) → p Bang ts ≡ false
  pub star : (ts : List Token) → p Star ts ≡ false
  pub varsym : (ts : List Token) → p VarSym ts ≡ false

abbrev con_of : (p : Sign → List Token → Bool) → NoApat p → NoCon p
con_of p n = record { con = n.con; qcon = n.qcon }

-- names

pub var_cut : (p : Sign → List Token → Bool) → NoApat p → {a b : List Token} {v : NameRef} → IsVar a b v → (d : ℕ) → cut p a d ≡ cut p b d
var_cut p n (VarIdVar {a = a} {t = t} e) d = pass p t a Var e refl (n.var a) d
var_cut p n (VarSymVar {a = a} {o = o} {t = t} {c = c} e f g) d =
    opens p o (t ∷ c ∷ a) OpenParen e refl d ∙ inner p t (c ∷ a) (sign_of t) refl (varsym_plain (sign_of t) f) d ∙ closes p c a CloseParen g refl d

pub qcon_cut : (p : Sign → List Token → Bool) → NoCon p → {a b : List Token} {v : NameRef} → IsQcon a b v → (d : ℕ) → cut p a d ≡ cut p b d
qcon_cut p n (ConIdQcon {a = a} {t = t} e) d = con_cut p n t a (sign_of t) refl e d
qcon_cut p n (ConSymQcon {a = a} {o = o} {t = t} {c = c} e f g) d =
    opens p o (t ∷ c ∷ a) OpenParen e refl d ∙ inner p t (c ∷ a) (sign_of t) refl (gconsym_plain (sign_of t) f) d ∙ closes p c a CloseParen g refl d

pub gcon_cut : (p : Sign → List Token → Bool) → NoCon p → {a b : List Token} {g : GconTree} → IsGcon a b g → (d : ℕ) → cut p a d ≡ cut p b d
gcon_cut p n (ConGcon x) d = qcon_cut p n x d
gcon_cut p n (UnitGcon {a = a} {o = o} {c = c} e f) d = opens p o (c ∷ a) OpenParen e refl d ∙ closes p c a CloseParen f refl d
gcon_cut p n (ListGcon {a = a} {o = o} {c = c} e f) d = opens p o (c ∷ a) OpenSquare e refl d ∙ closes p c a CloseSquare f refl d
gcon_cut p n (TupleGcon {a = a} {b = b} {o = o} {c = c} e x f) d = opens p o a OpenParen e refl d ∙ commas_inner p x d ∙ closes p c b CloseParen f refl d

consym_cut : (p : Sign → List Token → Bool) → NoPattern p → (t : Token) (ts : List Token) (k : Sign) → sign_of t ≡ k → is_gconsym k ≡ true → (d : ℕ) → cut p (t ∷ ts) d ≡ cut p ts d
consym_cut p n t ts Colon e f d = pass p t ts Colon e refl (n.colon ts) d
consym_cut p n t ts ConSym e f d = pass p t ts ConSym e refl (n.consym ts) d
consym_cut p n t ts QualifiedConSym e f d = pass p t ts QualifiedConSym e refl (n.qconsym ts) d
consym_cut p n t ts _ e f d = cc

pub qconop_cut : (p : Sign → List Token → Bool) → NoPattern p → {a b : List Token} {q : OpName} → IsQconop a b q → (d : ℕ) → cut p a d ≡ cut p b d
qconop_cut p n (ConSymQconop {a = a} {t = t} e) d = consym_cut p n t a (sign_of t) refl e d
qconop_cut p n (ConIdQconop {a = a} {o = o} {t = t} {c = c} e f g) d =
    pass p o (t ∷ c ∷ a) Backquote e refl (n.backquote (t ∷ c ∷ a)) d ∙ con_cut p (con_of p n.apat) t (c ∷ a) (sign_of t) refl f d ∙ pass p c a Backquote g refl (n.backquote a) d

varsym_cut : (p : Sign → List Token → Bool) → NoSide p → (t : Token) (ts : List Token) (k : Sign) → sign_of t ≡ k → is_varsym k ≡ true → (d : ℕ) → cut p (t ∷ ts) d ≡ cut p ts d
varsym_cut p n t ts Minus e f d = pass p t ts Minus e refl (n.pattern.minus ts) d
varsym_cut p n t ts Bang e f d = pass p t ts Bang e refl (n.bang ts) d
varsym_cut p n t ts Star e f d = pass p t ts Star e refl (n.star ts) d
varsym_cut p n t ts VarSym e f d = pass p t ts VarSym e refl (n.varsym ts) d
varsym_cut p n t ts _ e f d = cc

pub varop_cut : (p : Sign → List Token → Bool) → NoSide p → {a b : List Token} {q : OpName} → IsVarop a b q → (d : ℕ) → cut p a d ≡ cut p b d
varop_cut p n (VarSymVarop {a = a} {t = t} e) d = varsym_cut p n t a (sign_of t) refl e d
varop_cut p n (VarIdVarop {a = a} {o = o} {t = t} {c = c} e f g) d =
    pass p o (t ∷ c ∷ a) Backquote e refl (n.pattern.backquote (t ∷ c ∷ a)) d ∙ pass p t (c ∷ a) Var f refl (n.pattern.apat.var (c ∷ a)) d ∙ pass p c a Backquote g refl (n.pattern.backquote a) d

-- names in brackets

pub var_inner : (p : Sign → List Token → Bool) {a b : List Token} {v : NameRef} → IsVar a b v → (d : ℕ) → cut p a (suc d) ≡ cut p b (suc d)
var_inner p (VarIdVar {a = a} {t = t} e) d = inner p t a Var e refl d
var_inner p (VarSymVar {a = a} {o = o} {t = t} {c = c} e f g) d =
    opens p o (t ∷ c ∷ a) OpenParen e refl (suc d) ∙ inner p t (c ∷ a) (sign_of t) refl (varsym_plain (sign_of t) f) (suc d) ∙ closes p c a CloseParen g refl (suc d)

pub qvar_inner : (p : Sign → List Token → Bool) {a b : List Token} {v : NameRef} → IsQvar a b v → (d : ℕ) → cut p a (suc d) ≡ cut p b (suc d)
qvar_inner p (VarIdQvar {a = a} {t = t} e) d = inner p t a (sign_of t) refl (qvarid_plain (sign_of t) e) d
qvar_inner p (VarSymQvar {a = a} {o = o} {t = t} {c = c} e f g) d =
    opens p o (t ∷ c ∷ a) OpenParen e refl (suc d) ∙ inner p t (c ∷ a) (sign_of t) refl (qvarsym_plain (sign_of t) f) (suc d) ∙ closes p c a CloseParen g refl (suc d)

pub qcon_inner : (p : Sign → List Token → Bool) {a b : List Token} {v : NameRef} → IsQcon a b v → (d : ℕ) → cut p a (suc d) ≡ cut p b (suc d)
qcon_inner p (ConIdQcon {a = a} {t = t} e) d = inner p t a (sign_of t) refl (qconid_plain (sign_of t) e) d
qcon_inner p (ConSymQcon {a = a} {o = o} {t = t} {c = c} e f g) d =
    opens p o (t ∷ c ∷ a) OpenParen e refl (suc d) ∙ inner p t (c ∷ a) (sign_of t) refl (gconsym_plain (sign_of t) f) (suc d) ∙ closes p c a CloseParen g refl (suc d)

pub gcon_inner : (p : Sign → List Token → Bool) {a b : List Token} {g : GconTree} → IsGcon a b g → (d : ℕ) → cut p a (suc d) ≡ cut p b (suc d)
gcon_inner p (ConGcon x) d = qcon_inner p x d
gcon_inner p (UnitGcon {a = a} {o = o} {c = c} e f) d = opens p o (c ∷ a) OpenParen e refl (suc d) ∙ closes p c a CloseParen f refl (suc d)
gcon_inner p (ListGcon {a = a} {o = o} {c = c} e f) d = opens p o (c ∷ a) OpenSquare e refl (suc d) ∙ closes p c a CloseSquare f refl (suc d)
gcon_inner p (TupleGcon {a = a} {b = b} {o = o} {c = c} e x f) d = opens p o a OpenParen e refl (suc d) ∙ commas_inner p x (suc d) ∙ closes p c b CloseParen f refl (suc d)

pub qconop_inner : (p : Sign → List Token → Bool) {a b : List Token} {q : OpName} → IsQconop a b q → (d : ℕ) → cut p a (suc d) ≡ cut p b (suc d)
qconop_inner p (ConSymQconop {a = a} {t = t} e) d = inner p t a (sign_of t) refl (gconsym_plain (sign_of t) e) d
qconop_inner p (ConIdQconop {a = a} {o = o} {t = t} {c = c} e f g) d =
    inner p o (t ∷ c ∷ a) Backquote e refl d ∙ inner p t (c ∷ a) (sign_of t) refl (qconid_plain (sign_of t) f) d ∙ inner p c a Backquote g refl d

-- patterns in brackets are passed over, whatever counts
mutual
  pub pattern_inner : (p : Sign → List Token → Bool) {a b : List Token} {x : PatTree} → IsPattern a b x → (d : ℕ) → cut p a (suc d) ≡ cut p b (suc d)
  pattern_inner p (ChainPattern x) d = operands_inner p x d

  pub operands_inner : (p : Sign → List Token → Bool) {a b : List Token} {ls : List PatLink} {x : PatOperand} → IsOperands a b ls x → (d : ℕ) → cut p a (suc d) ≡ cut p b (suc d)
  operands_inner p (LastOperand x) d = operand_inner p x d
  operands_inner p (MoreOperands x q y) d = operand_inner p x d ∙ qconop_inner p q d ∙ operands_inner p y d

  pub operand_inner : (p : Sign → List Token → Bool) {a b : List Token} {x : PatOperand} → IsOperand a b x → (d : ℕ) → cut p a (suc d) ≡ cut p b (suc d)
  operand_inner p (NumberOperand {a = a} {t = t} e) d = inner p t a Number e refl d
  operand_inner p (MinusOperand {a = a} {m = m} {t = t} e f) d = inner p m (t ∷ a) Minus e refl d ∙ inner p t a Number f refl d
  operand_inner p (AppliedOperand g x) d = gcon_inner p g d ∙ apats_inner p x d
  operand_inner p (SingleOperand x) d = single_inner p x d

  pub apats_inner : (p : Sign → List Token → Bool) {a b : List Token} {ps : List ApatTree} → IsApats a b ps → (d : ℕ) → cut p a (suc d) ≡ cut p b (suc d)
  apats_inner p NoApats d = refl
  apats_inner p (MoreApats x y) d = apat_inner p x d ∙ apats_inner p y d

  pub apat_inner : (p : Sign → List Token → Bool) {a b : List Token} {x : ApatTree} → IsApat a b x → (d : ℕ) → cut p a (suc d) ≡ cut p b (suc d)
  apat_inner p (ConApat g) d = gcon_inner p g d
  apat_inner p (NumberApat {a = a} {t = t} e) d = inner p t a Number e refl d
  apat_inner p (SingleApat x) d = single_inner p x d

  pub single_inner : (p : Sign → List Token → Bool) {a b : List Token} {x : ApatTree} → IsSingle a b x → (d : ℕ) → cut p a (suc d) ≡ cut p b (suc d)
  single_inner p (VarSingle x) d = var_inner p x d
  single_inner p (AsSingle {b = b} {t = t} x e y) d = var_inner p x d ∙ inner p t b As e refl d ∙ apat_inner p y d
  single_inner p (EmptySingle {b = b} {o = o} {c = c} x e f) d = qcon_inner p x d ∙ opens p o (c ∷ b) (OpenBrace false) e refl (suc d) ∙ closes p c b (CloseBrace false) f refl (suc d)
  single_inner p (RecordSingle {b = b} {d = z} {o = o} {c = c} x e y f) d =
      qcon_inner p x d ∙ opens p o b (OpenBrace false) e refl (suc d) ∙ fpats_inner p y (suc d) ∙ closes p c z (CloseBrace false) f refl (suc d)
  single_inner p (QuotedSingle {a = a} {t = t} e) d = inner p t a Quoted e refl d
  single_inner p (WildSingle {a = a} {t = t} e) d = inner p t a Wild e refl d
  single_inner p (TupleSingle {a = a} {b = b} {o = o} {c = c} e x f) d = opens p o a OpenParen e refl (suc d) ∙ patterns_inner p x (suc d) ∙ closes p c b CloseParen f refl (suc d)
  single_inner p (ListSingle {a = a} {b = b} {o = o} {c = c} e x f) d = opens p o a OpenSquare e refl (suc d) ∙ patterns_inner p x (suc d) ∙ closes p c b CloseSquare f refl (suc d)
  single_inner p (LazySingle {a = a} {t = t} e x) d = inner p t a Tilde e refl d ∙ apat_inner p x d

  pub patterns_inner : (p : Sign → List Token → Bool) {a b : List Token} {ps : List PatTree} → IsPatterns a b ps → (d : ℕ) → cut p a (suc d) ≡ cut p b (suc d)
  patterns_inner p (LastPattern x) d = pattern_inner p x d
  patterns_inner p (MorePatterns {b = b} {m = m} x e y) d = pattern_inner p x d ∙ inner p m b Comma e refl d ∙ patterns_inner p y d

  pub fpats_inner : (p : Sign → List Token → Bool) {a b : List Token} {fs : List FpatTree} → IsFpats a b fs → (d : ℕ) → cut p a (suc d) ≡ cut p b (suc d)
  fpats_inner p (LastFpat x) d = fpat_inner p x d
  fpats_inner p (MoreFpats {b = b} {m = m} x e y) d = fpat_inner p x d ∙ inner p m b Comma e refl d ∙ fpats_inner p y d

  pub fpat_inner : (p : Sign → List Token → Bool) {a b : List Token} {f : FpatTree} → IsFpat a b f → (d : ℕ) → cut p a (suc d) ≡ cut p b (suc d)
  fpat_inner p (FieldFpat {b = b} {t = t} x e y) d = qvar_inner p x d ∙ inner p t b Equals e refl d ∙ pattern_inner p y d

-- patterns

mutual
  pub apat_cut : (p : Sign → List Token → Bool) → NoApat p → {a b : List Token} {x : ApatTree} → IsApat a b x → (d : ℕ) → cut p a d ≡ cut p b d
  apat_cut p n (ConApat g) d = gcon_cut p (con_of p n) g d
  apat_cut p n (NumberApat {a = a} {t = t} e) d = pass p t a Number e refl (n.number a) d
  apat_cut p n (SingleApat x) d = single_cut p n x d

  single_cut : (p : Sign → List Token → Bool) → NoApat p → {a b : List Token} {x : ApatTree} → IsSingle a b x → (d : ℕ) → cut p a d ≡ cut p b d
  single_cut p n (VarSingle x) d = var_cut p n x d
  single_cut p n (AsSingle {b = b} {t = t} x e y) d = var_cut p n x d ∙ pass p t b As e refl (n.at b) d ∙ apat_cut p n y d
  single_cut p n (EmptySingle {b = b} {o = o} {c = c} x e f) d = qcon_cut p (con_of p n) x d ∙ opens p o (c ∷ b) (OpenBrace false) e refl d ∙ closes p c b (CloseBrace false) f refl d
  single_cut p n (RecordSingle {b = b} {d = z} {o = o} {c = c} x e y f) d =
      qcon_cut p (con_of p n) x d ∙ opens p o b (OpenBrace false) e refl d ∙ fpats_inner p y d ∙ closes p c z (CloseBrace false) f refl d
  single_cut p n (QuotedSingle {a = a} {t = t} e) d = pass p t a Quoted e refl (n.quoted a) d
  single_cut p n (WildSingle {a = a} {t = t} e) d = pass p t a Wild e refl (n.wild a) d
  single_cut p n (TupleSingle {a = a} {b = b} {o = o} {c = c} e x f) d = opens p o a OpenParen e refl d ∙ patterns_inner p x d ∙ closes p c b CloseParen f refl d
  single_cut p n (ListSingle {a = a} {b = b} {o = o} {c = c} e x f) d = opens p o a OpenSquare e refl d ∙ patterns_inner p x d ∙ closes p c b CloseSquare f refl d
  single_cut p n (LazySingle {a = a} {t = t} e x) d = pass p t a Tilde e refl (n.tilde a) d ∙ apat_cut p n x d

pub apats_cut : (p : Sign → List Token → Bool) → NoApat p → {a b : List Token} {ps : List ApatTree} → IsApats a b ps → (d : ℕ) → cut p a d ≡ cut p b d
apats_cut p n NoApats d = refl
apats_cut p n (MoreApats x y) d = apat_cut p n x d ∙ apats_cut p n y d

pub operand_cut : (p : Sign → List Token → Bool) → NoPattern p → {a b : List Token} {x : PatOperand} → IsOperand a b x → (d : ℕ) → cut p a d ≡ cut p b d
operand_cut p n (NumberOperand {a = a} {t = t} e) d = pass p t a Number e refl (n.apat.number a) d
operand_cut p n (MinusOperand {a = a} {m = m} {t = t} e f) d = pass p m (t ∷ a) Minus e refl (n.minus (t ∷ a)) d ∙ pass p t a Number f refl (n.apat.number a) d
operand_cut p n (AppliedOperand g x) d = gcon_cut p (con_of p n.apat) g d ∙ apats_cut p n.apat x d
operand_cut p n (SingleOperand x) d = single_cut p n.apat x d

operands_cut : (p : Sign → List Token → Bool) → NoPattern p → {a b : List Token} {ls : List PatLink} {x : PatOperand} → IsOperands a b ls x → (d : ℕ) → cut p a d ≡ cut p b d
operands_cut p n (LastOperand x) d = operand_cut p n x d
operands_cut p n (MoreOperands x q y) d = operand_cut p n x d ∙ qconop_cut p n q d ∙ operands_cut p n y d

pub pattern_cut : (p : Sign → List Token → Bool) → NoPattern p → {a b : List Token} {x : PatTree} → IsPattern a b x → (d : ℕ) → cut p a d ≡ cut p b d
pattern_cut p n (ChainPattern x) d = operands_cut p n x d

-- left sides

pub varop_inner : (p : Sign → List Token → Bool) {a b : List Token} {q : OpName} → IsVarop a b q → (d : ℕ) → cut p a (suc d) ≡ cut p b (suc d)
varop_inner p (VarSymVarop {a = a} {t = t} e) d = inner p t a (sign_of t) refl (varsym_plain (sign_of t) e) d
varop_inner p (VarIdVarop {a = a} {o = o} {t = t} {c = c} e f g) d = inner p o (t ∷ c ∷ a) Backquote e refl d ∙ inner p t (c ∷ a) Var f refl d ∙ inner p c a Backquote g refl d

pub function_inner : (p : Sign → List Token → Bool) {a b : List Token} {l : LhsTree} → IsFunction a b l → (d : ℕ) → cut p a (suc d) ≡ cut p b (suc d)
function_inner p (VarFunction x y) d = var_inner p x d ∙ apats_inner p y d
function_inner p (AppliedFunction {a = a} {b = b} {o = o} {c = c} e x f y) d =
    opens p o a OpenParen e refl (suc d) ∙ function_inner p x (suc d) ∙ closes p c b CloseParen f refl (suc d) ∙ apats_inner p y d
function_inner p (InfixFunction x o y) d = pattern_inner p x d ∙ varop_inner p o d ∙ pattern_inner p y d

pub lhs_inner : (p : Sign → List Token → Bool) {a b : List Token} {l : LhsTree} → IsLhs a b l → (d : ℕ) → cut p a (suc d) ≡ cut p b (suc d)
lhs_inner p (FunctionLhs x) d = function_inner p x d
lhs_inner p (PatternLhs g x) d = pattern_inner p x d

pub function_cut : (p : Sign → List Token → Bool) → NoSide p → {a b : List Token} {l : LhsTree} → IsFunction a b l → (d : ℕ) → cut p a d ≡ cut p b d
function_cut p n (VarFunction x y) d = var_cut p n.pattern.apat x d ∙ apats_cut p n.pattern.apat y d
function_cut p n (AppliedFunction {a = a} {b = b} {o = o} {c = c} e x f y) d =
    opens p o a OpenParen e refl d ∙ function_inner p x d ∙ closes p c b CloseParen f refl d ∙ apats_cut p n.pattern.apat y d
function_cut p n (InfixFunction x o y) d = pattern_cut p n.pattern x d ∙ varop_cut p n o d ∙ pattern_cut p n.pattern y d

pub lhs_cut : (p : Sign → List Token → Bool) → NoSide p → {a b : List Token} {l : LhsTree} → IsLhs a b l → (d : ℕ) → cut p a d ≡ cut p b d
lhs_cut p n (FunctionLhs x) d = function_cut p n x d
lhs_cut p n (PatternLhs g x) d = pattern_cut p n.pattern x d

-- variables with commas between them
pub vars_cut : (p : Sign → List Token → Bool) → NoApat p → ((ts : List Token) → p Comma ts ≡ false) → {a b : List Token} {ns : List NameRef} → IsVars a b ns → (d : ℕ) → cut p a d ≡ cut p b d
vars_cut p n m (LastVar x) d = var_cut p n x d
vars_cut p n m (MoreVars {b = b} {m = t} x e y) d = var_cut p n x d ∙ pass p t b Comma e refl (m b) d ∙ vars_cut p n m y d

-- operators of expressions

-- a sort of signs that is in no operator
pub record NoQop (p : Sign → List Token → Bool) : Type 0 where
  pub minus : (ts : List Token) → p Minus ts ≡ false
  pub bang : (ts : List Token) → p Bang ts ≡ false
  pub star : (ts : List Token) → p Star ts ≡ false
  pub varsym : (ts : List Token) → p VarSym ts ≡ false
  pub qvarsym : (ts : List Token) → p QualifiedVarSym ts ≡ false
  pub colon : (ts : List Token) → p Colon ts ≡ false
  pub consym : (ts : List Token) → p ConSym ts ≡ false
  pub qconsym : (ts : List Token) → p QualifiedConSym ts ≡ false
  pub backquote : (ts : List Token) → p Backquote ts ≡ false
  pub var : (ts : List Token) → p Var ts ≡ false
  pub qvar : (ts : List Token) → p QualifiedVar ts ≡ false
  pub con : (ts : List Token) → p Con ts ≡ false
  pub qcon : (ts : List Token) → p QualifiedCon ts ≡ false

qvarsym_cut : (p : Sign → List Token → Bool) → NoQop p → (t : Token) (ts : List Token) (k : Sign) → sign_of t ≡ k → is_qvarsym k ≡ true → (d : ℕ) → cut p (t ∷ ts) d ≡ cut p ts d
qvarsym_cut p n t ts Minus e f d = pass p t ts Minus e refl (n.minus ts) d
qvarsym_cut p n t ts Bang e f d = pass p t ts Bang e refl (n.bang ts) d
qvarsym_cut p n t ts Star e f d = pass p t ts Star e refl (n.star ts) d
qvarsym_cut p n t ts VarSym e f d = pass p t ts VarSym e refl (n.varsym ts) d
qvarsym_cut p n t ts QualifiedVarSym e f d = pass p t ts QualifiedVarSym e refl (n.qvarsym ts) d
qvarsym_cut p n t ts _ e f d = cc

gconsym_cut : (p : Sign → List Token → Bool) → NoQop p → (t : Token) (ts : List Token) (k : Sign) → sign_of t ≡ k → is_gconsym k ≡ true → (d : ℕ) → cut p (t ∷ ts) d ≡ cut p ts d
gconsym_cut p n t ts Colon e f d = pass p t ts Colon e refl (n.colon ts) d
gconsym_cut p n t ts ConSym e f d = pass p t ts ConSym e refl (n.consym ts) d
gconsym_cut p n t ts QualifiedConSym e f d = pass p t ts QualifiedConSym e refl (n.qconsym ts) d
gconsym_cut p n t ts _ e f d = cc

qvarid_cut : (p : Sign → List Token → Bool) → ((ts : List Token) → p Var ts ≡ false) → ((ts : List Token) → p QualifiedVar ts ≡ false)
    → (t : Token) (ts : List Token) (k : Sign) → sign_of t ≡ k → is_qvarid k ≡ true → (d : ℕ) → cut p (t ∷ ts) d ≡ cut p ts d
qvarid_cut p v q t ts Var e f d = pass p t ts Var e refl (v ts) d
qvarid_cut p v q t ts QualifiedVar e f d = pass p t ts QualifiedVar e refl (q ts) d
qvarid_cut p v q t ts _ e f d = cc

pub qvar_cut : (p : Sign → List Token → Bool) → ((ts : List Token) → p Var ts ≡ false) → ((ts : List Token) → p QualifiedVar ts ≡ false)
    → {a b : List Token} {v : NameRef} → IsQvar a b v → (d : ℕ) → cut p a d ≡ cut p b d
qvar_cut p v q (VarIdQvar {a = a} {t = t} e) d = qvarid_cut p v q t a (sign_of t) refl e d
qvar_cut p v q (VarSymQvar {a = a} {o = o} {t = t} {c = c} e f g) d =
    opens p o (t ∷ c ∷ a) OpenParen e refl d ∙ inner p t (c ∷ a) (sign_of t) refl (qvarsym_plain (sign_of t) f) d ∙ closes p c a CloseParen g refl d

pub qop_cut : (p : Sign → List Token → Bool) → NoQop p → {a b : List Token} {q : QopTree} → IsQop a b q → (d : ℕ) → cut p a d ≡ cut p b d
qop_cut p n (VarSymQop {a = a} {t = t} e) d = qvarsym_cut p n t a (sign_of t) refl e d
qop_cut p n (ConSymQop {a = a} {t = t} e) d = gconsym_cut p n t a (sign_of t) refl e d
qop_cut p n (VarIdQop {a = a} {o = o} {t = t} {c = c} e f g) d =
    pass p o (t ∷ c ∷ a) Backquote e refl (n.backquote (t ∷ c ∷ a)) d ∙ qvarid_cut p n.var n.qvar t (c ∷ a) (sign_of t) refl f d ∙ pass p c a Backquote g refl (n.backquote a) d
qop_cut p n (ConIdQop {a = a} {o = o} {t = t} {c = c} e f g) d =
    pass p o (t ∷ c ∷ a) Backquote e refl (n.backquote (t ∷ c ∷ a)) d ∙ con_cut p (record { con = n.con; qcon = n.qcon }) t (c ∷ a) (sign_of t) refl f d ∙ pass p c a Backquote g refl (n.backquote a) d

pub qop_inner : (p : Sign → List Token → Bool) {a b : List Token} {q : QopTree} → IsQop a b q → (d : ℕ) → cut p a (suc d) ≡ cut p b (suc d)
qop_inner p (VarSymQop {a = a} {t = t} e) d = inner p t a (sign_of t) refl (qvarsym_plain (sign_of t) e) d
qop_inner p (ConSymQop {a = a} {t = t} e) d = inner p t a (sign_of t) refl (gconsym_plain (sign_of t) e) d
qop_inner p (VarIdQop {a = a} {o = o} {t = t} {c = c} e f g) d =
    inner p o (t ∷ c ∷ a) Backquote e refl d ∙ inner p t (c ∷ a) (sign_of t) refl (qvarid_plain (sign_of t) f) d ∙ inner p c a Backquote g refl d
qop_inner p (ConIdQop {a = a} {o = o} {t = t} {c = c} e f g) d =
    inner p o (t ∷ c ∷ a) Backquote e refl d ∙ inner p t (c ∷ a) (sign_of t) refl (qconid_plain (sign_of t) f) d ∙ inner p c a Backquote g refl d
