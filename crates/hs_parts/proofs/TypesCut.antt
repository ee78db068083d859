-- Names, types and contexts are passed over whole where no sign of their own level counts.
use Rattle.std.proofs.Common.{◌≡◌, ℕ, suc, zero, Bool, true, false, List, [], ◌∷◌, refl, sym, ap, ◌∙◌}
use Rattle.hs_syntax.specs.declared.token.Token.{Token}
use Rattle.hs_syntax.specs.declared.sign.Sign.{Sign}
use Rattle.hs_syntax.specs.declared.sign.Sign.TheVariants.{Var, QualifiedVar, Con, QualifiedCon, Minus, Bang, Star, VarSym, QualifiedVarSym, ConSym, QualifiedConSym, Colon, OpenParen, CloseParen, OpenSquare, CloseSquare, Comma, Arrow, Implies}
use Rattle.hs_syntax.specs.declared.name_ref.NameRef.{NameRef}
use Rattle.hs_syntax.specs.declared.type_tree.TypeTree.{TypeTree}
use Rattle.hs_syntax.specs.declared.type_tree.BtypeTree.{BtypeTree}
use Rattle.hs_syntax.specs.declared.type_tree.AtypeTree.{AtypeTree}
use Rattle.hs_syntax.specs.declared.type_tree.ClassTree.{ClassTree}
use Rattle.hs_syntax.specs.declared.type_tree.ContextTree.{ContextTree}
use Rattle.hs_syntax.specs.declared.type_tree.QualifiedType.{QualifiedType}
use Rattle.hs_syntax.specs.Signs.{sign_of}
use Rattle.hs_syntax.proofs.Cut.{cut, pass, inner, opens, closes, is_plain}
use Rattle.hs_parts.specs.Names.{is_varsym, is_qvarsym, is_gconsym, is_qvarid, is_qconid, IsCommas, LastComma, MoreCommas}
use Rattle.hs_parts.specs.Grammar.{IsType, LoneType, ArrowType, IsBtype, AppliedBtype, IsAtypes, NoAtypes, MoreAtypes, IsAtype, ConAtype, UnitAtype, ListConAtype, ArrowAtype, TupleConAtype, VarAtype, TupleAtype, ListAtype, IsTypes, LastType, MoreTypes}
use Rattle.hs_parts.specs.Grammar.{IsClass, VarClass, AppliedClass, IsClasses, LastClass, MoreClasses, IsContext, OneContext, EmptyContext, ListedContext, IsQualified, PlainQualified, ContextQualified}

-- a sort of signs with which no constructor begins
pub record NoCon (p : Sign → List Token → Bool) : Type 0 where
  pub con : (ts : List Token) → p Con ts ≡ false
  pub qcon : (ts : List Token) → p QualifiedCon ts ≡ false

pub con_cut : (p : Sign → List Token → Bool) → NoCon p → (t : Token) (ts : List Token) (k : Sign) → sign_of t ≡ k → is_qconid k ≡ true → (d : ℕ) → cut p (t ∷ ts) d ≡ cut p ts d
con_cut p n t ts Con e f d = pass p t ts Con e refl (n.con ts) d
con_cut p n t ts QualifiedCon e f d = pass p t ts QualifiedCon e refl (n.qcon ts) d
con_cut p n t ts _ e f d = cc

-- signs of names are no brackets
pub qconid_plain : (k : Sign) → is_qconid k ≡ true → is_plain k ≡ true
qconid_plain Con e = refl
qconid_plain QualifiedCon e = refl
qconid_plain _ e = cc

pub qvarid_plain : (k : Sign) → is_qvarid k ≡ true → is_plain k ≡ true
qvarid_plain Var e = refl
qvarid_plain QualifiedVar e = refl
qvarid_plain _ e = cc

pub gconsym_plain : (k : Sign) → is_gconsym k ≡ true → is_plain k ≡ true
gconsym_plain Colon e = refl
gconsym_plain ConSym e = refl
gconsym_plain QualifiedConSym e = refl
gconsym_plain _ e = cc

pub varsym_plain : (k : Sign) → is_varsym k ≡ true → is_plain k ≡ true
varsym_plain Minus e = refl
varsym_plain Bang e = refl
varsym_plain Star e = refl
varsym_plain VarSym e = refl
varsym_plain _ e = cc

pub qvarsym_plain : (k : Sign) → is_qvarsym k ≡ true → is_plain k ≡ true
qvarsym_plain QualifiedVarSym e = refl
qvarsym_plain Minus e = refl
qvarsym_plain Bang e = refl
qvarsym_plain Star e = refl
qvarsym_plain VarSym e = refl
qvarsym_plain _ e = cc

-- commas in parentheses
pub commas_inner : (p : Sign → List Token → Bool) {a b : List Token} {n : ℕ} → IsCommas a b n → (d : ℕ) → cut p a (suc d) ≡ cut p b (suc d)
commas_inner p (LastComma {a = a} {t = t} e) d = inner p t a Comma e refl d
commas_inner p (MoreCommas {a = a} {t = t} e x) d = inner p t a Comma e refl d ∙ commas_inner p x d

-- a sort of signs that is in no type at its level
pub record NoType (p : Sign → List Token → Bool) : Type 0 where
  pub var : (ts : List Token) → p Var ts ≡ false
  pub con : (ts : List Token) → p Con ts ≡ false
  pub qcon : (ts : List Token) → p QualifiedCon ts ≡ false
  pub arrow : (ts : List Token) → p Arrow ts ≡ false

-- the same without arrows
pub record NoBtype (p : Sign → List Token → Bool) : Type 0 where
  pub var : (ts : List Token) → p Var ts ≡ false
  pub con : (ts : List Token) → p Con ts ≡ false
  pub qcon : (ts : List Token) → p QualifiedCon ts ≡ false

abbrev no_con : (p : Sign → List Token → Bool) → NoBtype p → NoCon p
no_con p n = record { con = n.con; qcon = n.qcon }

abbrev no_btype : (p : Sign → List Token → Bool) → NoType p → NoBtype p
no_btype p n = record { var = n.var; con = n.con; qcon = n.qcon }

mutual
  -- in brackets a type is passed over, whatever counts
  pub type_inner : (p : Sign → List Token → Bool) {a b : List Token} {x : TypeTree} → IsType a b x → (d : ℕ) → cut p a (suc d) ≡ cut p b (suc d)
  type_inner p (LoneType x) d = btype_inner p x d
  type_inner p (ArrowType {b = b} {w = w} x e y) d = btype_inner p x d ∙ inner p w b Arrow e refl d ∙ type_inner p y d

  pub btype_inner : (p : Sign → List Token → Bool) {a b : List Token} {x : BtypeTree} → IsBtype a b x → (d : ℕ) → cut p a (suc d) ≡ cut p b (suc d)
  btype_inner p (AppliedBtype x y) d = atype_inner p x d ∙ atypes_inner p y d

  pub atypes_inner : (p : Sign → List Token → Bool) {a b : List Token} {xs : List AtypeTree} → IsAtypes a b xs → (d : ℕ) → cut p a (suc d) ≡ cut p b (suc d)
  atypes_inner p NoAtypes d = refl
  atypes_inner p (MoreAtypes x y) d = atype_inner p x d ∙ atypes_inner p y d

  pub atype_inner : (p : Sign → List Token → Bool) {a b : List Token} {x : AtypeTree} → IsAtype a b x → (d : ℕ) → cut p a (suc d) ≡ cut p b (suc d)
  atype_inner p (ConAtype {a = a} {t = t} e) d = inner p t a (sign_of t) refl (qconid_plain (sign_of t) e) d
  atype_inner p (VarAtype {a = a} {t = t} e) d = inner p t a Var e refl d
  atype_inner p (UnitAtype {a = a} {o = o} {c = c} e f) d = opens p o (c ∷ a) OpenParen e refl (suc d) ∙ closes p c a CloseParen f refl (suc d)
  atype_inner p (ListConAtype {a = a} {o = o} {c = c} e f) d = opens p o (c ∷ a) OpenSquare e refl (suc d) ∙ closes p c a CloseSquare f refl (suc d)
  atype_inner p (ArrowAtype {a = a} {o = o} {w = w} {c = c} e f g) d =
      opens p o (w ∷ c ∷ a) OpenParen e refl (suc d) ∙ inner p w (c ∷ a) Arrow f refl (suc d) ∙ closes p c a CloseParen g refl (suc d)
  atype_inner p (TupleConAtype {a = a} {b = b} {o = o} {c = c} e x f) d = opens p o a OpenParen e refl (suc d) ∙ commas_inner p x (suc d) ∙ closes p c b CloseParen f refl (suc d)
  atype_inner p (TupleAtype {a = a} {b = b} {o = o} {c = c} e x f) d = opens p o a OpenParen e refl (suc d) ∙ types_inner p x (suc d) ∙ closes p c b CloseParen f refl (suc d)
  atype_inner p (ListAtype {a = a} {b = b} {o = o} {c = c} e x f) d = opens p o a OpenSquare e refl (suc d) ∙ type_inner p x (suc d) ∙ closes p c b CloseSquare f refl (suc d)

  pub types_inner : (p : Sign → List Token → Bool) {a b : List Token} {xs : List TypeTree} → IsTypes a b xs → (d : ℕ) → cut p a (suc d) ≡ cut p b (suc d)
  types_inner p (LastType x) d = type_inner p x d
  types_inner p (MoreTypes {b = b} {m = m} x e y) d = type_inner p x d ∙ inner p m b Comma e refl d ∙ types_inner p y d

pub atype_cut : (p : Sign → List Token → Bool) → NoBtype p → {a b : List Token} {x : AtypeTree} → IsAtype a b x → (d : ℕ) → cut p a d ≡ cut p b d
atype_cut p n (ConAtype {a = a} {t = t} e) d = con_cut p (no_con p n) t a (sign_of t) refl e d
atype_cut p n (VarAtype {a = a} {t = t} e) d = pass p t a Var e refl (n.var a) d
atype_cut p n (UnitAtype {a = a} {o = o} {c = c} e f) d = opens p o (c ∷ a) OpenParen e refl d ∙ closes p c a CloseParen f refl d
atype_cut p n (ListConAtype {a = a} {o = o} {c = c} e f) d = opens p o (c ∷ a) OpenSquare e refl d ∙ closes p c a CloseSquare f refl d
atype_cut p n (ArrowAtype {a = a} {o = o} {w = w} {c = c} e f g) d = opens p o (w ∷ c ∷ a) OpenParen e refl d ∙ inner p w (c ∷ a) Arrow f refl d ∙ closes p c a CloseParen g refl d
atype_cut p n (TupleConAtype {a = a} {b = b} {o = o} {c = c} e x f) d = opens p o a OpenParen e refl d ∙ commas_inner p x d ∙ closes p c b CloseParen f refl d
atype_cut p n (TupleAtype {a = a} {b = b} {o = o} {c = c} e x f) d = opens p o a OpenParen e refl d ∙ types_inner p x d ∙ closes p c b CloseParen f refl d
atype_cut p n (ListAtype {a = a} {b = b} {o = o} {c = c} e x f) d = opens p o a OpenSquare e refl d ∙ type_inner p x d ∙ closes p c b CloseSquare f refl d

pub atypes_cut : (p : Sign → List Token → Bool) → NoBtype p → {a b : List Token} {xs : List AtypeTree} → IsAtypes a b xs → (d : ℕ) → cut p a d ≡ cut p b d
atypes_cut p n NoAtypes d = refl
atypes_cut p n (MoreAtypes x y) d = atype_cut p n x d ∙ atypes_cut p n y d

pub btype_cut : (p : Sign → List Token → Bool) → NoBtype p → {a b : List Token} {x : BtypeTree} → IsBtype a b x → (d : ℕ) → cut p a d ≡ cut p b d
btype_cut p n (AppliedBtype x y) d = atype_cut p n x d ∙ atypes_cut p n y d

pub type_cut : (p : Sign → List Token → Bool) → NoType p → {a b : List Token} {x : TypeTree} → IsType a b x → (d : ℕ) → cut p a d ≡ cut p b d
type_cut p n (LoneType x) d = btype_cut p (no_btype p n) x d
type_cut p n (ArrowType {b = b} {w = w} x e y) d = btype_cut p (no_btype p n) x d ∙ pass p w b Arrow e refl (n.arrow b) d ∙ type_cut p n y d

pub class_cut : (p : Sign → List Token → Bool) → NoBtype p → {a b : List Token} {x : ClassTree} → IsClass a b x → (d : ℕ) → cut p a d ≡ cut p b d
class_cut p n (VarClass {a = a} {t = t} {v = v} e f) d = con_cut p (no_con p n) t (v ∷ a) (sign_of t) refl e d ∙ pass p v a Var f refl (n.var a) d
class_cut p n (AppliedClass {a = a} {b = b} {t = t} {o = o} {v = v} {c = c} e f g x h) d =
    con_cut p (no_con p n) t (o ∷ v ∷ a) (sign_of t) refl e d ∙ opens p o (v ∷ a) OpenParen f refl d ∙ inner p v a Var g refl d ∙ atypes_inner p x d ∙ closes p c b CloseParen h refl d

pub class_inner : (p : Sign → List Token → Bool) {a b : List Token} {x : ClassTree} → IsClass a b x → (d : ℕ) → cut p a (suc d) ≡ cut p b (suc d)
class_inner p (VarClass {a = a} {t = t} {v = v} e f) d = inner p t (v ∷ a) (sign_of t) refl (qconid_plain (sign_of t) e) d ∙ inner p v a Var f refl d
class_inner p (AppliedClass {a = a} {b = b} {t = t} {o = o} {v = v} {c = c} e f g x h) d =
    inner p t (o ∷ v ∷ a) (sign_of t) refl (qconid_plain (sign_of t) e) d ∙ opens p o (v ∷ a) OpenParen f refl (suc d) ∙ inner p v a Var g refl (suc d)
    ∙ atypes_inner p x (suc d) ∙ closes p c b CloseParen h refl (suc d)

pub classes_inner : (p : Sign → List Token → Bool) {a b : List Token} {xs : List ClassTree} → IsClasses a b xs → (d : ℕ) → cut p a (suc d) ≡ cut p b (suc d)
classes_inner p (LastClass x) d = class_inner p x d
classes_inner p (MoreClasses {b = b} {m = m} x e y) d = class_inner p x d ∙ inner p m b Comma e refl d ∙ classes_inner p y d

pub context_cut : (p : Sign → List Token → Bool) → NoBtype p → {a b : List Token} {k : ContextTree} → IsContext a b k → (d : ℕ) → cut p a d ≡ cut p b d
context_cut p n (OneContext x) d = class_cut p n x d
context_cut p n (EmptyContext {a = a} {o = o} {c = c} e f) d = opens p o (c ∷ a) OpenParen e refl d ∙ closes p c a CloseParen f refl d
context_cut p n (ListedContext {a = a} {b = b} {o = o} {c = c} e x f) d = opens p o a OpenParen e refl d ∙ classes_inner p x d ∙ closes p c b CloseParen f refl d

pub qualified_cut : (p : Sign → List Token → Bool) → NoType p → ((ts : List Token) → p Implies ts ≡ false) → {a b : List Token} {q : QualifiedType} → IsQualified a b q
    → (d : ℕ) → cut p a d ≡ cut p b d
qualified_cut p n i (PlainQualified x) d = type_cut p n x d
qualified_cut p n i (ContextQualified {b = b} {w = w} x e y) d = context_cut p (no_btype p n) x d ∙ pass p w b Implies e refl (i b) d ∙ type_cut p n y d

-- the same in brackets, whatever counts
pub context_inner : (p : Sign → List Token → Bool) {a b : List Token} {k : ContextTree} → IsContext a b k → (d : ℕ) → cut p a (suc d) ≡ cut p b (suc d)
context_inner p (OneContext x) d = class_inner p x d
context_inner p (EmptyContext {a = a} {o = o} {c = c} e f) d = opens p o (c ∷ a) OpenParen e refl (suc d) ∙ closes p c a CloseParen f refl (suc d)
context_inner p (ListedContext {a = a} {b = b} {o = o} {c = c} e x f) d = opens p o a OpenParen e refl (suc d) ∙ classes_inner p x (suc d) ∙ closes p c b CloseParen f refl (suc d)

pub qualified_inner : (p : Sign → List Token → Bool) {a b : List Token} {q : QualifiedType} → IsQualified a b q → (d : ℕ) → cut p a (suc d) ≡ cut p b (suc d)
qualified_inner p (PlainQualified x) d = type_inner p x d
qualified_inner p (ContextQualified {b = b} {w = w} x e y) d = context_inner p x d ∙ inner p w b Implies e refl d ∙ type_inner p y d
