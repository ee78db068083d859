-- What each derivation begins with.
use Rattle.std.proofs.Common.{◌≡◌, ℕ, Bool, true, false, List, [], ◌∷◌, Some, refl, sym, ap, ◌∙◌}
use Rattle.hs_syntax.specs.declared.token.Token.{Token}
use Rattle.hs_syntax.specs.declared.sign.Sign.{Sign}
use Rattle.hs_syntax.specs.declared.sign.Sign.TheVariants.{Var, QualifiedVar, Con, QualifiedCon, Minus, Bang, Star, VarSym, QualifiedVarSym, ConSym, QualifiedConSym, Number, Quoted, CloseBrace, Semicolon, OpenParen, CloseParen, OpenSquare, CloseSquare, Comma, Backquote, Case, Do, If, Let, Infix, Infixl, Infixr, Wild, Colon, Lambda, Tilde}
use Rattle.hs_syntax.specs.declared.name_ref.NameRef.{NameRef}
use Rattle.hs_syntax.specs.declared.name_ref.QopTree.{QopTree}
use Rattle.hs_syntax.specs.declared.pattern_tree.GconTree.{GconTree}
use Rattle.hs_syntax.specs.declared.pattern_tree.PatTree.{PatTree}
use Rattle.hs_syntax.specs.declared.pattern_tree.PatLink.{PatLink}
use Rattle.hs_syntax.specs.declared.pattern_tree.PatOperand.{PatOperand}
use Rattle.hs_syntax.specs.declared.pattern_tree.ApatTree.{ApatTree}
use Rattle.hs_syntax.specs.declared.pattern_tree.LhsTree.{LhsTree}
use Rattle.hs_syntax.specs.declared.expr_tree.SigTree.{SigTree}
use Rattle.hs_syntax.specs.declared.expr_tree.FixTree.{FixTree}
use Rattle.hs_syntax.specs.declared.expr_tree.FixWord.{FixWord}
use Rattle.hs_syntax.specs.declared.expr_tree.ExprTree.{ExprTree}
use Rattle.hs_syntax.specs.declared.expr_tree.LinkTree.{LinkTree}
use Rattle.hs_syntax.specs.declared.expr_tree.ChainTree.{ChainTree}
use Rattle.hs_syntax.specs.declared.expr_tree.LastTree.{LastTree}
use Rattle.hs_syntax.specs.declared.expr_tree.OpenTree.{OpenTree}
use Rattle.hs_syntax.specs.declared.expr_tree.ClosedTree.{ClosedTree}
use Rattle.hs_syntax.specs.declared.expr_tree.AexpTree.{AexpTree}
use Rattle.hs_syntax.specs.declared.expr_tree.AltTree.{AltTree}
use Rattle.hs_syntax.specs.declared.expr_tree.DeclTree.{DeclTree}
use Rattle.hs_syntax.specs.Signs.{sign_of}
use Rattle.hs_syntax.specs.Reading.{begins, is_comma, is_close_paren, is_close_square}
use Rattle.hs_parts.specs.Names.{is_qvarsym, is_gconsym, is_qvarid, is_qconid, is_literal, IsVar, VarIdVar, VarSymVar, IsQvar, VarIdQvar, VarSymQvar, IsQcon, ConIdQcon, ConSymQcon, IsCommas, LastComma, MoreCommas, IsGcon, ConGcon, UnitGcon, ListGcon, TupleGcon, IsQop, VarSymQop, ConSymQop, VarIdQop, ConIdQop}
use Rattle.hs_parts.specs.Grammar.{word_of, IsPattern, ChainPattern, IsOperands, LastOperand, MoreOperands, IsOperand, NumberOperand, MinusOperand, AppliedOperand, SingleOperand, IsApat, ConApat, NumberApat, SingleApat, IsSingle, VarSingle, AsSingle, EmptySingle, RecordSingle, QuotedSingle, WildSingle, TupleSingle, ListSingle, LazySingle, VarFunction, AppliedFunction, InfixFunction, IsLhs, FunctionLhs, PatternLhs, LastVar, MoreVars, IsSig, TypedSig, IsFix, WordFix}
use Rattle.expr_parts.specs.Grammar.{IsMinus, NoMinus, AMinus, IsExp, PlainExp, TypedExp, IsChain, LinkedChain, IsLinks, LastClosed, LastOpen, MoreLinks, IsOpen, LambdaOpen, LetOpen, IfOpen, IsClosed, CaseClosed, DoClosed, ApplyClosed, IsAexp, SimpleAexp, UpdateAexp, IsSimple, VarSimple, ConSimple, LiteralSimple, TupleSimple, ListSimple, RangeSimple, ComprehensionSimple, LeftSimple, RightSimple, RecordSimple, IsExps, LastExp, MoreExps, IsAlt, PlainAlt, GuardedAlt, IsDecl, SigDecl, FixDecl, ClauseDecl, SidesClause}
use Rattle.hs_parts.specs.PatternReaders.{begins_apat}
use Rattle.expr_parts.specs.Expressions.{aexp_begins}

pub false_true : false ≡ true → ⊥
false_true e = cc

-- an operand of a chain
abbrev pub exp_begins : Sign → Bool
exp_begins Case = true
exp_begins Do = true
exp_begins If = true
exp_begins Let = true
exp_begins Lambda = true
exp_begins k = aexp_begins k

-- a chain: an operand, or a minus sign and an operand
pub data Starts : List Token → Type 0 where
  PlainStart : {t : Token} {a : List Token} → exp_begins (sign_of t) ≡ true → Starts (t ∷ a)
  MinusStart : {m t : Token} {a : List Token} → sign_of m ≡ Minus → exp_begins (sign_of t) ≡ true → Starts (m ∷ t ∷ a)

aexp_exp : (k : Sign) → aexp_begins k ≡ true → exp_begins k ≡ true
aexp_exp Case e = refl
aexp_exp Do e = refl
aexp_exp If e = refl
aexp_exp Let e = refl
aexp_exp Lambda e = refl
aexp_exp k e = e

pub aexp_exp_at : (a : List Token) → begins aexp_begins a ≡ true → begins exp_begins a ≡ true
aexp_exp_at [] e = e
aexp_exp_at (t ∷ a) e = aexp_exp (sign_of t) e

qvarid_aexp : (k : Sign) → is_qvarid k ≡ true → aexp_begins k ≡ true
qvarid_aexp Var e = refl
qvarid_aexp QualifiedVar e = refl
qvarid_aexp _ e = absurd (let x : ⊥ = cc in x)

qconid_aexp : (k : Sign) → is_qconid k ≡ true → aexp_begins k ≡ true
qconid_aexp Con e = refl
qconid_aexp QualifiedCon e = refl
qconid_aexp _ e = absurd (let x : ⊥ = cc in x)

literal_aexp : (k : Sign) → is_literal k ≡ true → aexp_begins k ≡ true
literal_aexp Number e = refl
literal_aexp Quoted e = refl
literal_aexp _ e = absurd (let x : ⊥ = cc in x)

qvar_start : {a b : List Token} {x : NameRef} → IsQvar a b x → begins aexp_begins a ≡ true
qvar_start (VarIdQvar {t = t} e) = qvarid_aexp (sign_of t) e
qvar_start (VarSymQvar e f g) = ap aexp_begins e

qcon_start : {a b : List Token} {x : NameRef} → IsQcon a b x → begins aexp_begins a ≡ true
qcon_start (ConIdQcon {t = t} e) = qconid_aexp (sign_of t) e
qcon_start (ConSymQcon e f g) = ap aexp_begins e

gcon_start : {a b : List Token} {x : GconTree} → IsGcon a b x → begins aexp_begins a ≡ true
gcon_start (ConGcon x) = qcon_start x
gcon_start (UnitGcon e f) = ap aexp_begins e
gcon_start (ListGcon e f) = ap aexp_begins e
gcon_start (TupleGcon e x f) = ap aexp_begins e

pub simple_start : {a b : List Token} {x : AexpTree} → IsSimple a b x → begins aexp_begins a ≡ true
simple_start (VarSimple x) = qvar_start x
simple_start (ConSimple x) = gcon_start x
simple_start (LiteralSimple {t = t} e) = literal_aexp (sign_of t) e
simple_start (TupleSimple e x f) = ap aexp_begins e
simple_start (ListSimple e x f) = ap aexp_begins e
simple_start (RangeSimple e x y f z g) = ap aexp_begins e
simple_start (ComprehensionSimple e x f y g) = ap aexp_begins e
simple_start (LeftSimple e x q f) = ap aexp_begins e
simple_start (RightSimple e g q x f) = ap aexp_begins e
simple_start (RecordSimple x e f) = qcon_start x

pub aexp_start : {a b : List Token} {x : AexpTree} → IsAexp a b x → begins aexp_begins a ≡ true
aexp_start (SimpleAexp x) = simple_start x
aexp_start (UpdateAexp x y) = simple_start x

pub closed_start : {a b : List Token} {x : ClosedTree} → IsClosed a b x → begins exp_begins a ≡ true
closed_start (CaseClosed e x f y) = ap exp_begins e
closed_start (DoClosed e x) = ap exp_begins e
closed_start (ApplyClosed {a = a} x y) = aexp_exp_at a (aexp_start x)

pub open_start : {a b : List Token} {x : OpenTree} → IsOpen a b x → begins exp_begins a ≡ true
open_start (LambdaOpen e x f y) = ap exp_begins e
open_start (LetOpen e x f y) = ap exp_begins e
open_start (IfOpen e x g f y h i z) = ap exp_begins e

plain_start : (a : List Token) → begins exp_begins a ≡ true → Starts a
plain_start [] e = absurd (false_true e)
plain_start (t ∷ a) e = PlainStart e

minus_behind : (m : Token) (a : List Token) → sign_of m ≡ Minus → begins exp_begins a ≡ true → Starts (m ∷ a)
minus_behind m [] f e = absurd (false_true e)
minus_behind m (t ∷ a) f e = MinusStart f e

minus_start : {a b : List Token} {m : Bool} → IsMinus a b m → begins exp_begins b ≡ true → Starts a
minus_start (NoMinus {a = a}) e = plain_start a e
minus_start (AMinus {a = a} {t = t} f) e = minus_behind t a f e

pub links_start : {o : Bool} {a b : List Token} {ls : List LinkTree} {x : LastTree} → IsLinks o a b ls x → Starts a
links_start (LastClosed s x) = minus_start s (closed_start x)
links_start (LastOpen s x) = minus_start s (open_start x)
links_start (MoreLinks s x q y) = minus_start s (closed_start x)

pub chain_start : {o : Bool} {a b : List Token} {k : ChainTree} → IsChain o a b k → Starts a
chain_start (LinkedChain x) = links_start x

pub exp_start : {a b : List Token} {e : ExprTree} → IsExp a b e → Starts a
exp_start (PlainExp x) = chain_start x
exp_start (TypedExp x e y) = chain_start x

pub exps_start : {a b : List Token} {es : List ExprTree} → IsExps a b es → Starts a
exps_start (LastExp x) = exp_start x
exps_start (MoreExps x e y) = exp_start x

-- a sort of signs that begin no chain
pub starts_not : (p : Sign → Bool) → ((k : Sign) → exp_begins k ≡ true → p k ≡ false) → p Minus ≡ false → {a : List Token} → Starts a → begins p a ≡ false
starts_not p f g (PlainStart {t = t} e) = f (sign_of t) e
starts_not p f g (MinusStart h e) = ap p h ∙ g

exp_no_close : (k : Sign) → exp_begins k ≡ true → is_close_paren k ≡ false
exp_no_close CloseParen e = absurd (let x : ⊥ = cc in x)
exp_no_close _ e = refl

exp_no_square : (k : Sign) → exp_begins k ≡ true → is_close_square k ≡ false
exp_no_square CloseSquare e = absurd (let x : ⊥ = cc in x)
exp_no_square _ e = refl

exp_no_comma : (k : Sign) → exp_begins k ≡ true → is_comma k ≡ false
exp_no_comma Comma e = absurd (let x : ⊥ = cc in x)
exp_no_comma _ e = refl

pub no_close : {a : List Token} → Starts a → begins is_close_paren a ≡ false
no_close s = starts_not is_close_paren exp_no_close refl s

pub no_square : {a : List Token} → Starts a → begins is_close_square a ≡ false
no_square s = starts_not is_close_square exp_no_square refl s

pub no_comma : {a : List Token} → Starts a → begins is_comma a ≡ false
no_comma s = starts_not is_comma exp_no_comma refl s

-- operators
abbrev pub op_begins : Sign → Bool
op_begins Backquote = true
op_begins Minus = true
op_begins Bang = true
op_begins Star = true
op_begins VarSym = true
op_begins QualifiedVarSym = true
op_begins Colon = true
op_begins ConSym = true
op_begins QualifiedConSym = true
op_begins _ = false

qvarsym_op : (k : Sign) → is_qvarsym k ≡ true → op_begins k ≡ true
qvarsym_op Minus e = refl
qvarsym_op Bang e = refl
qvarsym_op Star e = refl
qvarsym_op VarSym e = refl
qvarsym_op QualifiedVarSym e = refl
qvarsym_op _ e = absurd (let x : ⊥ = cc in x)

gconsym_op : (k : Sign) → is_gconsym k ≡ true → op_begins k ≡ true
gconsym_op Colon e = refl
gconsym_op ConSym e = refl
gconsym_op QualifiedConSym e = refl
gconsym_op _ e = absurd (let x : ⊥ = cc in x)

pub qop_start : {a b : List Token} {x : QopTree} → IsQop a b x → begins op_begins a ≡ true
qop_start (VarSymQop {t = t} e) = qvarsym_op (sign_of t) e
qop_start (ConSymQop {t = t} e) = gconsym_op (sign_of t) e
qop_start (VarIdQop e f g) = ap op_begins e
qop_start (ConIdQop e f g) = ap op_begins e

-- a sign is one of two sorts alone
pub apart : (p q : Sign → Bool) → ((k : Sign) → p k ≡ true → q k ≡ false) → (k : Sign) → p k ≡ true → q k ≡ true → ⊥
apart p q f k e g = false_true (sym (f k e) ∙ g)

exp_no_qvarsym : (k : Sign) → exp_begins k ≡ true → is_qvarsym k ≡ false
exp_no_qvarsym Minus e = absurd (let x : ⊥ = cc in x)
exp_no_qvarsym Bang e = absurd (let x : ⊥ = cc in x)
exp_no_qvarsym Star e = absurd (let x : ⊥ = cc in x)
exp_no_qvarsym VarSym e = absurd (let x : ⊥ = cc in x)
exp_no_qvarsym QualifiedVarSym e = absurd (let x : ⊥ = cc in x)
exp_no_qvarsym _ e = refl

exp_no_gconsym : (k : Sign) → exp_begins k ≡ true → is_gconsym k ≡ false
exp_no_gconsym Colon e = absurd (let x : ⊥ = cc in x)
exp_no_gconsym ConSym e = absurd (let x : ⊥ = cc in x)
exp_no_gconsym QualifiedConSym e = absurd (let x : ⊥ = cc in x)
exp_no_gconsym _ e = refl

no_exp : (k j : Sign) → k ≡ j → exp_begins j ≡ false → exp_begins k ≡ true → ⊥
no_exp k j e f g = false_true (sym f ∙ sym (ap exp_begins e) ∙ g)

-- a symbol and a closing parenthesis begin no chain
symbol_start : {t c : Token} {a : List Token} → Starts (t ∷ c ∷ a) → is_qvarsym (sign_of t) ≡ true → sign_of c ≡ CloseParen → ⊥
symbol_start {t = t} (PlainStart e) f g = apart exp_begins is_qvarsym exp_no_qvarsym (sign_of t) e f
symbol_start {c = c} (MinusStart h e) f g = no_exp (sign_of c) CloseParen g refl e

con_start : {t c : Token} {a : List Token} → Starts (t ∷ c ∷ a) → is_gconsym (sign_of t) ≡ true → ⊥
con_start {t = t} (PlainStart e) f = apart exp_begins is_gconsym exp_no_gconsym (sign_of t) e f
con_start (MinusStart h e) f = false_true (sym (ap is_gconsym h) ∙ f)

commas_start : {a b : List Token} {n : ℕ} → IsCommas a b n → begins is_comma a ≡ true
commas_start (LastComma e) = ap is_comma e
commas_start (MoreCommas e x) = ap is_comma e

-- no name in parentheses stands where a chain in parentheses does
pub paren_no_qvar : {o : Token} {a b : List Token} {x : NameRef} → IsQvar (o ∷ a) b x → sign_of o ≡ OpenParen → Starts a → ⊥
paren_no_qvar (VarIdQvar e) g s = false_true (sym (ap is_qvarid g) ∙ e)
paren_no_qvar (VarSymQvar e f h) g s = symbol_start s f h

pub paren_no_gcon : {o : Token} {a b : List Token} {x : GconTree} → IsGcon (o ∷ a) b x → sign_of o ≡ OpenParen → Starts a → ⊥
paren_no_gcon (ConGcon (ConIdQcon e)) g s = false_true (sym (ap is_qconid g) ∙ e)
paren_no_gcon (ConGcon (ConSymQcon e f h)) g s = con_start s f
paren_no_gcon (UnitGcon e f) g s = false_true (sym (no_close s) ∙ ap is_close_paren f)
paren_no_gcon (ListGcon e f) g s = false_true (sym (ap is_close_square_open g) ∙ ap is_close_square_open e)
  where
    is_close_square_open : Sign → Bool
    is_close_square_open OpenSquare = true
    is_close_square_open _ = false
paren_no_gcon (TupleGcon e x f) g s = false_true (sym (no_comma s) ∙ commas_start x)

abbrev pub is_open_square : Sign → Bool
is_open_square OpenSquare = true
is_open_square _ = false

pub square_no_qvar : {o : Token} {a b : List Token} {x : NameRef} → IsQvar (o ∷ a) b x → sign_of o ≡ OpenSquare → ⊥
square_no_qvar (VarIdQvar e) g = false_true (sym (ap is_qvarid g) ∙ e)
square_no_qvar (VarSymQvar e f h) g = false_true (sym (ap is_open_square e) ∙ ap is_open_square g)

pub square_no_gcon : {o : Token} {a b : List Token} {x : GconTree} → IsGcon (o ∷ a) b x → sign_of o ≡ OpenSquare → Starts a → ⊥
square_no_gcon (ConGcon (ConIdQcon e)) g s = false_true (sym (ap is_qconid g) ∙ e)
square_no_gcon (ConGcon (ConSymQcon e f h)) g s = false_true (sym (ap is_open_square e) ∙ ap is_open_square g)
square_no_gcon (UnitGcon e f) g s = false_true (sym (ap is_open_square e) ∙ ap is_open_square g)
square_no_gcon (ListGcon e f) g s = false_true (sym (no_square s) ∙ ap is_close_square f)
square_no_gcon (TupleGcon e x f) g s = false_true (sym (ap is_open_square e) ∙ ap is_open_square g)

-- nor where a right section does
qop_no_close : {m c : Token} {a b : List Token} {x : QopTree} → IsQop (m ∷ c ∷ a) b x → Starts b → sign_of c ≡ CloseParen → ⊥
qop_no_close (VarSymQop e) s g = false_true (sym (no_close s) ∙ ap is_close_paren g)
qop_no_close (ConSymQop e) s g = false_true (sym (no_close s) ∙ ap is_close_paren g)
qop_no_close (VarIdQop e f h) s g = false_true (sym (ap is_qvarid g) ∙ f)
qop_no_close (ConIdQop e f h) s g = false_true (sym (ap is_qconid g) ∙ f)

pub section_no_qvar : {o : Token} {a b c : List Token} {x : NameRef} {q : QopTree} → IsQvar (o ∷ a) b x → sign_of o ≡ OpenParen → IsQop a c q → Starts c → ⊥
section_no_qvar (VarIdQvar e) g q s = false_true (sym (ap is_qvarid g) ∙ e)
section_no_qvar (VarSymQvar e f h) g q s = qop_no_close q s h

pub section_no_gcon : {o : Token} {a b c : List Token} {x : GconTree} {q : QopTree} → IsGcon (o ∷ a) b x → sign_of o ≡ OpenParen → IsQop a c q → Starts c → ⊥
section_no_gcon (ConGcon (ConIdQcon e)) g q s = false_true (sym (ap is_qconid g) ∙ e)
section_no_gcon (ConGcon (ConSymQcon e f h)) g q s = qop_no_close q s h
section_no_gcon (UnitGcon e f) g q s = false_true (sym (ap op_begins f) ∙ qop_start q)
section_no_gcon (ListGcon e f) g q s = false_true (sym (ap is_open_square g) ∙ ap is_open_square e)
section_no_gcon (TupleGcon {a = a} e x f) g q s = comma_op a (commas_start x) (qop_start q)
  where
    comma_op : (a : List Token) → begins is_comma a ≡ true → begins op_begins a ≡ true → ⊥
    comma_op [] i j = false_true i
    comma_op (t ∷ a) i j = apart is_comma op_begins comma_no_op (sign_of t) i j
      where
        comma_no_op : (k : Sign) → is_comma k ≡ true → op_begins k ≡ false
        comma_no_op Comma y = refl
        comma_no_op _ y = absurd (let z : ⊥ = cc in z)

-- Patterns, left sides and declarations

abbrev pub side_begins : Sign → Bool
side_begins Var = true
side_begins Con = true
side_begins QualifiedCon = true
side_begins Minus = true
side_begins Number = true
side_begins Quoted = true
side_begins OpenParen = true
side_begins OpenSquare = true
side_begins Wild = true
side_begins Tilde = true
side_begins _ = false

var_start : {a b : List Token} {x : NameRef} → IsVar a b x → begins side_begins a ≡ true
var_start (VarIdVar e) = ap side_begins e
var_start (VarSymVar e f g) = ap side_begins e

qconid_side : (k : Sign) → is_qconid k ≡ true → side_begins k ≡ true
qconid_side Con e = refl
qconid_side QualifiedCon e = refl
qconid_side _ e = absurd (let x : ⊥ = cc in x)

qcon_side : {a b : List Token} {x : NameRef} → IsQcon a b x → begins side_begins a ≡ true
qcon_side (ConIdQcon {t = t} e) = qconid_side (sign_of t) e
qcon_side (ConSymQcon e f g) = ap side_begins e

gcon_side : {a b : List Token} {x : GconTree} → IsGcon a b x → begins side_begins a ≡ true
gcon_side (ConGcon x) = qcon_side x
gcon_side (UnitGcon e f) = ap side_begins e
gcon_side (ListGcon e f) = ap side_begins e
gcon_side (TupleGcon e x f) = ap side_begins e

single_start : {a b : List Token} {x : ApatTree} → IsSingle a b x → begins side_begins a ≡ true
single_start (VarSingle x) = var_start x
single_start (AsSingle x e y) = var_start x
single_start (EmptySingle x e f) = qcon_side x
single_start (RecordSingle x e y f) = qcon_side x
single_start (QuotedSingle e) = ap side_begins e
single_start (WildSingle e) = ap side_begins e
single_start (TupleSingle e x f) = ap side_begins e
single_start (ListSingle e x f) = ap side_begins e
single_start (LazySingle e x) = ap side_begins e

operand_start : {a b : List Token} {x : PatOperand} → IsOperand a b x → begins side_begins a ≡ true
operand_start (NumberOperand e) = ap side_begins e
operand_start (MinusOperand e f) = ap side_begins e
operand_start (AppliedOperand x y) = gcon_side x
operand_start (SingleOperand x) = single_start x

operands_start : {a b : List Token} {ls : List PatLink} {x : PatOperand} → IsOperands a b ls x → begins side_begins a ≡ true
operands_start (LastOperand x) = operand_start x
operands_start (MoreOperands x q y) = operand_start x

pub pattern_start : {a b : List Token} {x : PatTree} → IsPattern a b x → begins side_begins a ≡ true
pattern_start (ChainPattern x) = operands_start x

pub lhs_start : {a b : List Token} {x : LhsTree} → IsLhs a b x → begins side_begins a ≡ true
lhs_start (FunctionLhs (VarFunction x y)) = var_start x
lhs_start (FunctionLhs (AppliedFunction e x f y)) = ap side_begins e
lhs_start (FunctionLhs (InfixFunction x q y)) = pattern_start x
lhs_start (PatternLhs g x) = pattern_start x

pub sig_start : {a b : List Token} {x : SigTree} → IsSig a b x → begins side_begins a ≡ true
sig_start (TypedSig (LastVar x) e y) = var_start x
sig_start (TypedSig (MoreVars x f z) e y) = var_start x

-- the words of fixities
abbrev pub is_word : Sign → Bool
is_word Infix = true
is_word Infixl = true
is_word Infixr = true
is_word _ = false

word_by : (k : Sign) (w : FixWord) → word_of k ≡ Some w → is_word k ≡ true
word_by Infix w e = refl
word_by Infixl w e = refl
word_by Infixr w e = refl
word_by _ w e = absurd (let x : ⊥ = cc in x)

pub fix_start : {a b : List Token} {x : FixTree} → IsFix a b x → begins is_word a ≡ true
fix_start (WordFix {t = t} {w = w} e x y) = word_by (sign_of t) w e

-- what stands between the items of a block begins none
abbrev pub is_separator : Sign → Bool
is_separator Semicolon = true
is_separator (CloseBrace b) = true
is_separator _ = false

pub lift : (p q : Sign → Bool) → ((k : Sign) → p k ≡ true → q k ≡ false) → (a : List Token) → begins p a ≡ true → begins q a ≡ false
lift p q f [] e = refl
lift p q f (t ∷ a) e = f (sign_of t) e

side_separator : (k : Sign) → side_begins k ≡ true → is_separator k ≡ false
side_separator Semicolon e = absurd (let x : ⊥ = cc in x)
side_separator (CloseBrace b) e = absurd (let x : ⊥ = cc in x)
side_separator _ e = refl

word_separator : (k : Sign) → is_word k ≡ true → is_separator k ≡ false
word_separator Semicolon e = absurd (let x : ⊥ = cc in x)
word_separator (CloseBrace b) e = absurd (let x : ⊥ = cc in x)
word_separator _ e = refl

exp_separator : (k : Sign) → exp_begins k ≡ true → is_separator k ≡ false
exp_separator Semicolon e = absurd (let x : ⊥ = cc in x)
exp_separator (CloseBrace b) e = absurd (let x : ⊥ = cc in x)
exp_separator _ e = refl

pub pattern_item : (a : List Token) → begins side_begins a ≡ true → begins is_separator a ≡ false
pattern_item a e = lift side_begins is_separator side_separator a e

pub exp_item : {a : List Token} → Starts a → begins is_separator a ≡ false
exp_item s = starts_not is_separator exp_separator refl s

pub alt_item : {a b : List Token} {x : AltTree} → IsAlt a b x → begins is_separator a ≡ false
alt_item (PlainAlt {a = a} x e y z) = pattern_item a (pattern_start x)
alt_item (GuardedAlt {a = a} x y z) = pattern_item a (pattern_start x)

pub decl_item : {a b : List Token} {x : DeclTree} → IsDecl a b x → begins is_separator a ≡ false
decl_item (SigDecl {a = a} x) = pattern_item a (sig_start x)
decl_item (FixDecl {a = a} x) = lift is_word is_separator word_separator a (fix_start x)
decl_item (ClauseDecl (SidesClause {a = a} x y)) = pattern_item a (lhs_start x)

-- what an apat begins with
apat_qconid : (k : Sign) → is_qconid k ≡ true → begins_apat k ≡ true
apat_qconid Con e = refl
apat_qconid QualifiedCon e = refl
apat_qconid _ e = absurd (let x : ⊥ = cc in x)

apat_var : {a b : List Token} {x : NameRef} → IsVar a b x → begins begins_apat a ≡ true
apat_var (VarIdVar e) = ap begins_apat e
apat_var (VarSymVar e f g) = ap begins_apat e

apat_qcon : {a b : List Token} {x : NameRef} → IsQcon a b x → begins begins_apat a ≡ true
apat_qcon (ConIdQcon {t = t} e) = apat_qconid (sign_of t) e
apat_qcon (ConSymQcon e f g) = ap begins_apat e

apat_gcon : {a b : List Token} {x : GconTree} → IsGcon a b x → begins begins_apat a ≡ true
apat_gcon (ConGcon x) = apat_qcon x
apat_gcon (UnitGcon e f) = ap begins_apat e
apat_gcon (ListGcon e f) = ap begins_apat e
apat_gcon (TupleGcon e x f) = ap begins_apat e

apat_single : {a b : List Token} {x : ApatTree} → IsSingle a b x → begins begins_apat a ≡ true
apat_single (VarSingle x) = apat_var x
apat_single (AsSingle x e y) = apat_var x
apat_single (EmptySingle x e f) = apat_qcon x
apat_single (RecordSingle x e y f) = apat_qcon x
apat_single (QuotedSingle e) = ap begins_apat e
apat_single (WildSingle e) = ap begins_apat e
apat_single (TupleSingle e x f) = ap begins_apat e
apat_single (ListSingle e x f) = ap begins_apat e
apat_single (LazySingle e x) = ap begins_apat e

pub apat_start : {a b : List Token} {x : ApatTree} → IsApat a b x → begins begins_apat a ≡ true
apat_start (ConApat x) = apat_gcon x
apat_start (NumberApat e) = ap begins_apat e
apat_start (SingleApat x) = apat_single x
