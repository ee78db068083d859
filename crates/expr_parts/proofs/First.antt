-- The first sign of some sort from an expression on is never one that stands in no expression, unless it is so behind it.
use Rattle.std.proofs.Common.{◌≡◌, ◌⊎◌, inl, inr, Bool, true, false, List, ◌∷◌, refl, ap, ◌∙◌}
use Rattle.hs_syntax.specs.declared.token.Token.{Token}
use Rattle.hs_syntax.specs.declared.sign.Sign.{Sign}
use Rattle.hs_syntax.specs.declared.sign.Sign.TheVariants.{Var, QualifiedVar, Con, QualifiedCon, Minus, Bang, Star, VarSym, QualifiedVarSym, ConSym, QualifiedConSym, Number, Quoted, Backquote, Wild, Colon, As, Tilde, Implies, OpenBrace, CloseBrace, Semicolon, OpenParen, CloseParen, OpenSquare, CloseSquare, Comma, Case, Do, Else, If, In, Let, Of, Then, Where, Dots, Typed, Equals, Lambda, Bar, Back, Arrow}
use Rattle.hs_syntax.specs.declared.name_ref.NameRef.{NameRef}
use Rattle.hs_syntax.specs.declared.name_ref.QopTree.{QopTree}
use Rattle.hs_syntax.specs.declared.type_tree.QualifiedType.{QualifiedType}
use Rattle.hs_syntax.specs.declared.pattern_tree.GconTree.{GconTree}
use Rattle.hs_syntax.specs.declared.pattern_tree.ApatTree.{ApatTree}
use Rattle.hs_syntax.specs.declared.expr_tree.ExprTree.{ExprTree}
use Rattle.hs_syntax.specs.declared.expr_tree.LinkTree.{LinkTree}
use Rattle.hs_syntax.specs.declared.expr_tree.ChainTree.{ChainTree}
use Rattle.hs_syntax.specs.declared.expr_tree.LastTree.{LastTree}
use Rattle.hs_syntax.specs.declared.expr_tree.OpenTree.{OpenTree}
use Rattle.hs_syntax.specs.declared.expr_tree.ClosedTree.{ClosedTree}
use Rattle.hs_syntax.specs.declared.expr_tree.AexpTree.{AexpTree}
use Rattle.hs_syntax.specs.Signs.{sign_of}
use Rattle.hs_syntax.specs.Reading.{begins, is_back, is_comma, is_arrow}
use Rattle.hs_syntax.proofs.Cut.{cut, inner, pass, stands, opens, closes, is_plain}
use Rattle.hs_parts.proofs.TypesCut.{NoType, commas_inner, qualified_cut}
use Rattle.hs_parts.proofs.PatternsCut.{NoApat, apats_cut, qop_inner}
use Rattle.hs_parts.specs.Names.{is_varsym, is_qvarsym, is_gconsym, is_qvarid, is_qconid, is_literal, IsQvar, VarIdQvar, VarSymQvar, IsQcon, ConIdQcon, ConSymQcon, IsGcon, ConGcon, UnitGcon, ListGcon, TupleGcon, IsQop, VarSymQop, ConSymQop, VarIdQop, ConIdQop}
use Rattle.hs_parts.specs.Grammar.{IsQualified, IsApats}
use Rattle.hs_parts.proofs.ContextsComplete.{is_type_end}
use Rattle.expr_parts.specs.Grammar.{IsMinus, NoMinus, AMinus, IsGap, NoGap, AGap, IsExp, PlainExp, TypedExp, IsChain, LinkedChain, IsLinks, LastClosed, LastOpen, MoreLinks, IsOpen, LambdaOpen, LetOpen, IfOpen, IsClosed, CaseClosed, DoClosed, ApplyClosed, IsAexps, NoAexps, MoreAexps, IsAexp, SimpleAexp, UpdateAexp, IsSimple, VarSimple, ConSimple, LiteralSimple, TupleSimple, ListSimple, RangeSimple, ComprehensionSimple, LeftSimple, RightSimple, RecordSimple}
use Rattle.expr_parts.proofs.Inner.{exp_inner, chain_inner, exps_inner, next_inner, limit_inner, quals_inner, updates_cut, alt_block_cut, stmt_block_cut, decl_block_cut}

-- Signs at the level of a pattern, a left side, an operator or a name
abbrev pub in_side : Sign → Bool
in_side Var = true
in_side QualifiedVar = true
in_side Con = true
in_side QualifiedCon = true
in_side Minus = true
in_side Bang = true
in_side Star = true
in_side VarSym = true
in_side QualifiedVarSym = true
in_side ConSym = true
in_side QualifiedConSym = true
in_side Number = true
in_side Quoted = true
in_side Backquote = true
in_side Wild = true
in_side Colon = true
in_side As = true
in_side Tilde = true
in_side _ = false

varsym_side : (k : Sign) → is_varsym k ≡ true → in_side k ≡ true
varsym_side Minus e = refl
varsym_side Bang e = refl
varsym_side Star e = refl
varsym_side VarSym e = refl
varsym_side _ e = absurd (let x : ⊥ = cc in x)

qvarsym_side : (k : Sign) → is_qvarsym k ≡ true → in_side k ≡ true
qvarsym_side QualifiedVarSym e = refl
qvarsym_side k e = varsym_side k e

gconsym_side : (k : Sign) → is_gconsym k ≡ true → in_side k ≡ true
gconsym_side Colon e = refl
gconsym_side ConSym e = refl
gconsym_side QualifiedConSym e = refl
gconsym_side _ e = absurd (let x : ⊥ = cc in x)

qvarid_side : (k : Sign) → is_qvarid k ≡ true → in_side k ≡ true
qvarid_side Var e = refl
qvarid_side QualifiedVar e = refl
qvarid_side _ e = absurd (let x : ⊥ = cc in x)

qconid_side : (k : Sign) → is_qconid k ≡ true → in_side k ≡ true
qconid_side Con e = refl
qconid_side QualifiedCon e = refl
qconid_side _ e = absurd (let x : ⊥ = cc in x)

literal_side : (k : Sign) → is_literal k ≡ true → in_side k ≡ true
literal_side Number e = refl
literal_side Quoted e = refl
literal_side _ e = absurd (let x : ⊥ = cc in x)

-- the first sign of the sort `p` is not one of the sort `q`
abbrev pub Keeps : (Sign → List Token → Bool) → (Sign → Bool) → List Token → Type 0
Keeps p q a = begins q (cut p a 0) ≡ false

-- the words and the semicolons at the level of an expression
abbrev pub in_word : Sign → Bool
in_word Case = true
in_word Do = true
in_word Else = true
in_word If = true
in_word In = true
in_word Let = true
in_word Of = true
in_word Then = true
in_word Semicolon = true
in_word _ = false

-- the signs behind which an arrow may stand
abbrev pub in_head : Sign → Bool
in_head Lambda = true
in_head Typed = true
in_head _ = false

-- a sort of signs that is in no pattern of a lambda and in no type
pub record NoHead (p : Sign → List Token → Bool) : Type 0 where
  pub apat : NoApat p
  pub ty : NoType p
  pub implies : (ts : List Token) → p Implies ts ≡ false
  pub lambda : (ts : List Token) → p Lambda ts ≡ false
  pub typed : (ts : List Token) → p Typed ts ≡ false

pub record First (p : Sign → List Token → Bool) (q : Sign → Bool) : Type 0 where
  pub side : (k : Sign) → in_side k ≡ true → q k ≡ false
  pub word : (k : Sign) → in_word k ≡ true → q k ≡ false
  -- either these signs are of the sort themselves, or no sign of an expression is
  pub head : ((t : Token) (ts : List Token) → in_head (sign_of t) ≡ true → Keeps p q (t ∷ ts)) ⊎ NoHead p

kept : (p : Sign → List Token → Bool) (q : Sign → Bool) {a b : List Token} → a ≡ b → begins q b ≡ false → begins q a ≡ false
kept p q e k = ap (begins q) e ∙ k

token_by : (p : Sign → List Token → Bool) (q : Sign → Bool) (t : Token) (ts : List Token) → is_plain (sign_of t) ≡ true → q (sign_of t) ≡ false → Keeps p q ts
    → (b : Bool) → p (sign_of t) ts ≡ b → Keeps p q (t ∷ ts)
token_by p q t ts e f k true g = ap (begins q) (stands p t ts e g) ∙ f
token_by p q t ts e f k false g = ap (begins q) (pass p t ts (sign_of t) refl e g 0) ∙ k

pub token_keeps : (p : Sign → List Token → Bool) (q : Sign → Bool) (t : Token) (ts : List Token) → is_plain (sign_of t) ≡ true → q (sign_of t) ≡ false → Keeps p q ts → Keeps p q (t ∷ ts)
token_keeps p q t ts e f k = token_by p q t ts e f k (p (sign_of t) ts) refl

side_plain : (k : Sign) → in_side k ≡ true → is_plain k ≡ true
side_plain (OpenBrace b) e = absurd (let x : ⊥ = cc in x)
side_plain (CloseBrace b) e = absurd (let x : ⊥ = cc in x)
side_plain OpenParen e = absurd (let x : ⊥ = cc in x)
side_plain CloseParen e = absurd (let x : ⊥ = cc in x)
side_plain OpenSquare e = absurd (let x : ⊥ = cc in x)
side_plain CloseSquare e = absurd (let x : ⊥ = cc in x)
side_plain _ e = refl

word_plain : (k : Sign) → in_word k ≡ true → is_plain k ≡ true
word_plain (OpenBrace b) e = absurd (let x : ⊥ = cc in x)
word_plain (CloseBrace b) e = absurd (let x : ⊥ = cc in x)
word_plain OpenParen e = absurd (let x : ⊥ = cc in x)
word_plain CloseParen e = absurd (let x : ⊥ = cc in x)
word_plain OpenSquare e = absurd (let x : ⊥ = cc in x)
word_plain CloseSquare e = absurd (let x : ⊥ = cc in x)
word_plain _ e = refl

side_keeps : (p : Sign → List Token → Bool) (q : Sign → Bool) → First p q → (t : Token) (ts : List Token) → in_side (sign_of t) ≡ true → Keeps p q ts → Keeps p q (t ∷ ts)
side_keeps p q f t ts e k = token_keeps p q t ts (side_plain (sign_of t) e) (f.side (sign_of t) e) k

word_keeps : (p : Sign → List Token → Bool) (q : Sign → Bool) → First p q → (t : Token) (ts : List Token) → in_word (sign_of t) ≡ true → Keeps p q ts → Keeps p q (t ∷ ts)
word_keeps p q f t ts e k = token_keeps p q t ts (word_plain (sign_of t) e) (f.word (sign_of t) e) k

symbol : (p : Sign → List Token → Bool) (o t c : Token) (a : List Token) → sign_of o ≡ OpenParen → in_side (sign_of t) ≡ true → sign_of c ≡ CloseParen → cut p (o ∷ t ∷ c ∷ a) 0 ≡ cut p a 0
symbol p o t c a e f g = opens p o (t ∷ c ∷ a) OpenParen e refl 0 ∙ inner p t (c ∷ a) (sign_of t) refl (side_plain (sign_of t) f) 0 ∙ closes p c a CloseParen g refl 0

qvar_first : (p : Sign → List Token → Bool) (q : Sign → Bool) → First p q → {a b : List Token} {n : NameRef} → IsQvar a b n → Keeps p q b → Keeps p q a
qvar_first p q f (VarIdQvar {a = a} {t = t} e) k = side_keeps p q f t a (qvarid_side (sign_of t) e) k
qvar_first p q f (VarSymQvar {a = a} {o = o} {t = t} {c = c} e g h) k = kept p q (symbol p o t c a e (qvarsym_side (sign_of t) g) h) k

qcon_first : (p : Sign → List Token → Bool) (q : Sign → Bool) → First p q → {a b : List Token} {n : NameRef} → IsQcon a b n → Keeps p q b → Keeps p q a
qcon_first p q f (ConIdQcon {a = a} {t = t} e) k = side_keeps p q f t a (qconid_side (sign_of t) e) k
qcon_first p q f (ConSymQcon {a = a} {o = o} {t = t} {c = c} e g h) k = kept p q (symbol p o t c a e (gconsym_side (sign_of t) g) h) k

gcon_first : (p : Sign → List Token → Bool) (q : Sign → Bool) → First p q → {a b : List Token} {g : GconTree} → IsGcon a b g → Keeps p q b → Keeps p q a
gcon_first p q f (ConGcon x) k = qcon_first p q f x k
gcon_first p q f (UnitGcon {a = a} {o = o} {c = c} e g) k = kept p q (opens p o (c ∷ a) OpenParen e refl 0 ∙ closes p c a CloseParen g refl 0) k
gcon_first p q f (ListGcon {a = a} {o = o} {c = c} e g) k = kept p q (opens p o (c ∷ a) OpenSquare e refl 0 ∙ closes p c a CloseSquare g refl 0) k
gcon_first p q f (TupleGcon {a = a} {b = b} {o = o} {c = c} e x g) k = kept p q (opens p o a OpenParen e refl 0 ∙ commas_inner p x 0 ∙ closes p c b CloseParen g refl 0) k

pub qop_first : (p : Sign → List Token → Bool) (q : Sign → Bool) → First p q → {a b : List Token} {x : QopTree} → IsQop a b x → Keeps p q b → Keeps p q a
qop_first p q f (VarSymQop {a = a} {t = t} e) k = side_keeps p q f t a (qvarsym_side (sign_of t) e) k
qop_first p q f (ConSymQop {a = a} {t = t} e) k = side_keeps p q f t a (gconsym_side (sign_of t) e) k
qop_first p q f (VarIdQop {a = a} {o = o} {t = t} {c = c} e g h) k =
    side_keeps p q f o (t ∷ c ∷ a) (ap in_side e) (side_keeps p q f t (c ∷ a) (qvarid_side (sign_of t) g) (side_keeps p q f c a (ap in_side h) k))
qop_first p q f (ConIdQop {a = a} {o = o} {t = t} {c = c} e g h) k =
    side_keeps p q f o (t ∷ c ∷ a) (ap in_side e) (side_keeps p q f t (c ∷ a) (qconid_side (sign_of t) g) (side_keeps p q f c a (ap in_side h) k))

simple_first : (p : Sign → List Token → Bool) (q : Sign → Bool) → First p q → {a b : List Token} {x : AexpTree} → IsSimple a b x → Keeps p q b → Keeps p q a
simple_first p q f (VarSimple x) k = qvar_first p q f x k
simple_first p q f (ConSimple x) k = gcon_first p q f x k
simple_first p q f (LiteralSimple {a = a} {t = t} e) k = side_keeps p q f t a (literal_side (sign_of t) e) k
simple_first p q f (TupleSimple {a = a} {b = b} {o = o} {c = c} e x g) k = kept p q (opens p o a OpenParen e refl 0 ∙ exps_inner p 0 x ∙ closes p c b CloseParen g refl 0) k
simple_first p q f (ListSimple {a = a} {b = b} {o = o} {c = c} e x g) k = kept p q (opens p o a OpenSquare e refl 0 ∙ exps_inner p 0 x ∙ closes p c b CloseSquare g refl 0) k
simple_first p q f (RangeSimple {a = a} {d = u} {e = v} {o = o} {w = w} {c = c} i x y g z h) k =
    kept p q (opens p o a OpenSquare i refl 0 ∙ exp_inner p 0 x ∙ next_inner p 0 y ∙ inner p w u Dots g refl 0 ∙ limit_inner p 0 z ∙ closes p c v CloseSquare h refl 0) k
simple_first p q f (ComprehensionSimple {a = a} {b = b} {d = u} {o = o} {m = m} {c = c} e x g y h) k =
    kept p q (opens p o a OpenSquare e refl 0 ∙ exp_inner p 0 x ∙ inner p m b Bar g refl 0 ∙ quals_inner p 0 y ∙ closes p c u CloseSquare h refl 0) k
simple_first p q f (LeftSimple {a = a} {d = u} {o = o} {c = c} e x r g) k =
    kept p q (opens p o a OpenParen e refl 0 ∙ chain_inner p 0 x ∙ qop_inner p r 0 ∙ closes p c u CloseParen g refl 0) k
simple_first p q f (RightSimple {a = a} {d = u} {o = o} {m = m} {c = c} e h r x g) k =
    kept p q (opens p o (m ∷ a) OpenParen e refl 0 ∙ qop_inner p r 0 ∙ chain_inner p 0 x ∙ closes p c u CloseParen g refl 0) k
simple_first p q f (RecordSimple {b = b} {o = o} {c = c} x e g) k = qcon_first p q f x (kept p q (opens p o (c ∷ b) (OpenBrace false) e refl 0 ∙ closes p c b (CloseBrace false) g refl 0) k)

aexp_first : (p : Sign → List Token → Bool) (q : Sign → Bool) → First p q → {a b : List Token} {x : AexpTree} → IsAexp a b x → Keeps p q b → Keeps p q a
aexp_first p q f (SimpleAexp x) k = simple_first p q f x k
aexp_first p q f (UpdateAexp x y) k = simple_first p q f x (kept p q (updates_cut p 0 y) k)

aexps_first : (p : Sign → List Token → Bool) (q : Sign → Bool) → First p q → {a b : List Token} {xs : List AexpTree} → IsAexps a b xs → Keeps p q b → Keeps p q a
aexps_first p q f NoAexps k = k
aexps_first p q f (MoreAexps x y) k = aexp_first p q f x (aexps_first p q f y k)

minus_first : (p : Sign → List Token → Bool) (q : Sign → Bool) → First p q → {a b : List Token} {m : Bool} → IsMinus a b m → Keeps p q b → Keeps p q a
minus_first p q f NoMinus k = k
minus_first p q f (AMinus {a = a} {t = t} e) k = side_keeps p q f t a (ap in_side e) k

gap_first : (p : Sign → List Token → Bool) (q : Sign → Bool) → First p q → {a b : List Token} → IsGap a b → Keeps p q b → Keeps p q a
gap_first p q f NoGap k = k
gap_first p q f (AGap {a = a} {t = t} e) k = word_keeps p q f t a (ap in_word e) k

typed_first : (p : Sign → List Token → Bool) (q : Sign → Bool) → ((t : Token) (ts : List Token) → in_head (sign_of t) ≡ true → Keeps p q (t ∷ ts)) ⊎ NoHead p
    → (t : Token) {b c : List Token} {x : QualifiedType} → sign_of t ≡ Typed → IsQualified b c x → Keeps p q c → Keeps p q (t ∷ b)
typed_first p q (inl h) t {b = b} e x k = h t b (ap in_head e)
typed_first p q (inr n) t {b = b} e x k = kept p q (pass p t b Typed e refl (n.typed b) 0 ∙ qualified_cut p n.ty n.implies x 0) k

lambda_first : (p : Sign → List Token → Bool) (q : Sign → Bool) → ((t : Token) (ts : List Token) → in_head (sign_of t) ≡ true → Keeps p q (t ∷ ts)) ⊎ NoHead p
    → (t w : Token) {a b : List Token} {ps : List ApatTree} → sign_of t ≡ Lambda → IsApats a (w ∷ b) ps → sign_of w ≡ Arrow → Keeps p q b → Keeps p q (t ∷ a)
lambda_first p q (inl h) t w {a = a} e x g k = h t a (ap in_head e)
lambda_first p q (inr n) t w {a = a} {b = b} e x g k = kept p q (pass p t a Lambda e refl (n.lambda a) 0 ∙ apats_cut p n.apat x 0 ∙ pass p w b Arrow g refl (n.ty.arrow b) 0) k

mutual
  pub exp_first : (p : Sign → List Token → Bool) (q : Sign → Bool) → First p q → {a b : List Token} {e : ExprTree} → IsExp a b e → Keeps p q b → Keeps p q a
  exp_first p q f (PlainExp x) k = chain_first p q f x k
  exp_first p q f (TypedExp {t = t} x e y) k = chain_first p q f x (typed_first p q f.head t e y k)

  pub chain_first : (p : Sign → List Token → Bool) (q : Sign → Bool) → First p q → {o : Bool} {a b : List Token} {x : ChainTree} → IsChain o a b x → Keeps p q b → Keeps p q a
  chain_first p q f (LinkedChain x) k = links_first p q f x k

  links_first : (p : Sign → List Token → Bool) (q : Sign → Bool) → First p q → {o : Bool} {a b : List Token} {ls : List LinkTree} {x : LastTree} → IsLinks o a b ls x → Keeps p q b → Keeps p q a
  links_first p q f (LastClosed s x) k = minus_first p q f s (closed_first p q f x k)
  links_first p q f (LastOpen s x) k = minus_first p q f s (open_first p q f x k)
  links_first p q f (MoreLinks s x r y) k = minus_first p q f s (closed_first p q f x (qop_first p q f r (links_first p q f y k)))

  open_first : (p : Sign → List Token → Bool) (q : Sign → Bool) → First p q → {a b : List Token} {x : OpenTree} → IsOpen a b x → Keeps p q b → Keeps p q a
  open_first p q f (LambdaOpen {t = t} {w = w} e x g y) k = lambda_first p q f.head t w e x g (exp_first p q f y k)
  open_first p q f (LetOpen {a = a} {b = b} {t = t} {w = w} e x g y) k =
      word_keeps p q f t a (ap in_word e) (kept p q (decl_block_cut p 0 x) (word_keeps p q f w b (ap in_word g) (exp_first p q f y k)))
  open_first p q f (IfOpen {a = a} {c = c} {e = u} {t = t} {v = v} {w = w} s x g h y i j z) k =
      word_keeps p q f t a (ap in_word s) (exp_first p q f x (gap_first p q f g (word_keeps p q f v c (ap in_word h)
      (exp_first p q f y (gap_first p q f i (word_keeps p q f w u (ap in_word j) (exp_first p q f z k)))))))

  closed_first : (p : Sign → List Token → Bool) (q : Sign → Bool) → First p q → {a b : List Token} {x : ClosedTree} → IsClosed a b x → Keeps p q b → Keeps p q a
  closed_first p q f (CaseClosed {a = a} {b = b} {t = t} {w = w} e x g y) k =
      word_keeps p q f t a (ap in_word e) (exp_first p q f x (word_keeps p q f w b (ap in_word g) (kept p q (alt_block_cut p 0 y) k)))
  closed_first p q f (DoClosed {a = a} {t = t} e x) k = word_keeps p q f t a (ap in_word e) (kept p q (stmt_block_cut p 0 x) k)
  closed_first p q f (ApplyClosed x y) k = aexp_first p q f x (aexps_first p q f y k)

-- What stands in no expression at its level: by these signs an expression is told from what holds one

abbrev pub stops : Sign → Bool
stops Comma = true
stops Back = true
stops Semicolon = true
stops Bar = true
stops Equals = true
stops Where = true
stops _ = false

abbrev pub stop : Sign → List Token → Bool
stop k ts = stops k

pub no_stop : NoHead stop
no_stop = record {
  apat = record { var = λ ts. refl; con = λ ts. refl; qcon = λ ts. refl; number = λ ts. refl; quoted = λ ts. refl; wild = λ ts. refl; at = λ ts. refl; tilde = λ ts. refl };
  ty = record { var = λ ts. refl; con = λ ts. refl; qcon = λ ts. refl; arrow = λ ts. refl };
  implies = λ ts. refl;
  lambda = λ ts. refl;
  typed = λ ts. refl;
}

back_side : (k : Sign) → in_side k ≡ true → is_back k ≡ false
back_side Back e = absurd (let x : ⊥ = cc in x)
back_side _ e = refl

back_word : (k : Sign) → in_word k ≡ true → is_back k ≡ false
back_word Back e = absurd (let x : ⊥ = cc in x)
back_word _ e = refl

comma_side : (k : Sign) → in_side k ≡ true → is_comma k ≡ false
comma_side Comma e = absurd (let x : ⊥ = cc in x)
comma_side _ e = refl

comma_word : (k : Sign) → in_word k ≡ true → is_comma k ≡ false
comma_word Comma e = absurd (let x : ⊥ = cc in x)
comma_word _ e = refl

arrow_side : (k : Sign) → in_side k ≡ true → is_arrow k ≡ false
arrow_side Arrow e = absurd (let x : ⊥ = cc in x)
arrow_side _ e = refl

arrow_word : (k : Sign) → in_word k ≡ true → is_arrow k ≡ false
arrow_word Arrow e = absurd (let x : ⊥ = cc in x)
arrow_word _ e = refl

pub back_first : First stop is_back
back_first = record { side = back_side; word = back_word; head = inr no_stop }

pub comma_first : First stop is_comma
comma_first = record { side = comma_side; word = comma_word; head = inr no_stop }

head_by : (k : Sign) (ts : List Token) → in_head k ≡ true → (is_plain k ≡ true) × (is_type_end k ts ≡ true) × (is_arrow k ≡ false)
head_by Lambda ts e = (refl, refl, refl)
head_by Typed ts e = (refl, refl, refl)
head_by _ ts e = absurd (let x : ⊥ = cc in x)

type_head : (t : Token) (ts : List Token) → in_head (sign_of t) ≡ true → Keeps is_type_end is_arrow (t ∷ ts)
type_head t ts e = let h : (is_plain (sign_of t) ≡ true) × (is_type_end (sign_of t) ts ≡ true) × (is_arrow (sign_of t) ≡ false) = head_by (sign_of t) ts e in ap (begins is_arrow) (stands is_type_end t ts h.0 h.1) ∙ h.2

pub arrow_first : First is_type_end is_arrow
arrow_first = record { side = arrow_side; word = arrow_word; head = inl type_head }
