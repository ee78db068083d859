-- In brackets each derivation is passed over whole.
use Rattle.std.proofs.Common.{◌≡◌, ℕ, suc, Bool, true, false, List, ◌∷◌, refl, ◌∙◌}
use Rattle.std.specs.declared.option.Option.{Option}
use Rattle.hs_syntax.specs.declared.token.Token.{Token}
use Rattle.hs_syntax.specs.declared.sign.Sign.{Sign}
use Rattle.hs_syntax.specs.declared.sign.Sign.TheVariants.{Number, Quoted, Minus, OpenBrace, CloseBrace, Semicolon, OpenParen, CloseParen, OpenSquare, CloseSquare, Comma, Case, Do, Else, If, In, Let, Of, Then, Where, Dots, Typed, Equals, Lambda, Bar, Back, Arrow}
use Rattle.hs_syntax.specs.declared.expr_tree.ExprTree.{ExprTree}
use Rattle.hs_syntax.specs.declared.expr_tree.LinkTree.{LinkTree}
use Rattle.hs_syntax.specs.declared.expr_tree.ChainTree.{ChainTree}
use Rattle.hs_syntax.specs.declared.expr_tree.LastTree.{LastTree}
use Rattle.hs_syntax.specs.declared.expr_tree.OpenTree.{OpenTree}
use Rattle.hs_syntax.specs.declared.expr_tree.ClosedTree.{ClosedTree}
use Rattle.hs_syntax.specs.declared.expr_tree.AltTree.{AltTree}
use Rattle.hs_syntax.specs.declared.expr_tree.ArmTree.{ArmTree}
use Rattle.hs_syntax.specs.declared.expr_tree.GuardTree.{GuardTree}
use Rattle.hs_syntax.specs.declared.expr_tree.QualTree.{QualTree}
use Rattle.hs_syntax.specs.declared.expr_tree.StmtTree.{StmtTree}
use Rattle.hs_syntax.specs.declared.expr_tree.AexpTree.{AexpTree}
use Rattle.hs_syntax.specs.declared.expr_tree.UpdateTree.{UpdateTree}
use Rattle.hs_syntax.specs.declared.expr_tree.FbindTree.{FbindTree}
use Rattle.hs_syntax.specs.declared.expr_tree.DeclTree.{DeclTree}
use Rattle.hs_syntax.specs.declared.expr_tree.Clause.{Clause}
use Rattle.hs_syntax.specs.declared.expr_tree.RhsTree.{RhsTree}
use Rattle.hs_syntax.specs.Signs.{sign_of}
use Rattle.hs_syntax.proofs.Cut.{cut, inner, opens, closes, is_plain}
use Rattle.hs_parts.specs.Names.{is_literal}
use Rattle.hs_parts.proofs.TypesCut.{qualified_inner}
use Rattle.hs_parts.proofs.PatternsCut.{qvar_inner, qcon_inner, gcon_inner, qop_inner, pattern_inner, apats_inner, lhs_inner}
use Rattle.hs_parts.proofs.SigsComplete.{sig_inner, fix_inner}
use Rattle.expr_parts.specs.Grammar.{IsMinus, NoMinus, AMinus, IsGap, NoGap, AGap, IsGaps, NoGaps, MoreGaps, IsExp, PlainExp, TypedExp, IsChain, LinkedChain, IsLinks, LastClosed, LastOpen, MoreLinks, IsOpen, LambdaOpen, LetOpen, IfOpen, IsClosed, CaseClosed, DoClosed, ApplyClosed, IsAexps, NoAexps, MoreAexps, IsAexp, SimpleAexp, UpdateAexp, IsSimple, VarSimple, ConSimple, LiteralSimple, TupleSimple, ListSimple, RangeSimple, ComprehensionSimple, LeftSimple, RightSimple, RecordSimple, IsExps, LastExp, MoreExps, IsNext, NoNext, ANext, IsLimit, NoLimit, ALimit, IsUpdates, NoUpdates, MoreUpdates, IsFbinds, LastFbind, MoreFbinds, IsFbind, FieldFbind, IsQuals, LastQual, MoreQuals, IsQual, BindQual, LetQual, TestQual, IsGuards, LastGuard, MoreGuards, IsGuard, BindGuard, LetGuard, TestGuard, IsArms, LastArm, MoreArms, IsArm, GuardedArm, IsWhere, NoWhere, AWhere, IsRhs, PlainRhs, GuardedRhs, IsAlt, PlainAlt, GuardedAlt, IsAltBlock, BracedAlts, IsAlts, EndAlts, GapAlts, ItemAlts, IsStmt, ExpStmt, BindStmt, LetStmt, IsStmtBlock, BracedStmts, IsStmts, GapStmts, LastStmt, MoreStmts, IsDeclBlock, BracedDecls, IsDecls, EndDecls, GapDecls, ItemDecls, IsDecl, SigDecl, FixDecl, ClauseDecl, IsClause, SidesClause}

-- such a sign is plain
abbrev pub Plain : Sign → Type 0
Plain k = is_plain k ≡ true

minus_inner : (p : Sign → List Token → Bool) (d : ℕ) {a b : List Token} {m : Bool} → IsMinus a b m → cut p a (suc d) ≡ cut p b (suc d)
minus_inner p d NoMinus = refl
minus_inner p d (AMinus {a = a} {t = t} e) = inner p t a Minus e refl d

gap_inner : (p : Sign → List Token → Bool) (d : ℕ) {a b : List Token} → IsGap a b → cut p a (suc d) ≡ cut p b (suc d)
gap_inner p d NoGap = refl
gap_inner p d (AGap {a = a} {t = t} e) = inner p t a Semicolon e refl d

gaps_inner : (p : Sign → List Token → Bool) (d : ℕ) {a b : List Token} → IsGaps a b → cut p a (suc d) ≡ cut p b (suc d)
gaps_inner p d NoGaps = refl
gaps_inner p d (MoreGaps {a = a} {t = t} e x) = inner p t a Semicolon e refl d ∙ gaps_inner p d x

literal_plain : (k : Sign) → is_literal k ≡ true → is_plain k ≡ true
literal_plain Number e = refl
literal_plain Quoted e = refl
literal_plain _ e = absurd (let x : ⊥ = cc in x)

mutual
  pub exp_inner : (p : Sign → List Token → Bool) (d : ℕ) {a b : List Token} {e : ExprTree} → IsExp a b e → cut p a (suc d) ≡ cut p b (suc d)
  exp_inner p d (PlainExp x) = chain_inner p d x
  exp_inner p d (TypedExp {b = b} {t = t} x e y) = chain_inner p d x ∙ inner p t b Typed e refl d ∙ qualified_inner p y d

  pub chain_inner : (p : Sign → List Token → Bool) (d : ℕ) {o : Bool} {a b : List Token} {k : ChainTree} → IsChain o a b k → cut p a (suc d) ≡ cut p b (suc d)
  chain_inner p d (LinkedChain x) = links_inner p d x

  links_inner : (p : Sign → List Token → Bool) (d : ℕ) {o : Bool} {a b : List Token} {ls : List LinkTree} {x : LastTree} → IsLinks o a b ls x → cut p a (suc d) ≡ cut p b (suc d)
  links_inner p d (LastClosed s x) = minus_inner p d s ∙ closed_inner p d x
  links_inner p d (LastOpen s x) = minus_inner p d s ∙ open_inner p d x
  links_inner p d (MoreLinks s x q y) = minus_inner p d s ∙ closed_inner p d x ∙ qop_inner p q d ∙ links_inner p d y

  open_inner : (p : Sign → List Token → Bool) (d : ℕ) {a b : List Token} {x : OpenTree} → IsOpen a b x → cut p a (suc d) ≡ cut p b (suc d)
  open_inner p d (LambdaOpen {a = a} {b = b} {t = t} {w = w} e x f y) =
      inner p t a Lambda e refl d ∙ apats_inner p x d ∙ inner p w b Arrow f refl d ∙ exp_inner p d y
  open_inner p d (LetOpen {a = a} {b = b} {t = t} {w = w} e x f y) = inner p t a Let e refl d ∙ decl_block_cut p (suc d) x ∙ inner p w b In f refl d ∙ exp_inner p d y
  open_inner p d (IfOpen {a = a} {c = c} {e = e} {t = t} {v = v} {w = w} s x g h y i j z) =
      inner p t a If s refl d ∙ exp_inner p d x ∙ gap_inner p d g ∙ inner p v c Then h refl d ∙ exp_inner p d y ∙ gap_inner p d i ∙ inner p w e Else j refl d ∙ exp_inner p d z

  closed_inner : (p : Sign → List Token → Bool) (d : ℕ) {a b : List Token} {x : ClosedTree} → IsClosed a b x → cut p a (suc d) ≡ cut p b (suc d)
  closed_inner p d (CaseClosed {a = a} {b = b} {t = t} {w = w} e x f y) = inner p t a Case e refl d ∙ exp_inner p d x ∙ inner p w b Of f refl d ∙ alt_block_cut p (suc d) y
  closed_inner p d (DoClosed {a = a} {t = t} e x) = inner p t a Do e refl d ∙ stmt_block_cut p (suc d) x
  closed_inner p d (ApplyClosed x y) = aexp_inner p d x ∙ aexps_inner p d y

  aexps_inner : (p : Sign → List Token → Bool) (d : ℕ) {a b : List Token} {xs : List AexpTree} → IsAexps a b xs → cut p a (suc d) ≡ cut p b (suc d)
  aexps_inner p d NoAexps = refl
  aexps_inner p d (MoreAexps x y) = aexp_inner p d x ∙ aexps_inner p d y

  aexp_inner : (p : Sign → List Token → Bool) (d : ℕ) {a b : List Token} {x : AexpTree} → IsAexp a b x → cut p a (suc d) ≡ cut p b (suc d)
  aexp_inner p d (SimpleAexp x) = simple_inner p d x
  aexp_inner p d (UpdateAexp x y) = simple_inner p d x ∙ updates_cut p (suc d) y

  simple_inner : (p : Sign → List Token → Bool) (d : ℕ) {a b : List Token} {x : AexpTree} → IsSimple a b x → cut p a (suc d) ≡ cut p b (suc d)
  simple_inner p d (VarSimple x) = qvar_inner p x d
  simple_inner p d (ConSimple x) = gcon_inner p x d
  simple_inner p d (LiteralSimple {a = a} {t = t} e) = inner p t a (sign_of t) refl (literal_plain (sign_of t) e) d
  simple_inner p d (TupleSimple {a = a} {b = b} {o = o} {c = c} e x f) = opens p o a OpenParen e refl (suc d) ∙ exps_inner p (suc d) x ∙ closes p c b CloseParen f refl (suc d)
  simple_inner p d (ListSimple {a = a} {b = b} {o = o} {c = c} e x f) = opens p o a OpenSquare e refl (suc d) ∙ exps_inner p (suc d) x ∙ closes p c b CloseSquare f refl (suc d)
  simple_inner p d (RangeSimple {a = a} {d = u} {e = v} {o = o} {w = w} {c = c} i x y f z g) =
      opens p o a OpenSquare i refl (suc d) ∙ exp_inner p (suc d) x ∙ next_inner p (suc d) y ∙ inner p w u Dots f refl (suc d) ∙ limit_inner p (suc d) z ∙ closes p c v CloseSquare g refl (suc d)
  simple_inner p d (ComprehensionSimple {a = a} {b = b} {d = u} {o = o} {m = m} {c = c} e x f y g) =
      opens p o a OpenSquare e refl (suc d) ∙ exp_inner p (suc d) x ∙ inner p m b Bar f refl (suc d) ∙ quals_inner p (suc d) y ∙ closes p c u CloseSquare g refl (suc d)
  simple_inner p d (LeftSimple {a = a} {d = u} {o = o} {c = c} e x q f) = opens p o a OpenParen e refl (suc d) ∙ chain_inner p (suc d) x ∙ qop_inner p q (suc d) ∙ closes p c u CloseParen f refl (suc d)
  simple_inner p d (RightSimple {a = a} {d = u} {o = o} {m = m} {c = c} e g q x f) = opens p o (m ∷ a) OpenParen e refl (suc d) ∙ qop_inner p q (suc d) ∙ chain_inner p (suc d) x ∙ closes p c u CloseParen f refl (suc d)
  simple_inner p d (RecordSimple {b = b} {o = o} {c = c} x e f) = qcon_inner p x d ∙ opens p o (c ∷ b) (OpenBrace false) e refl (suc d) ∙ closes p c b (CloseBrace false) f refl (suc d)

  pub exps_inner : (p : Sign → List Token → Bool) (d : ℕ) {a b : List Token} {es : List ExprTree} → IsExps a b es → cut p a (suc d) ≡ cut p b (suc d)
  exps_inner p d (LastExp x) = exp_inner p d x
  exps_inner p d (MoreExps {b = b} {m = m} x e y) = exp_inner p d x ∙ inner p m b Comma e refl d ∙ exps_inner p d y

  pub next_inner : (p : Sign → List Token → Bool) (d : ℕ) {a b : List Token} {e : Option ExprTree} → IsNext a b e → cut p a (suc d) ≡ cut p b (suc d)
  next_inner p d NoNext = refl
  next_inner p d (ANext {a = a} {m = m} e x) = inner p m a Comma e refl d ∙ exp_inner p d x

  pub limit_inner : (p : Sign → List Token → Bool) (d : ℕ) {a b : List Token} {e : Option ExprTree} → IsLimit a b e → cut p a (suc d) ≡ cut p b (suc d)
  limit_inner p d NoLimit = refl
  limit_inner p d (ALimit x) = exp_inner p d x

  pub updates_cut : (p : Sign → List Token → Bool) (d : ℕ) {a b : List Token} {us : List UpdateTree} → IsUpdates a b us → cut p a d ≡ cut p b d
  updates_cut p d NoUpdates = refl
  updates_cut p d (MoreUpdates {a = a} {b = b} {o = o} {c = c} e x f y) = opens p o a (OpenBrace false) e refl d ∙ fbinds_inner p d x ∙ closes p c b (CloseBrace false) f refl d ∙ updates_cut p d y

  fbinds_inner : (p : Sign → List Token → Bool) (d : ℕ) {a b : List Token} {fs : List FbindTree} → IsFbinds a b fs → cut p a (suc d) ≡ cut p b (suc d)
  fbinds_inner p d (LastFbind x) = fbind_inner p d x
  fbinds_inner p d (MoreFbinds {b = b} {m = m} x e y) = fbind_inner p d x ∙ inner p m b Comma e refl d ∙ fbinds_inner p d y

  fbind_inner : (p : Sign → List Token → Bool) (d : ℕ) {a b : List Token} {f : FbindTree} → IsFbind a b f → cut p a (suc d) ≡ cut p b (suc d)
  fbind_inner p d (FieldFbind {b = b} {t = t} x e y) = qvar_inner p x d ∙ inner p t b Equals e refl d ∙ exp_inner p d y

  pub quals_inner : (p : Sign → List Token → Bool) (d : ℕ) {a b : List Token} {qs : List QualTree} → IsQuals a b qs → cut p a (suc d) ≡ cut p b (suc d)
  quals_inner p d (LastQual x) = qual_inner p d x
  quals_inner p d (MoreQuals {b = b} {m = m} x e y) = qual_inner p d x ∙ inner p m b Comma e refl d ∙ quals_inner p d y

  qual_inner : (p : Sign → List Token → Bool) (d : ℕ) {a b : List Token} {q : QualTree} → IsQual a b q → cut p a (suc d) ≡ cut p b (suc d)
  qual_inner p d (BindQual {b = b} {w = w} x e y) = pattern_inner p x d ∙ inner p w b Back e refl d ∙ exp_inner p d y
  qual_inner p d (LetQual {a = a} {t = t} e x) = inner p t a Let e refl d ∙ decl_block_cut p (suc d) x
  qual_inner p d (TestQual x) = exp_inner p d x

  guards_inner : (p : Sign → List Token → Bool) (d : ℕ) {a b : List Token} {gs : List GuardTree} → IsGuards a b gs → cut p a (suc d) ≡ cut p b (suc d)
  guards_inner p d (LastGuard x) = guard_inner p d x
  guards_inner p d (MoreGuards {b = b} {m = m} x e y) = guard_inner p d x ∙ inner p m b Comma e refl d ∙ guards_inner p d y

  guard_inner : (p : Sign → List Token → Bool) (d : ℕ) {a b : List Token} {g : GuardTree} → IsGuard a b g → cut p a (suc d) ≡ cut p b (suc d)
  guard_inner p d (BindGuard {b = b} {w = w} x e y) = pattern_inner p x d ∙ inner p w b Back e refl d ∙ chain_inner p d y
  guard_inner p d (LetGuard {a = a} {t = t} e x) = inner p t a Let e refl d ∙ decl_block_cut p (suc d) x
  guard_inner p d (TestGuard x) = chain_inner p d x

  arms_inner : (p : Sign → List Token → Bool) (d : ℕ) {s : Sign} → Plain s → {a b : List Token} {xs : List ArmTree} → IsArms s a b xs → cut p a (suc d) ≡ cut p b (suc d)
  arms_inner p d n (LastArm x) = arm_inner p d n x
  arms_inner p d n (MoreArms x y) = arm_inner p d n x ∙ arms_inner p d n y

  arm_inner : (p : Sign → List Token → Bool) (d : ℕ) {s : Sign} → Plain s → {a b : List Token} {x : ArmTree} → IsArm s a b x → cut p a (suc d) ≡ cut p b (suc d)
  arm_inner p d n (GuardedArm {s = s} {a = a} {b = b} {t = t} {w = w} e x f y) = inner p t a Bar e refl d ∙ guards_inner p d x ∙ inner p w b s f n d ∙ exp_inner p d y

  where_inner : (p : Sign → List Token → Bool) (d : ℕ) {a b : List Token} {w : Option (List DeclTree)} → IsWhere a b w → cut p a (suc d) ≡ cut p b (suc d)
  where_inner p d NoWhere = refl
  where_inner p d (AWhere {a = a} {t = t} e x) = inner p t a Where e refl d ∙ decl_block_cut p (suc d) x

  rhs_inner : (p : Sign → List Token → Bool) (d : ℕ) {a b : List Token} {r : RhsTree} → IsRhs a b r → cut p a (suc d) ≡ cut p b (suc d)
  rhs_inner p d (PlainRhs {a = a} {t = t} e x y) = inner p t a Equals e refl d ∙ exp_inner p d x ∙ where_inner p d y
  rhs_inner p d (GuardedRhs x y) = arms_inner p d refl x ∙ where_inner p d y

  alt_inner : (p : Sign → List Token → Bool) (d : ℕ) {a b : List Token} {x : AltTree} → IsAlt a b x → cut p a (suc d) ≡ cut p b (suc d)
  alt_inner p d (PlainAlt {b = b} {t = t} x e y z) = pattern_inner p x d ∙ inner p t b Arrow e refl d ∙ exp_inner p d y ∙ where_inner p d z
  alt_inner p d (GuardedAlt x y z) = pattern_inner p x d ∙ arms_inner p d refl y ∙ where_inner p d z

  pub alt_block_cut : (p : Sign → List Token → Bool) (d : ℕ) {a b : List Token} {xs : List AltTree} → IsAltBlock a b xs → cut p a d ≡ cut p b d
  alt_block_cut p d (BracedAlts {put = put} {a = a} {t = t} e x) = opens p t a (OpenBrace put) e refl d ∙ alts_cut p d x

  alts_cut : (p : Sign → List Token → Bool) (d : ℕ) {put : Bool} {a b : List Token} {xs : List AltTree} → IsAlts put a b xs → cut p a (suc d) ≡ cut p b d
  alts_cut p d (EndAlts {put = put} {a = a} {t = t} e) = closes p t a (CloseBrace put) e refl d
  alts_cut p d (GapAlts {a = a} {t = t} e x) = inner p t a Semicolon e refl d ∙ alts_cut p d x
  alts_cut p d (ItemAlts x e y) = alt_inner p d x ∙ alts_cut p d y

  stmt_inner : (p : Sign → List Token → Bool) (d : ℕ) {a b : List Token} {s : StmtTree} → IsStmt a b s → cut p a (suc d) ≡ cut p b (suc d)
  stmt_inner p d (ExpStmt x) = exp_inner p d x
  stmt_inner p d (BindStmt {b = b} {w = w} x e y) = pattern_inner p x d ∙ inner p w b Back e refl d ∙ exp_inner p d y
  stmt_inner p d (LetStmt {a = a} {t = t} e x) = inner p t a Let e refl d ∙ decl_block_cut p (suc d) x

  pub stmt_block_cut : (p : Sign → List Token → Bool) (d : ℕ) {a b : List Token} {ss : List StmtTree} → IsStmtBlock a b ss → cut p a d ≡ cut p b d
  stmt_block_cut p d (BracedStmts {put = put} {a = a} {t = t} e x) = opens p t a (OpenBrace put) e refl d ∙ stmts_cut p d x

  stmts_cut : (p : Sign → List Token → Bool) (d : ℕ) {put : Bool} {a b : List Token} {ss : List StmtTree} → IsStmts put a b ss → cut p a (suc d) ≡ cut p b d
  stmts_cut p d (GapStmts {a = a} {t = t} e x) = inner p t a Semicolon e refl d ∙ stmts_cut p d x
  stmts_cut p d (LastStmt {put = put} {c = c} {t = t} x g e) = exp_inner p d x ∙ gaps_inner p d g ∙ closes p t c (CloseBrace put) e refl d
  stmts_cut p d (MoreStmts {b = b} {t = t} x e y) = stmt_inner p d x ∙ inner p t b Semicolon e refl d ∙ stmts_cut p d y

  pub decl_block_cut : (p : Sign → List Token → Bool) (d : ℕ) {a b : List Token} {ds : List DeclTree} → IsDeclBlock a b ds → cut p a d ≡ cut p b d
  decl_block_cut p d (BracedDecls {put = put} {a = a} {t = t} e x) = opens p t a (OpenBrace put) e refl d ∙ decls_cut p d x

  decls_cut : (p : Sign → List Token → Bool) (d : ℕ) {put : Bool} {a b : List Token} {ds : List DeclTree} → IsDecls put a b ds → cut p a (suc d) ≡ cut p b d
  decls_cut p d (EndDecls {put = put} {a = a} {t = t} e) = closes p t a (CloseBrace put) e refl d
  decls_cut p d (GapDecls {a = a} {t = t} e x) = inner p t a Semicolon e refl d ∙ decls_cut p d x
  decls_cut p d (ItemDecls x e y) = decl_inner p d x ∙ decls_cut p d y

  decl_inner : (p : Sign → List Token → Bool) (d : ℕ) {a b : List Token} {x : DeclTree} → IsDecl a b x → cut p a (suc d) ≡ cut p b (suc d)
  decl_inner p d (SigDecl x) = sig_inner p x d
  decl_inner p d (FixDecl x) = fix_inner p x d
  decl_inner p d (ClauseDecl x) = clause_inner p d x

  clause_inner : (p : Sign → List Token → Bool) (d : ℕ) {a b : List Token} {x : Clause} → IsClause a b x → cut p a (suc d) ≡ cut p b (suc d)
  clause_inner p d (SidesClause x y) = lhs_inner p x d ∙ rhs_inner p d y
