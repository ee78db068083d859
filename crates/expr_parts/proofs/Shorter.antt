-- Each derivation takes tokens.
use Rattle.std.proofs.Common.{◌<◌, ◌≤◌, Bool, List, ◌∷◌, length, arith}
use Rattle.std.specs.declared.option.Option.{Option}
use Rattle.hs_syntax.specs.declared.token.Token.{Token}
use Rattle.hs_syntax.specs.declared.sign.Sign.{Sign}
use Rattle.hs_syntax.specs.declared.expr_tree.ExprTree.{ExprTree}
use Rattle.hs_syntax.specs.declared.expr_tree.LinkTree.{LinkTree}
use Rattle.hs_syntax.specs.declared.expr_tree.ChainTree.{ChainTree}
use Rattle.hs_syntax.specs.declared.expr_tree.LastTree.{LastTree}
use Rattle.hs_syntax.specs.declared.expr_tree.OpenTree.{OpenTree}
use Rattle.hs_syntax.specs.declared.expr_tree.ClosedTree.{ClosedTree}
use Rattle.hs_syntax.specs.declared.expr_tree.AltTree.{AltTree}
use Rattle.hs_syntax.specs.declared.expr_tree.ArmTree.{ArmTree}
use Rattle.hs_syntax.specs.declared.expr_tree.GuardTree.{GuardTree}
use Rattle.hs_syntax.specs.declared.expr_tree.QualTree.{QualTree}
use Rattle.hs_syntax.specs.declared.expr_tree.StmtTree.{StmtTree}
use Rattle.hs_syntax.specs.declared.expr_tree.AexpTree.{AexpTree}
use Rattle.hs_syntax.specs.declared.expr_tree.UpdateTree.{UpdateTree}
use Rattle.hs_syntax.specs.declared.expr_tree.FbindTree.{FbindTree}
use Rattle.hs_syntax.specs.declared.expr_tree.DeclTree.{DeclTree}
use Rattle.hs_syntax.specs.declared.expr_tree.Clause.{Clause}
use Rattle.hs_syntax.specs.declared.expr_tree.RhsTree.{RhsTree}
use Rattle.expr_parts.specs.Grammar.{IsMinus, NoMinus, AMinus, IsGap, NoGap, AGap, IsGaps, NoGaps, MoreGaps, IsExp, PlainExp, TypedExp, IsChain, LinkedChain, IsLinks, LastClosed, LastOpen, MoreLinks, IsOpen, LambdaOpen, LetOpen, IfOpen, IsClosed, CaseClosed, DoClosed, ApplyClosed, IsAexps, NoAexps, MoreAexps, IsAexp, SimpleAexp, UpdateAexp, IsSimple, VarSimple, ConSimple, LiteralSimple, TupleSimple, ListSimple, RangeSimple, ComprehensionSimple, LeftSimple, RightSimple, RecordSimple, IsExps, LastExp, MoreExps, IsNext, NoNext, ANext, IsLimit, NoLimit, ALimit, IsUpdates, NoUpdates, MoreUpdates, IsFbinds, LastFbind, MoreFbinds, IsFbind, FieldFbind, IsQuals, LastQual, MoreQuals, IsQual, BindQual, LetQual, TestQual, IsGuards, LastGuard, MoreGuards, IsGuard, BindGuard, LetGuard, TestGuard, IsArms, LastArm, MoreArms, IsArm, GuardedArm, IsWhere, NoWhere, AWhere, IsRhs, PlainRhs, GuardedRhs, IsAlt, PlainAlt, GuardedAlt, IsAltBlock, BracedAlts, IsAlts, EndAlts, GapAlts, ItemAlts, IsStmt, ExpStmt, BindStmt, LetStmt, IsStmtBlock, BracedStmts, IsStmts, GapStmts, LastStmt, MoreStmts, IsDeclBlock, BracedDecls, IsDecls, EndDecls, GapDecls, ItemDecls, IsDecl, SigDecl, FixDecl, ClauseDecl, IsClause, SidesClause}
use Rattle.hs_parts.proofs.NamesComplete.{qvar_shorter, qcon_shorter, gcon_shorter, qop_shorter}
use Rattle.hs_parts.proofs.PatternsComplete.{pattern_shorter, apats_shorter}
use Rattle.hs_parts.proofs.SidesComplete.{lhs_shorter}
use Rattle.hs_parts.proofs.SigsComplete.{sig_shorter, fix_shorter}
use Rattle.hs_parts.proofs.ContextsComplete.{qualified_shorter}

pub minus_shorter : {a b : List Token} {m : Bool} → IsMinus a b m → length b ≤ length a
minus_shorter NoMinus = omega arith
minus_shorter (AMinus e) = omega arith

pub gap_shorter : {a b : List Token} → IsGap a b → length b ≤ length a
gap_shorter NoGap = omega arith
gap_shorter (AGap e) = omega arith

pub gaps_shorter : {a b : List Token} → IsGaps a b → length b ≤ length a
gaps_shorter NoGaps = omega arith
gaps_shorter (MoreGaps {a = a} {b = b} e x) = let h : length b ≤ length a = gaps_shorter x in omega arith

mutual
  pub exp_shorter : {a b : List Token} {e : ExprTree} → IsExp a b e → length b < length a
  exp_shorter (PlainExp x) = chain_shorter x
  exp_shorter (TypedExp {a = a} {b = b} {c = c} {t = t} x e y) = let h : length (t ∷ b) < length a = chain_shorter x in let k : length c < length b = qualified_shorter y in omega arith

  pub chain_shorter : {o : Bool} {a b : List Token} {k : ChainTree} → IsChain o a b k → length b < length a
  chain_shorter (LinkedChain x) = links_shorter x

  pub links_shorter : {o : Bool} {a b : List Token} {ls : List LinkTree} {x : LastTree} → IsLinks o a b ls x → length b < length a
  links_shorter (LastClosed {a = a} {b = b} {c = c} s x) = let h : length b ≤ length a = minus_shorter s in let k : length c < length b = closed_shorter x in omega arith
  links_shorter (LastOpen {a = a} {b = b} {c = c} s x) = let h : length b ≤ length a = minus_shorter s in let k : length c < length b = open_shorter x in omega arith
  links_shorter (MoreLinks {a = a} {b = b} {c = c} {d = d} {e = e} s x q y) =
      let h : length b ≤ length a = minus_shorter s in let k : length c < length b = closed_shorter x in let l : length d < length c = qop_shorter q in let m : length e < length d = links_shorter y in omega arith

  pub open_shorter : {a b : List Token} {x : OpenTree} → IsOpen a b x → length b < length a
  open_shorter (LambdaOpen {a = a} {b = b} {c = c} {w = w} e x f y) = let h : length (w ∷ b) ≤ length a = apats_shorter x in let k : length c < length b = exp_shorter y in omega arith
  open_shorter (LetOpen {a = a} {b = b} {c = c} {w = w} e x f y) = let h : length (w ∷ b) < length a = decl_block_shorter x in let k : length c < length b = exp_shorter y in omega arith
  open_shorter (IfOpen {a = a} {b = b} {c = c} {d = d} {e = e} {f = f} {v = v} {w = w} s x g t y h u z) =
      let i : length b < length a = exp_shorter x in let j : length (v ∷ c) ≤ length b = gap_shorter g in let k : length d < length c = exp_shorter y in
      let l : length (w ∷ e) ≤ length d = gap_shorter h in let m : length f < length e = exp_shorter z in omega arith

  pub closed_shorter : {a b : List Token} {x : ClosedTree} → IsClosed a b x → length b < length a
  closed_shorter (CaseClosed {a = a} {b = b} {c = c} {w = w} e x f y) = let h : length (w ∷ b) < length a = exp_shorter x in let k : length c < length b = alt_block_shorter y in omega arith
  closed_shorter (DoClosed {a = a} {b = b} e x) = let h : length b < length a = stmt_block_shorter x in omega arith
  closed_shorter (ApplyClosed {a = a} {b = b} {c = c} x y) = let h : length b < length a = aexp_shorter x in let k : length c ≤ length b = aexps_shorter y in omega arith

  pub aexps_shorter : {a b : List Token} {xs : List AexpTree} → IsAexps a b xs → length b ≤ length a
  aexps_shorter NoAexps = omega arith
  aexps_shorter (MoreAexps {a = a} {b = b} {c = c} x y) = let h : length b < length a = aexp_shorter x in let k : length c ≤ length b = aexps_shorter y in omega arith

  pub aexp_shorter : {a b : List Token} {x : AexpTree} → IsAexp a b x → length b < length a
  aexp_shorter (SimpleAexp x) = simple_shorter x
  aexp_shorter (UpdateAexp {a = a} {b = b} {c = c} x y) = let h : length b < length a = simple_shorter x in let k : length c ≤ length b = updates_shorter y in omega arith

  pub simple_shorter : {a b : List Token} {x : AexpTree} → IsSimple a b x → length b < length a
  simple_shorter (VarSimple x) = qvar_shorter x
  simple_shorter (ConSimple x) = gcon_shorter x
  simple_shorter (LiteralSimple e) = omega arith
  simple_shorter (TupleSimple {a = a} {b = b} {c = c} e x f) = let h : length (c ∷ b) < length a = exps_shorter x in omega arith
  simple_shorter (ListSimple {a = a} {b = b} {c = c} e x f) = let h : length (c ∷ b) < length a = exps_shorter x in omega arith
  simple_shorter (RangeSimple {a = a} {b = b} {d = d} {e = e} {w = w} {c = c} i x y f z g) =
      let h : length b < length a = exp_shorter x in let k : length (w ∷ d) ≤ length b = next_shorter y in let l : length (c ∷ e) ≤ length d = limit_shorter z in omega arith
  simple_shorter (ComprehensionSimple {a = a} {b = b} {d = d} {m = m} {c = c} e x f y g) =
      let h : length (m ∷ b) < length a = exp_shorter x in let k : length (c ∷ d) < length b = quals_shorter y in omega arith
  simple_shorter (LeftSimple {a = a} {b = b} {d = d} {c = c} e x q f) = let h : length b < length a = chain_shorter x in let k : length (c ∷ d) < length b = qop_shorter q in omega arith
  simple_shorter (RightSimple {a = a} {b = b} {d = d} {m = m} {c = c} e g q x f) =
      let h : length b < length (m ∷ a) = qop_shorter q in let k : length (c ∷ d) < length b = chain_shorter x in omega arith
  simple_shorter (RecordSimple {a = a} {b = b} {o = o} {c = c} x e f) = let h : length (o ∷ c ∷ b) < length a = qcon_shorter x in omega arith

  pub exps_shorter : {a b : List Token} {es : List ExprTree} → IsExps a b es → length b < length a
  exps_shorter (LastExp x) = exp_shorter x
  exps_shorter (MoreExps {a = a} {b = b} {c = c} {m = m} x e y) = let h : length (m ∷ b) < length a = exp_shorter x in let k : length c < length b = exps_shorter y in omega arith

  pub next_shorter : {a b : List Token} {e : Option ExprTree} → IsNext a b e → length b ≤ length a
  next_shorter NoNext = omega arith
  next_shorter (ANext {a = a} {b = b} e x) = let h : length b < length a = exp_shorter x in omega arith

  pub limit_shorter : {a b : List Token} {e : Option ExprTree} → IsLimit a b e → length b ≤ length a
  limit_shorter NoLimit = omega arith
  limit_shorter (ALimit {a = a} {b = b} x) = let h : length b < length a = exp_shorter x in omega arith

  pub updates_shorter : {a b : List Token} {us : List UpdateTree} → IsUpdates a b us → length b ≤ length a
  updates_shorter NoUpdates = omega arith
  updates_shorter (MoreUpdates {a = a} {b = b} {d = d} {c = c} e x f y) = let h : length (c ∷ b) < length a = fbinds_shorter x in let k : length d ≤ length b = updates_shorter y in omega arith

  pub fbinds_shorter : {a b : List Token} {fs : List FbindTree} → IsFbinds a b fs → length b < length a
  fbinds_shorter (LastFbind x) = fbind_shorter x
  fbinds_shorter (MoreFbinds {a = a} {b = b} {c = c} {m = m} x e y) = let h : length (m ∷ b) < length a = fbind_shorter x in let k : length c < length b = fbinds_shorter y in omega arith

  pub fbind_shorter : {a b : List Token} {f : FbindTree} → IsFbind a b f → length b < length a
  fbind_shorter (FieldFbind {a = a} {b = b} {c = c} {t = t} x e y) = let h : length (t ∷ b) < length a = qvar_shorter x in let k : length c < length b = exp_shorter y in omega arith

  pub quals_shorter : {a b : List Token} {qs : List QualTree} → IsQuals a b qs → length b < length a
  quals_shorter (LastQual x) = qual_shorter x
  quals_shorter (MoreQuals {a = a} {b = b} {c = c} {m = m} x e y) = let h : length (m ∷ b) < length a = qual_shorter x in let k : length c < length b = quals_shorter y in omega arith

  pub qual_shorter : {a b : List Token} {q : QualTree} → IsQual a b q → length b < length a
  qual_shorter (BindQual {a = a} {b = b} {c = c} {w = w} x e y) = let h : length (w ∷ b) < length a = pattern_shorter x in let k : length c < length b = exp_shorter y in omega arith
  qual_shorter (LetQual {a = a} {b = b} e x) = let h : length b < length a = decl_block_shorter x in omega arith
  qual_shorter (TestQual x) = exp_shorter x

  pub guards_shorter : {a b : List Token} {gs : List GuardTree} → IsGuards a b gs → length b < length a
  guards_shorter (LastGuard x) = guard_shorter x
  guards_shorter (MoreGuards {a = a} {b = b} {c = c} {m = m} x e y) = let h : length (m ∷ b) < length a = guard_shorter x in let k : length c < length b = guards_shorter y in omega arith

  pub guard_shorter : {a b : List Token} {g : GuardTree} → IsGuard a b g → length b < length a
  guard_shorter (BindGuard {a = a} {b = b} {c = c} {w = w} x e y) = let h : length (w ∷ b) < length a = pattern_shorter x in let k : length c < length b = chain_shorter y in omega arith
  guard_shorter (LetGuard {a = a} {b = b} e x) = let h : length b < length a = decl_block_shorter x in omega arith
  guard_shorter (TestGuard x) = chain_shorter x

  pub arms_shorter : {s : Sign} {a b : List Token} {xs : List ArmTree} → IsArms s a b xs → length b < length a
  arms_shorter (LastArm x) = arm_shorter x
  arms_shorter (MoreArms {a = a} {b = b} {c = c} x y) = let h : length b < length a = arm_shorter x in let k : length c < length b = arms_shorter y in omega arith

  pub arm_shorter : {s : Sign} {a b : List Token} {x : ArmTree} → IsArm s a b x → length b < length a
  arm_shorter (GuardedArm {a = a} {b = b} {c = c} {w = w} e x f y) = let h : length (w ∷ b) < length a = guards_shorter x in let k : length c < length b = exp_shorter y in omega arith

  pub where_shorter : {a b : List Token} {w : Option (List DeclTree)} → IsWhere a b w → length b ≤ length a
  where_shorter NoWhere = omega arith
  where_shorter (AWhere {a = a} {b = b} e x) = let h : length b < length a = decl_block_shorter x in omega arith

  pub rhs_shorter : {a b : List Token} {r : RhsTree} → IsRhs a b r → length b < length a
  rhs_shorter (PlainRhs {a = a} {b = b} {c = c} e x y) = let h : length b < length a = exp_shorter x in let k : length c ≤ length b = where_shorter y in omega arith
  rhs_shorter (GuardedRhs {a = a} {b = b} {c = c} x y) = let h : length b < length a = arms_shorter x in let k : length c ≤ length b = where_shorter y in omega arith

  pub alt_shorter : {a b : List Token} {x : AltTree} → IsAlt a b x → length b < length a
  alt_shorter (PlainAlt {a = a} {b = b} {c = c} {d = d} {t = t} x e y z) =
      let h : length (t ∷ b) < length a = pattern_shorter x in let k : length c < length b = exp_shorter y in let l : length d ≤ length c = where_shorter z in omega arith
  alt_shorter (GuardedAlt {a = a} {b = b} {c = c} {d = d} x y z) =
      let h : length b < length a = pattern_shorter x in let k : length c < length b = arms_shorter y in let l : length d ≤ length c = where_shorter z in omega arith

  pub alt_block_shorter : {a b : List Token} {xs : List AltTree} → IsAltBlock a b xs → length b < length a
  alt_block_shorter (BracedAlts {a = a} {b = b} e x) = let h : length b < length a = alts_shorter x in omega arith

  pub alts_shorter : {put : Bool} {a b : List Token} {xs : List AltTree} → IsAlts put a b xs → length b < length a
  alts_shorter (EndAlts e) = omega arith
  alts_shorter (GapAlts {a = a} {b = b} e x) = let h : length b < length a = alts_shorter x in omega arith
  alts_shorter (ItemAlts {a = a} {b = b} {c = c} {t = t} x e y) = let h : length (t ∷ b) < length a = alt_shorter x in let k : length c < length (t ∷ b) = alts_shorter y in omega arith

  pub stmt_shorter : {a b : List Token} {s : StmtTree} → IsStmt a b s → length b < length a
  stmt_shorter (ExpStmt x) = exp_shorter x
  stmt_shorter (BindStmt {a = a} {b = b} {c = c} {w = w} x e y) = let h : length (w ∷ b) < length a = pattern_shorter x in let k : length c < length b = exp_shorter y in omega arith
  stmt_shorter (LetStmt {a = a} {b = b} e x) = let h : length b < length a = decl_block_shorter x in omega arith

  pub stmt_block_shorter : {a b : List Token} {ss : List StmtTree} → IsStmtBlock a b ss → length b < length a
  stmt_block_shorter (BracedStmts {a = a} {b = b} e x) = let h : length b < length a = stmts_shorter x in omega arith

  pub stmts_shorter : {put : Bool} {a b : List Token} {ss : List StmtTree} → IsStmts put a b ss → length b < length a
  stmts_shorter (GapStmts {a = a} {b = b} e x) = let h : length b < length a = stmts_shorter x in omega arith
  stmts_shorter (LastStmt {a = a} {b = b} {c = c} {t = t} x g e) = let h : length b < length a = exp_shorter x in let k : length (t ∷ c) ≤ length b = gaps_shorter g in omega arith
  stmts_shorter (MoreStmts {a = a} {b = b} {c = c} {t = t} x e y) = let h : length (t ∷ b) < length a = stmt_shorter x in let k : length c < length b = stmts_shorter y in omega arith

  pub decl_block_shorter : {a b : List Token} {ds : List DeclTree} → IsDeclBlock a b ds → length b < length a
  decl_block_shorter (BracedDecls {a = a} {b = b} e x) = let h : length b < length a = decls_shorter x in omega arith

  pub decls_shorter : {put : Bool} {a b : List Token} {ds : List DeclTree} → IsDecls put a b ds → length b < length a
  decls_shorter (EndDecls e) = omega arith
  decls_shorter (GapDecls {a = a} {b = b} e x) = let h : length b < length a = decls_shorter x in omega arith
  decls_shorter (ItemDecls {a = a} {b = b} {c = c} {t = t} x e y) = let h : length (t ∷ b) < length a = decl_shorter x in let k : length c < length (t ∷ b) = decls_shorter y in omega arith

  pub decl_shorter : {a b : List Token} {x : DeclTree} → IsDecl a b x → length b < length a
  decl_shorter (SigDecl x) = sig_shorter x
  decl_shorter (FixDecl x) = fix_shorter x
  decl_shorter (ClauseDecl x) = clause_shorter x

  pub clause_shorter : {a b : List Token} {x : Clause} → IsClause a b x → length b < length a
  clause_shorter (SidesClause {a = a} {b = b} {c = c} x y) = let h : length b < length a = lhs_shorter x in let k : length c < length b = rhs_shorter y in omega arith
