-- The grammar of expressions, and of the declarations in them (Haskell 2010 Report, sections 3 and 4.4): by a tree one text
-- leads to another where the tokens between them are the tree's.
use Rattle.std.specs.Prelude.{◌≡◌, ◌⊎◌, Bool, true, false, List, [], ◌∷◌, Some, None}
use Rattle.std.specs.declared.option.Option.{Option}
use Rattle.hs_syntax.specs.declared.token.Token.{Token}
use Rattle.hs_syntax.specs.declared.sign.Sign.{Sign}
use Rattle.hs_syntax.specs.declared.sign.Sign.TheVariants.{Minus, OpenBrace, CloseBrace, Semicolon, OpenParen, CloseParen, OpenSquare, CloseSquare, Comma, Case, Do, Else, If, In, Let, Of, Then, Where, Dots, Typed, Equals, Lambda, Bar, Back, Arrow}
use Rattle.hs_syntax.specs.declared.name_ref.NameRef.{NameRef}
use Rattle.hs_syntax.specs.declared.name_ref.QopTree.{QopTree}
use Rattle.hs_syntax.specs.declared.type_tree.QualifiedType.{QualifiedType}
use Rattle.hs_syntax.specs.declared.pattern_tree.GconTree.{GconTree}
use Rattle.hs_syntax.specs.declared.pattern_tree.PatTree.{PatTree}
use Rattle.hs_syntax.specs.declared.pattern_tree.ApatTree.{ApatTree}
use Rattle.hs_syntax.specs.declared.pattern_tree.LhsTree.{LhsTree}
use Rattle.hs_syntax.specs.declared.expr_tree.SigTree.{SigTree}
use Rattle.hs_syntax.specs.declared.expr_tree.FixTree.{FixTree}
use Rattle.hs_syntax.specs.declared.expr_tree.ExprTree.{ExprTree}
use Rattle.hs_syntax.specs.declared.expr_tree.LinkTree.{LinkTree}
use Rattle.hs_syntax.specs.declared.expr_tree.ChainTree.{ChainTree}
use Rattle.hs_syntax.specs.declared.expr_tree.LastTree.{LastTree}
use Rattle.hs_syntax.specs.declared.expr_tree.LastTree.TheVariants as last
use Rattle.hs_syntax.specs.declared.expr_tree.OpenTree.{OpenTree}
use Rattle.hs_syntax.specs.declared.expr_tree.OpenTree.TheVariants as open_
use Rattle.hs_syntax.specs.declared.expr_tree.ClosedTree.{ClosedTree}
use Rattle.hs_syntax.specs.declared.expr_tree.ClosedTree.TheVariants as closed
use Rattle.hs_syntax.specs.declared.expr_tree.AltTree.{AltTree}
use Rattle.hs_syntax.specs.declared.expr_tree.AltTree.TheVariants as alt
use Rattle.hs_syntax.specs.declared.expr_tree.ArmTree.{ArmTree}
use Rattle.hs_syntax.specs.declared.expr_tree.GuardTree.{GuardTree}
use Rattle.hs_syntax.specs.declared.expr_tree.GuardTree.TheVariants as guard
use Rattle.hs_syntax.specs.declared.expr_tree.QualTree.{QualTree}
use Rattle.hs_syntax.specs.declared.expr_tree.QualTree.TheVariants as qual
use Rattle.hs_syntax.specs.declared.expr_tree.StmtTree.{StmtTree}
use Rattle.hs_syntax.specs.declared.expr_tree.StmtTree.TheVariants as stmt
use Rattle.hs_syntax.specs.declared.expr_tree.AexpTree.{AexpTree}
use Rattle.hs_syntax.specs.declared.expr_tree.AexpTree.TheVariants as aexp
use Rattle.hs_syntax.specs.declared.expr_tree.UpdateTree.{UpdateTree}
use Rattle.hs_syntax.specs.declared.expr_tree.FbindTree.{FbindTree}
use Rattle.hs_syntax.specs.declared.expr_tree.DeclTree.{DeclTree}
use Rattle.hs_syntax.specs.declared.expr_tree.DeclTree.TheVariants as decl
use Rattle.hs_syntax.specs.declared.expr_tree.Clause.{Clause}
use Rattle.hs_syntax.specs.declared.expr_tree.RhsTree.{RhsTree}
use Rattle.hs_syntax.specs.declared.expr_tree.RhsTree.TheVariants as rhs
use Rattle.hs_syntax.specs.Signs.{sign_of}
use Rattle.hs_syntax.specs.Made.{expr_tree, chain_tree, link_tree, arm_tree, update_tree, fbind_tree, clause}
use Rattle.hs_parts.specs.Names.{place, is_literal, IsQvar, IsQcon, IsGcon, IsQop}
use Rattle.hs_parts.specs.Grammar.{IsQualified, IsPattern, IsApats, IsLhs, IsSig, IsFix}

-- [-]
pub data IsMinus : List Token → List Token → Bool → Type 0 where
  NoMinus : {a : List Token} → IsMinus a a false
  AMinus : {a : List Token} {t : Token} → sign_of t ≡ Minus → IsMinus (t ∷ a) a true

-- [;]
pub data IsGap : List Token → List Token → Type 0 where
  NoGap : {a : List Token} → IsGap a a
  AGap : {a : List Token} {t : Token} → sign_of t ≡ Semicolon → IsGap (t ∷ a) a

-- {;}
pub data IsGaps : List Token → List Token → Type 0 where
  NoGaps : {a : List Token} → IsGaps a a
  MoreGaps : {a b : List Token} {t : Token} → sign_of t ≡ Semicolon → IsGaps a b → IsGaps (t ∷ a) b

-- what ends an item of a block: a semicolon, or the closing brace of this sort
abbrev pub EndsItem : Bool → Sign → Type 0
EndsItem put k = (k ≡ Semicolon) ⊎ (k ≡ CloseBrace put)

mutual
  -- exp = chain [:: [context =>] type], no :: directly after an open operand
  pub data IsExp : List Token → List Token → ExprTree → Type 0 where
    PlainExp : {o : Bool} {a b : List Token} {k : ChainTree} → IsChain o a b k → IsExp a b (expr_tree (place a) k None)
    TypedExp : {a b c : List Token} {t : Token} {k : ChainTree} {q : QualifiedType}
        → IsChain false a (t ∷ b) k → sign_of t ≡ Typed → IsQualified b c q → IsExp a c (expr_tree (place a) k (Some q))

  -- chain = {[-] closed qop} [-] (closed | open); true where its last operand is open
  pub data IsChain : Bool → List Token → List Token → ChainTree → Type 0 where
    LinkedChain : {o : Bool} {a b : List Token} {ls : List LinkTree} {x : LastTree} → IsLinks o a b ls x → IsChain o a b (chain_tree (place a) ls x)

  -- the operands that an operator follows, and the last one
  pub data IsLinks : Bool → List Token → List Token → List LinkTree → LastTree → Type 0 where
    LastClosed : {a b c : List Token} {m : Bool} {x : ClosedTree} → IsMinus a b m → IsClosed b c x → IsLinks false a c [] (last.Closed (place a) m x)
    LastOpen : {a b c : List Token} {m : Bool} {x : OpenTree} → IsMinus a b m → IsOpen b c x → IsLinks true a c [] (last.Open (place a) m x)
    MoreLinks : {o : Bool} {a b c d e : List Token} {m : Bool} {x : ClosedTree} {q : QopTree} {ls : List LinkTree} {y : LastTree}
        → IsMinus a b m → IsClosed b c x → IsQop c d q → IsLinks o d e ls y → IsLinks o a e (link_tree (place a) m x q ∷ ls) y

  -- open = \ apat {apat} -> exp | let block(decl) in exp | if exp [;] then exp [;] else exp
  pub data IsOpen : List Token → List Token → OpenTree → Type 0 where
    LambdaOpen : {a b c : List Token} {t w : Token} {p : ApatTree} {ps : List ApatTree} {e : ExprTree}
        → sign_of t ≡ Lambda → IsApats a (w ∷ b) (p ∷ ps) → sign_of w ≡ Arrow → IsExp b c e → IsOpen (t ∷ a) c (open_.Lambda t.at (p ∷ ps) e)
    LetOpen : {a b c : List Token} {t w : Token} {ds : List DeclTree} {e : ExprTree}
        → sign_of t ≡ Let → IsDeclBlock a (w ∷ b) ds → sign_of w ≡ In → IsExp b c e → IsOpen (t ∷ a) c (open_.Let t.at ds e)
    IfOpen : {a b c d e f : List Token} {t v w : Token} {x y z : ExprTree}
        → sign_of t ≡ If → IsExp a b x → IsGap b (v ∷ c) → sign_of v ≡ Then → IsExp c d y → IsGap d (w ∷ e) → sign_of w ≡ Else → IsExp e f z
        → IsOpen (t ∷ a) f (open_.If t.at x y z)

  -- closed = case exp of block(alt) | do block(stmt) | aexp {aexp}
  pub data IsClosed : List Token → List Token → ClosedTree → Type 0 where
    CaseClosed : {a b c : List Token} {t w : Token} {e : ExprTree} {xs : List AltTree}
        → sign_of t ≡ Case → IsExp a (w ∷ b) e → sign_of w ≡ Of → IsAltBlock b c xs → IsClosed (t ∷ a) c (closed.Case t.at e xs)
    DoClosed : {a b : List Token} {t : Token} {ss : List StmtTree} → sign_of t ≡ Do → IsStmtBlock a b ss → IsClosed (t ∷ a) b (closed.Do t.at ss)
    ApplyClosed : {a b c : List Token} {x : AexpTree} {xs : List AexpTree} → IsAexp a b x → IsAexps b c xs → IsClosed a c (closed.Apply (place a) x xs)

  -- {aexp}
  pub data IsAexps : List Token → List Token → List AexpTree → Type 0 where
    NoAexps : {a : List Token} → IsAexps a a []
    MoreAexps : {a b c : List Token} {x : AexpTree} {xs : List AexpTree} → IsAexp a b x → IsAexps b c xs → IsAexps a c (x ∷ xs)

  -- aexp = simple | aexp { fbind {, fbind} }, the updates of one thing as a list
  pub data IsAexp : List Token → List Token → AexpTree → Type 0 where
    SimpleAexp : {a b : List Token} {x : AexpTree} → IsSimple a b x → IsAexp a b x
    UpdateAexp : {a b c : List Token} {x : AexpTree} {u : UpdateTree} {us : List UpdateTree} → IsSimple a b x → IsUpdates b c (u ∷ us) → IsAexp a c (aexp.Update (place a) x (u ∷ us))

  -- simple = qvar | gcon | literal | ( exp {, exp} ) | [ exp {, exp} ] | [ exp [, exp] .. [exp] ] | [ exp | qual {, qual} ]
  --     | ( chain qop ) | ( qop chain ), qop not - | qcon { }
  pub data IsSimple : List Token → List Token → AexpTree → Type 0 where
    VarSimple : {a b : List Token} {n : NameRef} → IsQvar a b n → IsSimple a b (aexp.Var (place a) n)
    ConSimple : {a b : List Token} {g : GconTree} → IsGcon a b g → IsSimple a b (aexp.Con (place a) g)
    LiteralSimple : {a : List Token} {t : Token} → is_literal (sign_of t) ≡ true → IsSimple (t ∷ a) a (aexp.Literal t.at t)
    TupleSimple : {a b : List Token} {o c : Token} {es : List ExprTree} → sign_of o ≡ OpenParen → IsExps a (c ∷ b) es → sign_of c ≡ CloseParen → IsSimple (o ∷ a) b (aexp.Tuple o.at es)
    ListSimple : {a b : List Token} {o c : Token} {es : List ExprTree} → sign_of o ≡ OpenSquare → IsExps a (c ∷ b) es → sign_of c ≡ CloseSquare → IsSimple (o ∷ a) b (aexp.List o.at es)
    RangeSimple : {a b d e : List Token} {o w c : Token} {x : ExprTree} {y z : Option ExprTree}
        → sign_of o ≡ OpenSquare → IsExp a b x → IsNext b (w ∷ d) y → sign_of w ≡ Dots → IsLimit d (c ∷ e) z → sign_of c ≡ CloseSquare → IsSimple (o ∷ a) e (aexp.Range o.at x y z)
    ComprehensionSimple : {a b d : List Token} {o m c : Token} {e : ExprTree} {qs : List QualTree}
        → sign_of o ≡ OpenSquare → IsExp a (m ∷ b) e → sign_of m ≡ Bar → IsQuals b (c ∷ d) qs → sign_of c ≡ CloseSquare → IsSimple (o ∷ a) d (aexp.Comprehension o.at e qs)
    LeftSimple : {f : Bool} {a b d : List Token} {o c : Token} {k : ChainTree} {q : QopTree}
        → sign_of o ≡ OpenParen → IsChain f a b k → IsQop b (c ∷ d) q → sign_of c ≡ CloseParen → IsSimple (o ∷ a) d (aexp.LeftSection o.at k q)
    RightSimple : {f : Bool} {a b d : List Token} {o m c : Token} {q : QopTree} {k : ChainTree}
        → sign_of o ≡ OpenParen → (sign_of m ≡ Minus → ⊥) → IsQop (m ∷ a) b q → IsChain f b (c ∷ d) k → sign_of c ≡ CloseParen → IsSimple (o ∷ m ∷ a) d (aexp.RightSection o.at q k)
    RecordSimple : {a b : List Token} {o c : Token} {n : NameRef} → IsQcon a (o ∷ c ∷ b) n → sign_of o ≡ OpenBrace false → sign_of c ≡ CloseBrace false → IsSimple a b (aexp.Record (place a) n)

  -- exp {, exp}
  pub data IsExps : List Token → List Token → List ExprTree → Type 0 where
    LastExp : {a b : List Token} {e : ExprTree} → IsExp a b e → IsExps a b (e ∷ [])
    MoreExps : {a b c : List Token} {m : Token} {e : ExprTree} {es : List ExprTree} → IsExp a (m ∷ b) e → sign_of m ≡ Comma → IsExps b c es → IsExps a c (e ∷ es)

  -- [, exp]
  pub data IsNext : List Token → List Token → Option ExprTree → Type 0 where
    NoNext : {a : List Token} → IsNext a a None
    ANext : {a b : List Token} {m : Token} {e : ExprTree} → sign_of m ≡ Comma → IsExp a b e → IsNext (m ∷ a) b (Some e)

  -- [exp]
  pub data IsLimit : List Token → List Token → Option ExprTree → Type 0 where
    NoLimit : {a : List Token} → IsLimit a a None
    ALimit : {a b : List Token} {e : ExprTree} → IsExp a b e → IsLimit a b (Some e)

  -- { fbind {, fbind} } one behind another
  pub data IsUpdates : List Token → List Token → List UpdateTree → Type 0 where
    NoUpdates : {a : List Token} → IsUpdates a a []
    MoreUpdates : {a b d : List Token} {o c : Token} {fs : List FbindTree} {us : List UpdateTree}
        → sign_of o ≡ OpenBrace false → IsFbinds a (c ∷ b) fs → sign_of c ≡ CloseBrace false → IsUpdates b d us → IsUpdates (o ∷ a) d (update_tree o.at fs ∷ us)

  -- fbind {, fbind}
  pub data IsFbinds : List Token → List Token → List FbindTree → Type 0 where
    LastFbind : {a b : List Token} {f : FbindTree} → IsFbind a b f → IsFbinds a b (f ∷ [])
    MoreFbinds : {a b c : List Token} {m : Token} {f : FbindTree} {fs : List FbindTree} → IsFbind a (m ∷ b) f → sign_of m ≡ Comma → IsFbinds b c fs → IsFbinds a c (f ∷ fs)

  -- fbind = qvar = exp
  pub data IsFbind : List Token → List Token → FbindTree → Type 0 where
    FieldFbind : {a b c : List Token} {t : Token} {n : NameRef} {e : ExprTree} → IsQvar a (t ∷ b) n → sign_of t ≡ Equals → IsExp b c e → IsFbind a c (fbind_tree (place a) n e)

  -- qual {, qual}
  pub data IsQuals : List Token → List Token → List QualTree → Type 0 where
    LastQual : {a b : List Token} {q : QualTree} → IsQual a b q → IsQuals a b (q ∷ [])
    MoreQuals : {a b c : List Token} {m : Token} {q : QualTree} {qs : List QualTree} → IsQual a (m ∷ b) q → sign_of m ≡ Comma → IsQuals b c qs → IsQuals a c (q ∷ qs)

  -- qual = pattern <- exp | let block(decl) | exp
  pub data IsQual : List Token → List Token → QualTree → Type 0 where
    BindQual : {a b c : List Token} {w : Token} {p : PatTree} {e : ExprTree} → IsPattern a (w ∷ b) p → sign_of w ≡ Back → IsExp b c e → IsQual a c (qual.Bind (place a) p e)
    LetQual : {a b : List Token} {t : Token} {ds : List DeclTree} → sign_of t ≡ Let → IsDeclBlock a b ds → IsQual (t ∷ a) b (qual.Let t.at ds)
    TestQual : {a b : List Token} {e : ExprTree} → IsExp a b e → IsQual a b (qual.Test (place a) e)

  -- guard {, guard}
  pub data IsGuards : List Token → List Token → List GuardTree → Type 0 where
    LastGuard : {a b : List Token} {g : GuardTree} → IsGuard a b g → IsGuards a b (g ∷ [])
    MoreGuards : {a b c : List Token} {m : Token} {g : GuardTree} {gs : List GuardTree} → IsGuard a (m ∷ b) g → sign_of m ≡ Comma → IsGuards b c gs → IsGuards a c (g ∷ gs)

  -- guard = pattern <- chain | let block(decl) | chain
  pub data IsGuard : List Token → List Token → GuardTree → Type 0 where
    BindGuard : {o : Bool} {a b c : List Token} {w : Token} {p : PatTree} {k : ChainTree} → IsPattern a (w ∷ b) p → sign_of w ≡ Back → IsChain o b c k → IsGuard a c (guard.Bind (place a) p k)
    LetGuard : {a b : List Token} {t : Token} {ds : List DeclTree} → sign_of t ≡ Let → IsDeclBlock a b ds → IsGuard (t ∷ a) b (guard.Let t.at ds)
    TestGuard : {o : Bool} {a b : List Token} {k : ChainTree} → IsChain o a b k → IsGuard a b (guard.Test (place a) k)

  -- {| guard {, guard} s exp}+, where s is = or ->
  pub data IsArms : Sign → List Token → List Token → List ArmTree → Type 0 where
    LastArm : {s : Sign} {a b : List Token} {x : ArmTree} → IsArm s a b x → IsArms s a b (x ∷ [])
    MoreArms : {s : Sign} {a b c : List Token} {x : ArmTree} {xs : List ArmTree} → IsArm s a b x → IsArms s b c xs → IsArms s a c (x ∷ xs)

  pub data IsArm : Sign → List Token → List Token → ArmTree → Type 0 where
    GuardedArm : {s : Sign} {a b c : List Token} {t w : Token} {gs : List GuardTree} {e : ExprTree}
        → sign_of t ≡ Bar → IsGuards a (w ∷ b) gs → sign_of w ≡ s → IsExp b c e → IsArm s (t ∷ a) c (arm_tree t.at gs e)

  -- [where block(decl)]
  pub data IsWhere : List Token → List Token → Option (List DeclTree) → Type 0 where
    NoWhere : {a : List Token} → IsWhere a a None
    AWhere : {a b : List Token} {t : Token} {ds : List DeclTree} → sign_of t ≡ Where → IsDeclBlock a b ds → IsWhere (t ∷ a) b (Some ds)

  -- rhs = = exp [where block(decl)] | {| guard {, guard} = exp}+ [where block(decl)]
  pub data IsRhs : List Token → List Token → RhsTree → Type 0 where
    PlainRhs : {a b c : List Token} {t : Token} {e : ExprTree} {w : Option (List DeclTree)} → sign_of t ≡ Equals → IsExp a b e → IsWhere b c w → IsRhs (t ∷ a) c (rhs.Plain t.at e w)
    GuardedRhs : {a b c : List Token} {xs : List ArmTree} {w : Option (List DeclTree)} → IsArms Equals a b xs → IsWhere b c w → IsRhs a c (rhs.Guarded (place a) xs w)

  -- alt = pattern -> exp [where block(decl)] | pattern {| guard {, guard} -> exp}+ [where block(decl)]
  pub data IsAlt : List Token → List Token → AltTree → Type 0 where
    PlainAlt : {a b c d : List Token} {t : Token} {p : PatTree} {e : ExprTree} {w : Option (List DeclTree)}
        → IsPattern a (t ∷ b) p → sign_of t ≡ Arrow → IsExp b c e → IsWhere c d w → IsAlt a d (alt.Plain (place a) p e w)
    GuardedAlt : {a b c d : List Token} {p : PatTree} {xs : List ArmTree} {w : Option (List DeclTree)}
        → IsPattern a b p → IsArms Arrow b c xs → IsWhere c d w → IsAlt a d (alt.Guarded (place a) p xs w)

  -- block(alt); a brace that layout put is closed by one that layout put
  pub data IsAltBlock : List Token → List Token → List AltTree → Type 0 where
    BracedAlts : {put : Bool} {a b : List Token} {t : Token} {xs : List AltTree} → sign_of t ≡ OpenBrace put → IsAlts put a b xs → IsAltBlock (t ∷ a) b xs

  pub data IsAlts : Bool → List Token → List Token → List AltTree → Type 0 where
    EndAlts : {put : Bool} {a : List Token} {t : Token} → sign_of t ≡ CloseBrace put → IsAlts put (t ∷ a) a []
    GapAlts : {put : Bool} {a b : List Token} {t : Token} {xs : List AltTree} → sign_of t ≡ Semicolon → IsAlts put a b xs → IsAlts put (t ∷ a) b xs
    ItemAlts : {put : Bool} {a b c : List Token} {t : Token} {x : AltTree} {xs : List AltTree}
        → IsAlt a (t ∷ b) x → EndsItem put (sign_of t) → IsAlts put (t ∷ b) c xs → IsAlts put a c (x ∷ xs)

  -- stmt = pattern <- exp | let block(decl) | exp
  pub data IsStmt : List Token → List Token → StmtTree → Type 0 where
    ExpStmt : {a b : List Token} {e : ExprTree} → IsExp a b e → IsStmt a b (stmt.Exp (place a) e)
    BindStmt : {a b c : List Token} {w : Token} {p : PatTree} {e : ExprTree} → IsPattern a (w ∷ b) p → sign_of w ≡ Back → IsExp b c e → IsStmt a c (stmt.Bind (place a) p e)
    LetStmt : {a b : List Token} {t : Token} {ds : List DeclTree} → sign_of t ≡ Let → IsDeclBlock a b ds → IsStmt (t ∷ a) b (stmt.Let t.at ds)

  -- block(stmt), of which the last one that isn't empty is an expression
  pub data IsStmtBlock : List Token → List Token → List StmtTree → Type 0 where
    BracedStmts : {put : Bool} {a b : List Token} {t : Token} {ss : List StmtTree} → sign_of t ≡ OpenBrace put → IsStmts put a b ss → IsStmtBlock (t ∷ a) b ss

  pub data IsStmts : Bool → List Token → List Token → List StmtTree → Type 0 where
    GapStmts : {put : Bool} {a b : List Token} {t : Token} {ss : List StmtTree} → sign_of t ≡ Semicolon → IsStmts put a b ss → IsStmts put (t ∷ a) b ss
    LastStmt : {put : Bool} {a b c : List Token} {t : Token} {e : ExprTree}
        → IsExp a b e → IsGaps b (t ∷ c) → sign_of t ≡ CloseBrace put → IsStmts put a c (stmt.Exp (place a) e ∷ [])
    MoreStmts : {put : Bool} {a b c : List Token} {t : Token} {s : StmtTree} {ss : List StmtTree}
        → IsStmt a (t ∷ b) s → sign_of t ≡ Semicolon → IsStmts put b c ss → IsStmts put a c (s ∷ ss)

  -- block(decl)
  pub data IsDeclBlock : List Token → List Token → List DeclTree → Type 0 where
    BracedDecls : {put : Bool} {a b : List Token} {t : Token} {ds : List DeclTree} → sign_of t ≡ OpenBrace put → IsDecls put a b ds → IsDeclBlock (t ∷ a) b ds

  pub data IsDecls : Bool → List Token → List Token → List DeclTree → Type 0 where
    EndDecls : {put : Bool} {a : List Token} {t : Token} → sign_of t ≡ CloseBrace put → IsDecls put (t ∷ a) a []
    GapDecls : {put : Bool} {a b : List Token} {t : Token} {ds : List DeclTree} → sign_of t ≡ Semicolon → IsDecls put a b ds → IsDecls put (t ∷ a) b ds
    ItemDecls : {put : Bool} {a b c : List Token} {t : Token} {d : DeclTree} {ds : List DeclTree}
        → IsDecl a (t ∷ b) d → EndsItem put (sign_of t) → IsDecls put (t ∷ b) c ds → IsDecls put a c (d ∷ ds)

  -- decl = sig | fix | clause
  pub data IsDecl : List Token → List Token → DeclTree → Type 0 where
    SigDecl : {a b : List Token} {s : SigTree} → IsSig a b s → IsDecl a b (decl.Sig (place a) s)
    FixDecl : {a b : List Token} {f : FixTree} → IsFix a b f → IsDecl a b (decl.Fix (place a) f)
    ClauseDecl : {a b : List Token} {k : Clause} → IsClause a b k → IsDecl a b (decl.Clause (place a) k)

  -- clause = lhs rhs
  pub data IsClause : List Token → List Token → Clause → Type 0 where
    SidesClause : {a b c : List Token} {l : LhsTree} {r : RhsTree} → IsLhs a b l → IsRhs b c r → IsClause a c (clause (place a) l r)
