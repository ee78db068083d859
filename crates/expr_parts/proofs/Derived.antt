-- What each reader's answer is.
use Rattle.std.proofs.Common.{◌≡◌, Bool, true, false, List, [], ◌∷◌, ◌++◌}
use Rattle.std.specs.declared.option.Option.{Option}
use Rattle.mk_base.specs.declared.place.Pos.{Pos}
use Rattle.hs_syntax.specs.declared.token.Token.{Token}
use Rattle.hs_syntax.specs.declared.sign.Sign.{Sign}
use Rattle.hs_syntax.specs.declared.sign.Sign.TheVariants.{Semicolon, CloseBrace, OpenParen, OpenSquare, Comma, Case, If, Let, Equals, Lambda, Arrow, Back, Minus, Dots}
use Rattle.hs_syntax.specs.declared.name_ref.QopTree.{QopTree}
use Rattle.hs_syntax.specs.declared.pattern_tree.PatTree.{PatTree}
use Rattle.hs_syntax.specs.declared.expr_tree.ExprTree.{ExprTree}
use Rattle.hs_syntax.specs.declared.expr_tree.LinkTree.{LinkTree}
use Rattle.hs_syntax.specs.declared.expr_tree.LastTree.{LastTree}
use Rattle.hs_syntax.specs.declared.expr_tree.OpenTree.{OpenTree}
use Rattle.hs_syntax.specs.declared.expr_tree.ClosedTree.{ClosedTree}
use Rattle.hs_syntax.specs.declared.expr_tree.ClosedTree.TheVariants as closed
use Rattle.hs_syntax.specs.declared.expr_tree.AltTree.{AltTree}
use Rattle.hs_syntax.specs.declared.expr_tree.ArmTree.{ArmTree}
use Rattle.hs_syntax.specs.declared.expr_tree.GuardTree.{GuardTree}
use Rattle.hs_syntax.specs.declared.expr_tree.QualTree.{QualTree}
use Rattle.hs_syntax.specs.declared.expr_tree.StmtTree.{StmtTree}
use Rattle.hs_syntax.specs.declared.expr_tree.AexpTree.{AexpTree}
use Rattle.hs_syntax.specs.declared.expr_tree.UpdateTree.{UpdateTree}
use Rattle.hs_syntax.specs.declared.expr_tree.FbindTree.{FbindTree}
use Rattle.hs_syntax.specs.declared.expr_tree.DeclTree.{DeclTree}
use Rattle.hs_syntax.specs.Signs.{sign_of}
use Rattle.hs_syntax.specs.Made.{chain_tree}
use Rattle.hs_syntax.specs.Reading.{begins}
use Rattle.hs_syntax.proofs.Sound.{Sound}
use Rattle.hs_parts.specs.Names.{IsQop}
use Rattle.hs_parts.specs.Grammar.{IsPattern}
use Rattle.expr_parts.specs.declared.piece.Chain.{Chain}
use Rattle.expr_parts.specs.declared.piece.Operand.{Operand}
use Rattle.expr_parts.specs.declared.piece.Operand.TheVariants as operand
use Rattle.expr_parts.specs.declared.piece.Part.{Part}
use Rattle.expr_parts.specs.declared.piece.Part.TheVariants as part
use Rattle.expr_parts.specs.declared.piece.Body.{Body}
use Rattle.expr_parts.specs.declared.piece.Body.TheVariants as body
use Rattle.expr_parts.specs.Grammar.{IsExp, IsLinks, IsOpen, IsClosed, IsAexps, IsAexp, IsSimple, IsExps, IsNext, IsUpdates, IsFbinds, IsQuals, IsGuards, IsGuard, IsArms, IsArm, IsWhere, IsAlt, IsAlts, IsStmts, IsDeclBlock, IsDecls, IsDecl, IsClause}
use Rattle.expr_parts.specs.Expressions.{Forms, updated, apply_of, ends_item}

-- the sign of a body
abbrev pub body_sign : Bool → Sign
body_sign true = Arrow
body_sign false = Equals

pub data OperandOf : List Token → List Token → Operand → Type 0 where
  OpenOne : {a b : List Token} {x : OpenTree} → IsOpen a b x → OperandOf a b (operand.Open x)
  ClosedOne : {a b : List Token} {x : ClosedTree} → IsClosed a b x → OperandOf a b (operand.Closed x)

pub data PartOf : List Token → List Token → Part → Type 0 where
  BindPart : {a b c : List Token} {w : Token} {p : PatTree} {e : ExprTree} → IsPattern a (w ∷ b) p → sign_of w ≡ Back → IsExp b c e → PartOf a c (part.Bind p e)
  LetPart : {a b : List Token} {t : Token} {ds : List DeclTree} → sign_of t ≡ Let → IsDeclBlock a b ds → PartOf (t ∷ a) b (part.Let ds)
  TestPart : {a b : List Token} {e : ExprTree} → IsExp a b e → PartOf a b (part.Test e)

pub data BodyOf : Bool → List Token → List Token → Body → Type 0 where
  PlainBody : {s : Bool} {a b c : List Token} {t : Token} {e : ExprTree} {w : Option (List DeclTree)}
      → sign_of t ≡ body_sign s → IsExp a b e → IsWhere b c w → BodyOf s (t ∷ a) c (body.Plain e w)
  GuardedBody : {s : Bool} {a b c : List Token} {xs : List ArmTree} {w : Option (List DeclTree)} → IsArms (body_sign s) a b xs → IsWhere b c w → BodyOf s a c (body.Guarded xs w)

-- {, exp}
pub data IsMore : List Token → List Token → List ExprTree → Type 0 where
  NoMore : {a : List Token} → IsMore a a []
  More : {a b : List Token} {m : Token} {es : List ExprTree} → sign_of m ≡ Comma → IsExps a b es → IsMore (m ∷ a) b es

-- The rest of a block of statements, once some are read; whether the last of them is an expression.
pub data IsRest : Bool → Bool → List Token → List Token → List StmtTree → Type 0 where
  EndRest : {put : Bool} {a : List Token} {t : Token} → sign_of t ≡ CloseBrace put → IsRest put true (t ∷ a) a []
  GapRest : {put whole : Bool} {a b : List Token} {t : Token} {ss : List StmtTree} → sign_of t ≡ Semicolon → IsRest put whole a b ss → IsRest put whole (t ∷ a) b ss
  ItemRest : {put whole : Bool} {a b : List Token} {ss : List StmtTree} → begins (ends_item put) a ≡ false → IsStmts put a b ss → IsRest put whole a b ss

-- behind what there is already
abbrev pub ChainFrom : Pos → List LinkTree → List Token → List Token → Chain → Type 0
ChainFrom at ls ts to c = (ms : List LinkTree) × (x : LastTree) × (o : Bool) × (c ≡ record { tree = chain_tree at (ls ++ ms) x; is_open = o }) × IsLinks o ts to ms x

abbrev pub AltsFrom : Pos → ExprTree → Bool → List AltTree → List Token → List Token → Operand → Type 0
AltsFrom at e put xs ts to y = (zs : List AltTree) × (y ≡ operand.Closed (closed.Case at e (xs ++ zs))) × IsAlts put ts to zs

abbrev pub StmtsFrom : Pos → Bool → List StmtTree → Bool → List Token → List Token → Operand → Type 0
StmtsFrom at put ss whole ts to y = (us : List StmtTree) × (y ≡ operand.Closed (closed.Do at (ss ++ us))) × IsRest put whole ts to us

abbrev pub ArgsFrom : Pos → AexpTree → List AexpTree → List Token → List Token → Operand → Type 0
ArgsFrom at h xs ts to y = (zs : List AexpTree) × (y ≡ operand.Closed (apply_of at h (xs ++ zs))) × IsAexps ts to zs

abbrev pub UpdatesFrom : Pos → AexpTree → List UpdateTree → List Token → List Token → AexpTree → Type 0
UpdatesFrom at x us ts to y = (vs : List UpdateTree) × (y ≡ updated at x (us ++ vs)) × IsUpdates ts to vs

abbrev pub FbindsFrom : List FbindTree → List Token → List Token → List FbindTree → Type 0
FbindsFrom xs ts to ys = (zs : List FbindTree) × (ys ≡ xs ++ zs) × IsFbinds ts to zs

abbrev pub MoreFrom : List ExprTree → List Token → List Token → List ExprTree → Type 0
MoreFrom xs ts to ys = (zs : List ExprTree) × (ys ≡ xs ++ zs) × IsMore ts to zs

abbrev pub QualsFrom : List QualTree → List Token → List Token → List QualTree → Type 0
QualsFrom xs ts to ys = (zs : List QualTree) × (ys ≡ xs ++ zs) × IsQuals ts to zs

abbrev pub ArmsFrom : Bool → List ArmTree → List Token → List Token → List ArmTree → Type 0
ArmsFrom s xs ts to ys = (zs : List ArmTree) × (ys ≡ xs ++ zs) × IsArms (body_sign s) ts to zs

abbrev pub GuardsFrom : List GuardTree → List Token → List Token → List GuardTree → Type 0
GuardsFrom xs ts to ys = (zs : List GuardTree) × (ys ≡ xs ++ zs) × IsGuards ts to zs

abbrev pub DeclsFrom : Bool → List DeclTree → List Token → List Token → List DeclTree → Type 0
DeclsFrom put xs ts to ys = (zs : List DeclTree) × (ys ≡ xs ++ zs) × IsDecls put ts to zs

pub record SoundForms (r : Forms) : Type 0 where
  pub exp : (tail : Bool) (ts : List Token) → Sound (IsExp ts) (r.exp tail ts)
  pub chain : (tail : Bool) (at : Pos) (ls : List LinkTree) (ts : List Token) → Sound (ChainFrom at ls ts) (r.chain tail at ls ts)
  pub operand : (tail : Bool) (ts : List Token) → Sound (OperandOf ts) (r.operand tail ts)
  pub lambda : (tail : Bool) (t : Token) (a : List Token) → sign_of t ≡ Lambda → Sound (OperandOf (t ∷ a)) (r.lambda tail t.at a)
  pub let_in : (tail : Bool) (t : Token) (a : List Token) → sign_of t ≡ Let → Sound (OperandOf (t ∷ a)) (r.let_in tail t.at a)
  pub if_else : (tail : Bool) (t : Token) (a : List Token) → sign_of t ≡ If → Sound (OperandOf (t ∷ a)) (r.if_else tail t.at a)
  pub case_of : (t : Token) (a : List Token) → sign_of t ≡ Case → Sound (OperandOf (t ∷ a)) (r.case_of t.at a)
  pub alts : (at : Pos) (e : ExprTree) (put : Bool) (xs : List AltTree) (ts : List Token) → Sound (AltsFrom at e put xs ts) (r.alts at e put xs ts)
  pub alt : (ts : List Token) → Sound (IsAlt ts) (r.alt ts)
  pub stmts : (at : Pos) (put : Bool) (ss : List StmtTree) (whole : Bool) (ts : List Token) → Sound (StmtsFrom at put ss whole ts) (r.stmts at put ss whole ts)
  pub apply : (ts : List Token) → Sound (OperandOf ts) (r.apply ts)
  pub args : (at : Pos) (h : AexpTree) (xs : List AexpTree) (ts : List Token) → Sound (ArgsFrom at h xs ts) (r.args at h xs ts)
  pub aexp : (ts : List Token) → Sound (IsAexp ts) (r.aexp ts)
  pub updates : (at : Pos) (x : AexpTree) (us : List UpdateTree) (ts : List Token) → Sound (UpdatesFrom at x us ts) (r.updates at x us ts)
  pub fbinds : (fs : List FbindTree) (ts : List Token) → Sound (FbindsFrom fs ts) (r.fbinds fs ts)
  pub simple : (ts : List Token) → Sound (IsSimple ts) (r.simple ts)
  pub paren : (t : Token) (a : List Token) → sign_of t ≡ OpenParen → Sound (IsSimple (t ∷ a)) (r.paren t.at a)
  pub right : (t m : Token) (a b : List Token) (q : QopTree) → sign_of t ≡ OpenParen → (sign_of m ≡ Minus → ⊥) → IsQop (m ∷ a) b q → Sound (IsSimple (t ∷ m ∷ a)) (r.right t.at q b)
  pub exps : (es : List ExprTree) (ts : List Token) → Sound (MoreFrom es ts) (r.exps es ts)
  pub bracket : (t : Token) (a : List Token) → sign_of t ≡ OpenSquare → Sound (IsSimple (t ∷ a)) (r.bracket t.at a)
  pub listed : (t : Token) (a b : List Token) (e : ExprTree) → sign_of t ≡ OpenSquare → IsExp a b e → Sound (IsSimple (t ∷ a)) (r.listed t.at e b)
  pub second : (t m : Token) (a b : List Token) (e : ExprTree) → sign_of t ≡ OpenSquare → IsExp a (m ∷ b) e → sign_of m ≡ Comma → Sound (IsSimple (t ∷ a)) (r.second t.at e b)
  pub limit : (t w : Token) (a b d : List Token) (e : ExprTree) (x : Option ExprTree) → sign_of t ≡ OpenSquare → IsExp a b e → IsNext b (w ∷ d) x → sign_of w ≡ Dots
      → Sound (IsSimple (t ∷ a)) (r.limit t.at e x d)
  pub quals : (xs : List QualTree) (ts : List Token) → Sound (QualsFrom xs ts) (r.quals xs ts)
  pub part : (ts : List Token) → Sound (PartOf ts) (r.part ts)
  pub let_part : (t : Token) (a : List Token) → sign_of t ≡ Let → Sound (PartOf (t ∷ a)) (r.let_part t.at a)
  pub body : (s : Bool) (ts : List Token) → Sound (BodyOf s ts) (r.body s ts)
  pub arms : (s : Bool) (xs : List ArmTree) (ts : List Token) → Sound (ArmsFrom s xs ts) (r.arms s xs ts)
  pub arm : (s : Bool) (ts : List Token) → Sound (IsArm (body_sign s) ts) (r.arm s ts)
  pub guards : (s : Bool) (xs : List GuardTree) (ts : List Token) → Sound (GuardsFrom xs ts) (r.guards s xs ts)
  pub guard : (s : Bool) (ts : List Token) → Sound (IsGuard ts) (r.guard s ts)
  pub let_guard : (s : Bool) (t : Token) (a : List Token) → sign_of t ≡ Let → Sound (IsGuard (t ∷ a)) (r.let_guard s t.at a)
  pub locals : (ts : List Token) → Sound (IsWhere ts) (r.locals ts)
  pub decls : (put : Bool) (xs : List DeclTree) (ts : List Token) → Sound (DeclsFrom put xs ts) (r.decls put xs ts)
  pub decl : (ts : List Token) → Sound (IsDecl ts) (r.decl ts)
  pub clause : (ts : List Token) → Sound (IsClause ts) (r.clause ts)
