-- What each reader reads, given enough steps, of what is derived where nothing goes on behind it.
use Rattle.std.proofs.Common.{◌≡◌, ℕ, ◌+◌, ◌*◌, ◌≤◌, Bool, true, false, cond, List, [], ◌∷◌, ◌++◌, length, Option, Some, None, refl, ap}
use Rattle.mk_base.specs.declared.place.Pos.{Pos}
use Rattle.hs_syntax.specs.declared.token.Token.{Token}
use Rattle.hs_syntax.specs.declared.sign.Sign.{Sign}
use Rattle.hs_syntax.specs.declared.sign.Sign.TheVariants.{CloseBrace, CloseParen, CloseSquare, Case, If, Let, Lambda, Dots, Bar, Minus}
use Rattle.hs_syntax.specs.declared.name_ref.QopTree.{QopTree}
use Rattle.hs_syntax.specs.declared.expr_tree.ExprTree.{ExprTree}
use Rattle.hs_syntax.specs.declared.expr_tree.LinkTree.{LinkTree}
use Rattle.hs_syntax.specs.declared.expr_tree.ChainTree.{ChainTree}
use Rattle.hs_syntax.specs.declared.expr_tree.LastTree.{LastTree}
use Rattle.hs_syntax.specs.declared.expr_tree.OpenTree.{OpenTree}
use Rattle.hs_syntax.specs.declared.expr_tree.ClosedTree.{ClosedTree}
use Rattle.hs_syntax.specs.declared.expr_tree.ClosedTree.TheVariants as shut
use Rattle.hs_syntax.specs.declared.expr_tree.AltTree.{AltTree}
use Rattle.hs_syntax.specs.declared.expr_tree.ArmTree.{ArmTree}
use Rattle.hs_syntax.specs.declared.expr_tree.GuardTree.{GuardTree}
use Rattle.hs_syntax.specs.declared.expr_tree.QualTree.{QualTree}
use Rattle.hs_syntax.specs.declared.expr_tree.StmtTree.{StmtTree}
use Rattle.hs_syntax.specs.declared.expr_tree.AexpTree.{AexpTree}
use Rattle.hs_syntax.specs.declared.expr_tree.AexpTree.TheVariants as atom
use Rattle.hs_syntax.specs.declared.expr_tree.UpdateTree.{UpdateTree}
use Rattle.hs_syntax.specs.declared.expr_tree.FbindTree.{FbindTree}
use Rattle.hs_syntax.specs.declared.expr_tree.DeclTree.{DeclTree}
use Rattle.hs_syntax.specs.declared.expr_tree.Clause.{Clause}
use Rattle.hs_syntax.specs.Signs.{sign_of}
use Rattle.hs_syntax.specs.Made.{chain_tree}
use Rattle.hs_syntax.specs.Reading.{Found, and_then, or_else, or_else_by, begins, behind, and_behind, with_sign, is_comma, is_bar}
use Rattle.hs_parts.specs.Names.{place, IsQop}
use Rattle.hs_parts.specs.PatternReaders.{is_brace}
use Rattle.expr_parts.specs.declared.piece.Chain.{Chain}
use Rattle.expr_parts.specs.declared.piece.Operand.TheVariants as item
use Rattle.expr_parts.specs.declared.piece.Part.{Part}
use Rattle.expr_parts.specs.declared.piece.Body.{Body}
use Rattle.expr_parts.specs.Grammar.{IsGaps, IsExp, IsChain, IsLinks, IsOpen, IsClosed, IsAexps, IsAexp, IsSimple, IsExps, IsNext, IsLimit, IsUpdates, IsFbinds, IsQuals, IsGuards, IsGuard, IsArms, IsArm, IsWhere, IsAlt, IsAlts, IsStmts, IsDecls, IsDecl, IsClause}
use Rattle.expr_parts.specs.Expressions.{Forms, aexp_begins, behind_empty, apply_of, updated}
use Rattle.expr_parts.proofs.Derived.{body_sign, PartOf, BodyOf, IsMore}
use Rattle.expr_parts.proofs.Ends.{GuardEnd, Ends, ChainEnds, PartEnds, goes_on_body, goes_on_item}

-- a first part that is read
pub then_is : {X Y : Type 0} (m : Found X) (f : X → List Token → Found Y) (x : X) (rest : List Token) → m ≡ Some (x, rest) → and_then m f ≡ f x rest
then_is m f x rest e = ap (λ k. and_then k f) e

pub or_is : {X Y : Type 0} (m : Found X) (f : X → List Token → Found Y) (g : Found Y) (x : X) (rest : List Token) → m ≡ Some (x, rest) → or_else_by m f g ≡ f x rest
or_is m f g x rest e = ap (λ k. or_else_by k f g) e

pub or_not : {X Y : Type 0} (m : Found X) (f : X → List Token → Found Y) (g : Found Y) → m ≡ None → or_else_by m f g ≡ g
or_not m f g e = ap (λ k. or_else_by k f g) e

pub else_is : {X : Type 0} (m g : Found X) (x : X) (rest : List Token) → m ≡ Some (x, rest) → or_else m g ≡ Some (x, rest)
else_is m g x rest e = ap (λ k. or_else k g) e

pub else_not : {X : Type 0} (m g : Found X) → m ≡ None → or_else m g ≡ g
else_not m g e = ap (λ k. or_else k g) e

-- a sign that stands behind it, or doesn't
pub past : {X : Type 0} (test : Sign → Bool) (w : Token) (b : List Token) (f : List Token → Found X) (g : Found X) → test (sign_of w) ≡ true → and_behind (behind test (w ∷ b)) f g ≡ f b
past test w b f g e = ap (λ x. and_behind (cond x (Some b) None) f g) e

pub beside : {X : Type 0} (test : Sign → Bool) (a : List Token) (f : List Token → Found X) (g : Found X) → begins test a ≡ false → and_behind (behind test a) f g ≡ g
beside test [] f g e = refl
beside test (t ∷ ts) f g e = ap (λ x. and_behind (cond x (Some ts) None) f g) e

pub signed : {X : Type 0} (test : Sign → Bool) (w : Token) (b : List Token) (x : X) → test (sign_of w) ≡ true → with_sign (behind test (w ∷ b)) x ≡ Some (x, b)
signed test w b x e = ap (λ v. with_sign (cond v (Some b) None) x) e

pub if_so : {X : Type 0} (v : Bool) (x y : X) → v ≡ true → cond v x y ≡ x
if_so v x y e = ap (λ k. cond k x y) e

pub if_not : {X : Type 0} (v : Bool) (x y : X) → v ≡ false → cond v x y ≡ y
if_not v x y e = ap (λ k. cond k x y) e

-- a chain, and an operand
abbrev pub chained : Pos → List LinkTree → LastTree → Bool → Chain
chained at ls x o = record { tree = chain_tree at ls x; is_open = o }

pub record CompleteForms (n : ℕ) (r : Forms) : Type 0 where
  pub exp : (tail : Bool) {a b : List Token} {e : ExprTree} → IsExp a b e → Ends tail b → 8 * length a + 16 ≤ n → r.exp tail a ≡ Some (e, b)
  pub links : (tail : Bool) {o : Bool} {a b : List Token} {ms : List LinkTree} {x : LastTree} → IsLinks o a b ms x → ChainEnds o tail b → 8 * length a + 15 ≤ n
      → (at : Pos) (ls : List LinkTree) → r.chain tail at ls a ≡ Some (chained at (ls ++ ms) x o, b)
  pub closed : (tail : Bool) {a b : List Token} {x : ClosedTree} → IsClosed a b x → begins aexp_begins b ≡ false → begins is_brace b ≡ false → 8 * length a + 14 ≤ n → r.operand tail a ≡ Some (item.Closed x, b)
  pub opened : (tail : Bool) {a b : List Token} {x : OpenTree} → IsOpen a b x → Ends tail b → 8 * length a + 14 ≤ n → r.operand tail a ≡ Some (item.Open x, b)
  pub lambda : (tail : Bool) {t : Token} {a b : List Token} {x : OpenTree} → IsOpen (t ∷ a) b x → sign_of t ≡ Lambda → Ends tail b → 8 * length a + 21 ≤ n → r.lambda tail t.at a ≡ Some (item.Open x, b)
  pub let_in : (tail : Bool) {t : Token} {a b : List Token} {x : OpenTree} → IsOpen (t ∷ a) b x → sign_of t ≡ Let → Ends tail b → 8 * length a + 21 ≤ n → r.let_in tail t.at a ≡ Some (item.Open x, b)
  pub if_else : (tail : Bool) {t : Token} {a b : List Token} {x : OpenTree} → IsOpen (t ∷ a) b x → sign_of t ≡ If → Ends tail b → 8 * length a + 21 ≤ n → r.if_else tail t.at a ≡ Some (item.Open x, b)
  pub case_of : {t : Token} {a b : List Token} {x : ClosedTree} → IsClosed (t ∷ a) b x → sign_of t ≡ Case → 8 * length a + 21 ≤ n → r.case_of t.at a ≡ Some (item.Closed x, b)
  pub alts : {put : Bool} {a b : List Token} {xs : List AltTree} → IsAlts put a b xs → 8 * length a + 12 ≤ n → (at : Pos) (e : ExprTree) (ys : List AltTree)
      → r.alts at e put ys a ≡ Some (item.Closed (shut.Case at e (ys ++ xs)), b)
  pub alt : {a b : List Token} {x : AltTree} → IsAlt a b x → begins goes_on_item b ≡ false → 8 * length a + 11 ≤ n → r.alt a ≡ Some (x, b)
  pub stmts : {put : Bool} {a b : List Token} {ss : List StmtTree} → IsStmts put a b ss → 8 * length a + 18 ≤ n → (at : Pos) (us : List StmtTree) (whole : Bool)
      → r.stmts at put us whole a ≡ Some (item.Closed (shut.Do at (us ++ ss)), b)
  pub gaps : {put : Bool} {t : Token} {a b : List Token} → IsGaps a (t ∷ b) → sign_of t ≡ CloseBrace put → 8 * length a + 18 ≤ n → (at : Pos) (us : List StmtTree)
      → r.stmts at put us true a ≡ Some (item.Closed (shut.Do at us), b)
  pub apply : {a b c : List Token} {x : AexpTree} {xs : List AexpTree} → IsAexp a b x → IsAexps b c xs → begins aexp_begins c ≡ false → begins is_brace c ≡ false → 8 * length a + 13 ≤ n
      → r.apply a ≡ Some (item.Closed (apply_of (place a) x xs), c)
  pub args : {a b : List Token} {xs : List AexpTree} → IsAexps a b xs → begins aexp_begins b ≡ false → begins is_brace b ≡ false → 8 * length a + 13 ≤ n → (at : Pos) (h : AexpTree) (ys : List AexpTree)
      → r.args at h ys a ≡ Some (item.Closed (apply_of at h (ys ++ xs)), b)
  pub aexp : {a b : List Token} {x : AexpTree} → IsAexp a b x → begins is_brace b ≡ false → 8 * length a + 12 ≤ n → r.aexp a ≡ Some (x, b)
  pub updates : {a b : List Token} {us : List UpdateTree} → IsUpdates a b us → begins is_brace b ≡ false → 8 * length a + 11 ≤ n → (at : Pos) (x : AexpTree) (vs : List UpdateTree)
      → r.updates at x vs a ≡ Some (updated at x (vs ++ us), b)
  pub fbinds : {c : Token} {a b : List Token} {fs : List FbindTree} → IsFbinds a (c ∷ b) fs → sign_of c ≡ CloseBrace false → 8 * length a + 11 ≤ n → (gs : List FbindTree) → r.fbinds gs a ≡ Some (gs ++ fs, c ∷ b)
  pub simple : {a b : List Token} {x : AexpTree} → IsSimple a b x → Path (Option (List Token)) (behind_empty b) None → 8 * length a + 11 ≤ n → r.simple a ≡ Some (x, b)
  -- what stands in parentheses
  pub tuple : {c : Token} {a b : List Token} {es : List ExprTree} → IsExps a (c ∷ b) es → sign_of c ≡ CloseParen → 8 * length a + 18 ≤ n → (at : Pos) → r.paren at a ≡ Some (atom.Tuple at es, b)
  pub left : {f : Bool} {c : Token} {a b d : List Token} {k : ChainTree} {q : QopTree} → IsChain f a b k → IsQop b (c ∷ d) q → sign_of c ≡ CloseParen → 8 * length a + 18 ≤ n
      → (at : Pos) → r.paren at a ≡ Some (atom.LeftSection at k q, d)
  pub section : {f : Bool} {m c : Token} {a b d : List Token} {k : ChainTree} {q : QopTree} → (sign_of m ≡ Minus → ⊥) → IsQop (m ∷ a) b q → IsChain f b (c ∷ d) k → sign_of c ≡ CloseParen
      → 8 * length (m ∷ a) + 18 ≤ n → (at : Pos) → r.paren at (m ∷ a) ≡ Some (atom.RightSection at q k, d)
  pub right : {f : Bool} {c : Token} {a d : List Token} {k : ChainTree} → IsChain f a (c ∷ d) k → sign_of c ≡ CloseParen → 8 * length a + 16 ≤ n → (at : Pos) (q : QopTree)
      → r.right at q a ≡ Some (atom.RightSection at q k, d)
  pub exps : {a b : List Token} {es : List ExprTree} → IsMore a b es → Ends false b → begins is_comma b ≡ false → 8 * length a + 11 ≤ n → (xs : List ExprTree) → r.exps xs a ≡ Some (xs ++ es, b)
  -- what stands in square brackets
  pub list : {c : Token} {a b : List Token} {es : List ExprTree} → IsExps a (c ∷ b) es → sign_of c ≡ CloseSquare → 8 * length a + 18 ≤ n → (at : Pos) → r.bracket at a ≡ Some (atom.List at es, b)
  pub range : {w c : Token} {a b d e : List Token} {x : ExprTree} {y z : Option ExprTree} → IsExp a b x → IsNext b (w ∷ d) y → sign_of w ≡ Dots → IsLimit d (c ∷ e) z → sign_of c ≡ CloseSquare
      → 8 * length a + 18 ≤ n → (at : Pos) → r.bracket at a ≡ Some (atom.Range at x y z, e)
  pub comprehension : {m c : Token} {a b d : List Token} {e : ExprTree} {qs : List QualTree} → IsExp a (m ∷ b) e → sign_of m ≡ Bar → IsQuals b (c ∷ d) qs → sign_of c ≡ CloseSquare
      → 8 * length a + 18 ≤ n → (at : Pos) → r.bracket at a ≡ Some (atom.Comprehension at e qs, d)
  pub listed_more : {c : Token} {b d : List Token} {es : List ExprTree} → IsMore b (c ∷ d) es → sign_of c ≡ CloseSquare → 8 * length b + 11 ≤ n → (at : Pos) (e : ExprTree)
      → r.listed at e b ≡ Some (atom.List at (e ∷ es), d)
  pub listed_range : {w c : Token} {b d e : List Token} {y z : Option ExprTree} → IsNext b (w ∷ d) y → sign_of w ≡ Dots → IsLimit d (c ∷ e) z → sign_of c ≡ CloseSquare → 8 * length b + 11 ≤ n
      → (at : Pos) (x : ExprTree) → r.listed at x b ≡ Some (atom.Range at x y z, e)
  pub listed_bar : (m : Token) {c : Token} {b d : List Token} {qs : List QualTree} → sign_of m ≡ Bar → IsQuals b (c ∷ d) qs → sign_of c ≡ CloseSquare → 8 * length (m ∷ b) + 11 ≤ n
      → (at : Pos) (e : ExprTree) → r.listed at e (m ∷ b) ≡ Some (atom.Comprehension at e qs, d)
  pub second_more : {c : Token} {a b d : List Token} {x : ExprTree} {es : List ExprTree} → IsExp a b x → IsMore b (c ∷ d) es → sign_of c ≡ CloseSquare → 8 * length a + 17 ≤ n
      → (at : Pos) (e : ExprTree) → r.second at e a ≡ Some (atom.List at (e ∷ x ∷ es), d)
  pub second_range : {w c : Token} {a d e : List Token} {y : ExprTree} {z : Option ExprTree} → IsExp a (w ∷ d) y → sign_of w ≡ Dots → IsLimit d (c ∷ e) z → sign_of c ≡ CloseSquare → 8 * length a + 17 ≤ n
      → (at : Pos) (x : ExprTree) → r.second at x a ≡ Some (atom.Range at x (Some y) z, e)
  pub limit : {c : Token} {d e : List Token} {z : Option ExprTree} → IsLimit d (c ∷ e) z → sign_of c ≡ CloseSquare → 8 * length d + 17 ≤ n → (at : Pos) (x : ExprTree) (y : Option ExprTree)
      → r.limit at x y d ≡ Some (atom.Range at x y z, e)
  pub quals : {c : Token} {a b : List Token} {qs : List QualTree} → IsQuals a (c ∷ b) qs → sign_of c ≡ CloseSquare → 8 * length a + 18 ≤ n → (xs : List QualTree) → r.quals xs a ≡ Some (xs ++ qs, c ∷ b)
  pub part : {a b : List Token} {x : Part} → PartOf a b x → PartEnds b → 8 * length a + 17 ≤ n → r.part a ≡ Some (x, b)
  pub let_part : {t : Token} {a b : List Token} {x : Part} → PartOf (t ∷ a) b x → sign_of t ≡ Let → PartEnds b → 8 * length a + 24 ≤ n → r.let_part t.at a ≡ Some (x, b)
  -- bodies and guards
  pub body : {s : Bool} {a b : List Token} {x : Body} → BodyOf s a b x → begins goes_on_item b ≡ false → 8 * length a + 13 ≤ n → r.body s a ≡ Some (x, b)
  pub arms : (s : Bool) {a b : List Token} {xs : List ArmTree} → IsArms (body_sign s) a b xs → begins goes_on_body b ≡ false → begins is_bar b ≡ false → 8 * length a + 12 ≤ n → (ys : List ArmTree)
      → r.arms s ys a ≡ Some (ys ++ xs, b)
  pub arm : (s : Bool) {a b : List Token} {x : ArmTree} → IsArm (body_sign s) a b x → begins goes_on_body b ≡ false → 8 * length a + 11 ≤ n → r.arm s a ≡ Some (x, b)
  pub guards : (s : Bool) {w : Token} {a b : List Token} {gs : List GuardTree} → IsGuards a (w ∷ b) gs → GuardEnd s (w ∷ b) → is_comma (sign_of w) ≡ false → 8 * length a + 17 ≤ n → (ys : List GuardTree)
      → r.guards s ys a ≡ Some (ys ++ gs, w ∷ b)
  pub guard : (s : Bool) {a b : List Token} {x : GuardTree} → IsGuard a b x → GuardEnd s b → 8 * length a + 16 ≤ n → r.guard s a ≡ Some (x, b)
  pub let_guard : (s : Bool) {t : Token} {a b : List Token} {x : GuardTree} → IsGuard (t ∷ a) b x → sign_of t ≡ Let → GuardEnd s b → 8 * length a + 23 ≤ n → r.let_guard s t.at a ≡ Some (x, b)
  pub locals : {a b : List Token} {w : Option (List DeclTree)} → IsWhere a b w → begins goes_on_item b ≡ false → 8 * length a + 11 ≤ n → r.locals a ≡ Some (w, b)
  pub decls : {put : Bool} {a b : List Token} {ds : List DeclTree} → IsDecls put a b ds → 8 * length a + 13 ≤ n → (xs : List DeclTree) → r.decls put xs a ≡ Some (xs ++ ds, b)
  pub decl : {a b : List Token} {x : DeclTree} → IsDecl a b x → begins goes_on_item b ≡ false → 8 * length a + 12 ≤ n → r.decl a ≡ Some (x, b)
  pub clause : {a b : List Token} {x : Clause} → IsClause a b x → begins goes_on_item b ≡ false → 8 * length a + 11 ≤ n → r.clause a ≡ Some (x, b)
