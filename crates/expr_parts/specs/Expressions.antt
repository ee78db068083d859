-- How expressions and the declarations in them are read: each function with so many steps left, from those with fewer.
use Rattle.std.specs.Prelude.{◌≡◌, ℕ, suc, zero, Bool, true, false, List, [], ◌∷◌, ◌++◌, Option, Some, None, cond}
use Rattle.mk_base.specs.declared.place.Pos.{Pos}
use Rattle.hs_syntax.specs.declared.token.Token.{Token}
use Rattle.hs_syntax.specs.declared.sign.Sign.{Sign}
use Rattle.hs_syntax.specs.declared.sign.Sign.TheVariants.{Var, QualifiedVar, Con, QualifiedCon, Minus, Number, Quoted, OpenBrace, CloseBrace, Semicolon, OpenParen, OpenSquare, Comma, Case, Do, If, Let, Dots, Lambda, Bar}
use Rattle.hs_syntax.specs.declared.name_ref.NameRef.{NameRef}
use Rattle.hs_syntax.specs.declared.name_ref.QopTree.{QopTree}
use Rattle.hs_syntax.specs.declared.type_tree.QualifiedType.{QualifiedType}
use Rattle.hs_syntax.specs.declared.pattern_tree.GconTree.{GconTree}
use Rattle.hs_syntax.specs.declared.pattern_tree.GconTree.TheVariants as gcon
use Rattle.hs_syntax.specs.declared.pattern_tree.PatTree.{PatTree}
use Rattle.hs_syntax.specs.declared.pattern_tree.ApatTree.{ApatTree}
use Rattle.hs_syntax.specs.declared.expr_tree.ExprTree.{ExprTree}
use Rattle.hs_syntax.specs.declared.expr_tree.LinkTree.{LinkTree}
use Rattle.hs_syntax.specs.declared.expr_tree.ChainTree.{ChainTree}
use Rattle.hs_syntax.specs.declared.expr_tree.LastTree.TheVariants as last
use Rattle.hs_syntax.specs.declared.expr_tree.OpenTree.{OpenTree}
use Rattle.hs_syntax.specs.declared.expr_tree.OpenTree.TheVariants as open_
use Rattle.hs_syntax.specs.declared.expr_tree.ClosedTree.{ClosedTree}
use Rattle.hs_syntax.specs.declared.expr_tree.ClosedTree.TheVariants as closed
use Rattle.hs_syntax.specs.declared.expr_tree.AltTree.{AltTree}
use Rattle.hs_syntax.specs.declared.expr_tree.AltTree.TheVariants as alt
use Rattle.hs_syntax.specs.declared.expr_tree.ArmTree.{ArmTree}
use Rattle.hs_syntax.specs.declared.expr_tree.GuardTree.{GuardTree}
use Rattle.hs_syntax.specs.declared.expr_tree.GuardTree.TheVariants as guard
use Rattle.hs_syntax.specs.declared.expr_tree.QualTree.{QualTree}
use Rattle.hs_syntax.specs.declared.expr_tree.QualTree.TheVariants as qual
use Rattle.hs_syntax.specs.declared.expr_tree.StmtTree.{StmtTree}
use Rattle.hs_syntax.specs.declared.expr_tree.StmtTree.TheVariants as stmt
use Rattle.hs_syntax.specs.declared.expr_tree.AexpTree.{AexpTree}
use Rattle.hs_syntax.specs.declared.expr_tree.AexpTree.TheVariants as aexp
use Rattle.hs_syntax.specs.declared.expr_tree.UpdateTree.{UpdateTree}
use Rattle.hs_syntax.specs.declared.expr_tree.FbindTree.{FbindTree}
use Rattle.hs_syntax.specs.declared.expr_tree.DeclTree.{DeclTree}
use Rattle.hs_syntax.specs.declared.expr_tree.DeclTree.TheVariants as decl
use Rattle.hs_syntax.specs.declared.expr_tree.Clause.{Clause}
use Rattle.hs_syntax.specs.declared.expr_tree.SigTree.{SigTree}
use Rattle.hs_syntax.specs.declared.expr_tree.FixTree.{FixTree}
use Rattle.hs_syntax.specs.declared.expr_tree.RhsTree.{RhsTree}
use Rattle.hs_syntax.specs.declared.expr_tree.RhsTree.TheVariants as rhs
use Rattle.hs_syntax.specs.Signs.{sign_of}
use Rattle.hs_syntax.specs.Made.{expr_tree, chain_tree, link_tree, arm_tree, update_tree, fbind_tree, clause}
use Rattle.hs_syntax.specs.Reading.{Found, and_then, or_else, or_else_by, with_first, begins, behind, and_behind, with_sign, is_comma, is_close_paren, is_close_square, is_equals, is_typed, is_arrow, is_back, is_bar, is_dots, is_in, is_of, is_then, is_else, is_where, is_semicolon}
use Rattle.hs_parts.specs.Names.{place, is_literal}
use Rattle.hs_parts.specs.NameReaders.{qvar_at, gcon_at, qop_at}
use Rattle.hs_parts.specs.PatternReaders.{is_brace, is_close_brace, pattern_at, some_apats}
use Rattle.hs_parts.specs.SideReaders.{side_at}
use Rattle.hs_parts.specs.SigReaders.{sig_at, fix_at}
use Rattle.hs_parts.specs.TypeReaders.{qualified_at, qualified_tail}
use Rattle.expr_parts.specs.declared.look.Separator.{Separator}
use Rattle.expr_parts.specs.declared.look.Separator.TheVariants as separator
use Rattle.expr_parts.specs.declared.piece.Chain.{Chain}
use Rattle.expr_parts.specs.declared.piece.Operand.{Operand}
use Rattle.expr_parts.specs.declared.piece.Operand.TheVariants as operand
use Rattle.expr_parts.specs.declared.piece.Part.{Part}
use Rattle.expr_parts.specs.declared.piece.Part.TheVariants as part
use Rattle.expr_parts.specs.declared.piece.Body.{Body}
use Rattle.expr_parts.specs.declared.piece.Body.TheVariants as body

-- Signs

abbrev pub is_minus : Sign → Bool
is_minus Minus = true
is_minus _ = false

-- the sign of a body: -> in an alternative, = in a clause
abbrev pub is_body : Bool → Sign → Bool
is_body true = is_arrow
is_body false = is_equals

abbrev pub aexp_begins : Sign → Bool
aexp_begins Var = true
aexp_begins QualifiedVar = true
aexp_begins Con = true
aexp_begins QualifiedCon = true
aexp_begins Number = true
aexp_begins Quoted = true
aexp_begins OpenParen = true
aexp_begins OpenSquare = true
aexp_begins _ = false

-- the opening brace of a block, and whether layout put it
abbrev pub opened_by : Token → List Token → Sign → Found Bool
opened_by t ts (OpenBrace put) = Some (put, ts)
opened_by t ts _ = None

abbrev pub opened : List Token → Found Bool
opened ts = with_first ts None opened_by

-- the closing brace of a block of this sort
abbrev pub closes : Bool → Sign → Bool
closes true (CloseBrace true) = true
closes false (CloseBrace false) = true
closes _ _ = false

-- what ends an item of a block
abbrev pub ends_item : Bool → Sign → Bool
ends_item put Semicolon = true
ends_item put k = closes put k

-- what stands between the items of a block
pub data Between : Type 0 where
  Gap : List Token → Between
  End : List Token → Between
  Neither : Between

abbrev pub between_by : Bool → List Token → Sign → Between
between_by put ts Semicolon = Gap ts
between_by put ts k = cond (closes put k) (End ts) Neither

abbrev pub between : Bool → List Token → Between
between put [] = Neither
between put (t ∷ ts) = between_by put ts (sign_of t)

-- an answer of the code, as a value
abbrev pub separated : Separator → Between
separated (separator.Gap b) = Gap b.now
separated (separator.End b) = End b.now
separated separator.Neither = Neither

abbrev pub after_by : (Sign → Bool) → Token → List Token → List Token
after_by p t ts = cond (p (sign_of t)) ts (t ∷ ts)

-- the text without such a sign, where one stands first
abbrev pub after : (Sign → Bool) → List Token → List Token
after p [] = []
after p (t ∷ ts) = after_by p t ts

-- [;] then, and [;] else
abbrev pub behind_then : List Token → Option (List Token)
behind_then ts = behind is_then (after is_semicolon ts)

abbrev pub behind_else : List Token → Option (List Token)
behind_else ts = behind is_else (after is_semicolon ts)

-- Parts without an expression in them

-- an operator with which a chain goes on: no closing parenthesis stands behind it
abbrev pub infix_at : List Token → Found QopTree
infix_at ts = and_then (qop_at ts) (λ q rest. cond (begins is_close_paren rest) None (Some (q, rest)))

-- the operator and the closing parenthesis of a left section
abbrev pub section_end_at : List Token → Found QopTree
section_end_at ts = and_then (qop_at ts) (λ q rest. with_sign (behind is_close_paren rest) q)

-- the operator of a right section
abbrev pub section_start_at : List Token → Found QopTree
section_start_at ts = cond (begins is_minus ts) None (qop_at ts)

-- the patterns of a lambda, and the arrow behind them
abbrev pub arguments_at : ℕ → List Token → Found (List ApatTree)
arguments_at n ts = and_then (some_apats n ts) (λ ps rest. with_sign (behind is_arrow rest) ps)

-- a pattern and the arrow behind it
abbrev pub bound_at : ℕ → List Token → Found PatTree
bound_at n ts = and_then (pattern_at n ts) (λ p rest. with_sign (behind is_back rest) p)

-- { and } behind a constructor
abbrev pub behind_close_of : Option (List Token) → Option (List Token)
behind_close_of None = None
behind_close_of (Some ts) = behind is_close_brace ts

abbrev pub behind_empty : List Token → Option (List Token)
behind_empty ts = behind_close_of (behind is_brace ts)

abbrev pub record_of : Pos → GconTree → List Token → Found AexpTree
record_of at (gcon.Con p n) ts = Some (aexp.Record at n, ts)
record_of at _ ts = None

abbrev pub con_at : List Token → Found AexpTree
con_at ts = and_then (gcon_at ts) (λ g rest. and_behind (behind_empty rest) (record_of (place ts) g) (Some (aexp.Con (place ts) g, rest)))

abbrev pub literal_by : Token → List Token → Sign → Found AexpTree
literal_by t ts k = cond (is_literal k) (Some (aexp.Literal t.at t, ts)) None

abbrev pub literal_at : List Token → Found AexpTree
literal_at ts = with_first ts None literal_by

abbrev pub var_atom_at : List Token → Found AexpTree
var_atom_at ts = and_then (qvar_at ts) (λ n rest. Some (aexp.Var (place ts) n, rest))

-- qvar | gcon | literal | qcon { }
abbrev pub atom_at : List Token → Found AexpTree
atom_at ts = or_else (var_atom_at ts) (or_else (con_at ts) (literal_at ts))

abbrev pub updated : Pos → AexpTree → List UpdateTree → AexpTree
updated at x [] = x
updated at x (u ∷ us) = aexp.Update at x (u ∷ us)

-- The type behind ::. At the end of a guard of an alternative the arrow behind the type is the alternative's, unless a
-- comma follows: then no arrow does.
abbrev pub guard_type_by : ℕ → List Token → QualifiedType → List Token → Found QualifiedType
guard_type_by n ts q rest = cond (begins is_comma rest) (Some (q, rest)) (qualified_tail n ts)

abbrev pub type_at : ℕ → Bool → List Token → Found QualifiedType
type_at n false ts = qualified_at n ts
type_at n true ts = or_else_by (qualified_at n ts) (guard_type_by n ts) (qualified_tail n ts)

-- an expression from its chain
abbrev pub typed_at : ℕ → Bool → Pos → Chain → List Token → Found ExprTree
typed_at n tail at c ts = cond c.is_open (Some (expr_tree at c.tree None, ts))
    (and_behind (behind is_typed ts) (λ rest. and_then (type_at n tail rest) (λ q end. Some (expr_tree at c.tree (Some q), end))) (Some (expr_tree at c.tree None, ts)))

-- let block(decl) in exp as a chain, and as an expression
abbrev pub let_chain : Pos → List DeclTree → ExprTree → ChainTree
let_chain at ds e = chain_tree at [] (last.Open at false (open_.Let at ds e))

abbrev pub let_exp : Pos → List DeclTree → ExprTree → ExprTree
let_exp at ds e = expr_tree at (let_chain at ds e) None

-- What was read, with the tokens behind it

abbrev pub found_pattern : PatTree → List Token → Found PatTree
found_pattern p ts = Some (p, ts)

abbrev pub found_var : Pos → NameRef → List Token → Found AexpTree
found_var at n ts = Some (aexp.Var at n, ts)

abbrev pub found_con : Pos → GconTree → List Token → Found AexpTree
found_con at g ts = Some (aexp.Con at g, ts)

abbrev pub found_literal : Token → List Token → Found AexpTree
found_literal t ts = Some (aexp.Literal t.at t, ts)

abbrev pub con_or_literal_at : List Token → Found AexpTree
con_or_literal_at ts = or_else (con_at ts) (literal_at ts)

abbrev pub found_typed : Pos → Chain → QualifiedType → List Token → Found ExprTree
found_typed at c q ts = Some (expr_tree at c.tree (Some q), ts)

abbrev pub found_plain : Pos → Chain → List Token → Found ExprTree
found_plain at c ts = Some (expr_tree at c.tree None, ts)

abbrev pub typed_behind : ℕ → Bool → Pos → Chain → List Token → Found ExprTree
typed_behind n tail at c ts = and_then (type_at n tail ts) (λ q end. Some (expr_tree at c.tree (Some q), end))

abbrev pub before_comma_at : ℕ → List Token → Found QualifiedType
before_comma_at n ts = and_then (qualified_at n ts) (λ q rest. cond (begins is_comma rest) (Some (q, rest)) None)

abbrev pub type_before_sign_at : ℕ → List Token → Found QualifiedType
type_before_sign_at n ts = or_else (before_comma_at n ts) (qualified_tail n ts)

abbrev pub found_sig : Pos → SigTree → List Token → Found DeclTree
found_sig at s ts = Some (decl.Sig at s, ts)

abbrev pub found_fix : Pos → FixTree → List Token → Found DeclTree
found_fix at f ts = Some (decl.Fix at f, ts)

abbrev pub found_range : Pos → ExprTree → Option ExprTree → List Token → Found AexpTree
found_range at e x ts = Some (aexp.Range at e x None, ts)

abbrev pub found_section : Pos → ChainTree → QopTree → List Token → Found AexpTree
found_section at c q ts = Some (aexp.LeftSection at c q, ts)

-- Trees from what was read

abbrev pub open_chain : Pos → List LinkTree → Pos → Bool → OpenTree → Chain
open_chain at ls p m x = record { tree = chain_tree at ls (last.Open p m x); is_open = true }

abbrev pub closed_chain : Pos → List LinkTree → Pos → Bool → ClosedTree → Chain
closed_chain at ls p m x = record { tree = chain_tree at ls (last.Closed p m x); is_open = false }

abbrev pub let_test : Pos → List DeclTree → ExprTree → Part
let_test at ds e = part.Test (let_exp at ds e)

abbrev pub case_operand : Pos → ExprTree → List AltTree → Operand
case_operand at e xs = operand.Closed (closed.Case at e xs)

abbrev pub do_operand : Pos → List StmtTree → Operand
do_operand at ss = operand.Closed (closed.Do at ss)

abbrev pub apply_operand : Pos → AexpTree → List AexpTree → Operand
apply_operand at h xs = operand.Closed (closed.Apply at h xs)

abbrev pub tuple_of : Pos → List ExprTree → AexpTree
tuple_of at es = aexp.Tuple at es

abbrev pub list_of : Pos → List ExprTree → AexpTree
list_of at es = aexp.List at es

abbrev pub range_of : Pos → ExprTree → Option ExprTree → Option ExprTree → AexpTree
range_of at e x z = aexp.Range at e x z

abbrev pub comprehension_of : Pos → ExprTree → List QualTree → AexpTree
comprehension_of at e qs = aexp.Comprehension at e qs

abbrev pub left_section_of : Pos → ChainTree → QopTree → AexpTree
left_section_of at c q = aexp.LeftSection at c q

abbrev pub right_section_of : Pos → QopTree → ChainTree → AexpTree
right_section_of at q c = aexp.RightSection at q c

abbrev pub let_guard_of : Pos → List DeclTree → GuardTree
let_guard_of at ds = guard.Let at ds

abbrev pub apply_of : Pos → AexpTree → List AexpTree → ClosedTree
apply_of at h xs = closed.Apply at h xs

abbrev pub bind_guard : Pos → PatTree → Chain → GuardTree
bind_guard at p c = guard.Bind at p c.tree

abbrev pub test_guard : Pos → ChainTree → GuardTree
test_guard at k = guard.Test at k

abbrev pub clause_decl : Pos → Clause → DeclTree
clause_decl at k = decl.Clause at k

abbrev pub qual_of : Pos → Part → QualTree
qual_of at (part.Bind p e) = qual.Bind at p e
qual_of at (part.Let ds) = qual.Let at ds
qual_of at (part.Test e) = qual.Test at e

abbrev pub stmt_of : Pos → Part → StmtTree
stmt_of at (part.Bind p e) = stmt.Bind at p e
stmt_of at (part.Let ds) = stmt.Let at ds
stmt_of at (part.Test e) = stmt.Exp at e

abbrev pub is_test : Part → Bool
is_test (part.Test e) = true
is_test _ = false

abbrev pub rhs_of : Pos → Body → RhsTree
rhs_of at (body.Plain e w) = rhs.Plain at e w
rhs_of at (body.Guarded xs w) = rhs.Guarded at xs w

abbrev pub alt_of : Pos → PatTree → Body → AltTree
alt_of at p (body.Plain e w) = alt.Plain at p e w
alt_of at p (body.Guarded xs w) = alt.Guarded at p xs w

abbrev pub sig_decl_at : ℕ → List Token → Found DeclTree
sig_decl_at n ts = and_then (sig_at n ts) (λ s rest. Some (decl.Sig (place ts) s, rest))

abbrev pub fix_decl_at : ℕ → List Token → Found DeclTree
fix_decl_at n ts = and_then (fix_at n ts) (λ f rest. Some (decl.Fix (place ts) f, rest))

-- sig | fix
abbrev pub plain_decl_at : ℕ → List Token → Found DeclTree
plain_decl_at n ts = or_else (sig_decl_at n ts) (fix_decl_at n ts)

-- Each function with its flags, the place at which its tree begins, what a loop has read so far, and the text. The first flag
-- is true at the end of a guard of an alternative, where a type may not take the arrow behind it; that of a block is true
-- where layout put its braces; that of arms and bodies is true in an alternative.
pub record Forms : Type 0 where
  pub exp : Bool → List Token → Found ExprTree
  pub chain : Bool → Pos → List LinkTree → List Token → Found Chain
  pub operand : Bool → List Token → Found Operand
  pub lambda : Bool → Pos → List Token → Found Operand
  pub let_in : Bool → Pos → List Token → Found Operand
  pub if_else : Bool → Pos → List Token → Found Operand
  pub case_of : Pos → List Token → Found Operand
  pub alts : Pos → ExprTree → Bool → List AltTree → List Token → Found Operand
  pub alt : List Token → Found AltTree
  -- whether the last statement is an expression
  pub stmts : Pos → Bool → List StmtTree → Bool → List Token → Found Operand
  pub apply : List Token → Found Operand
  pub args : Pos → AexpTree → List AexpTree → List Token → Found Operand
  pub aexp : List Token → Found AexpTree
  pub updates : Pos → AexpTree → List UpdateTree → List Token → Found AexpTree
  pub fbinds : List FbindTree → List Token → Found (List FbindTree)
  pub simple : List Token → Found AexpTree
  pub paren : Pos → List Token → Found AexpTree
  pub right : Pos → QopTree → List Token → Found AexpTree
  pub exps : List ExprTree → List Token → Found (List ExprTree)
  pub bracket : Pos → List Token → Found AexpTree
  pub listed : Pos → ExprTree → List Token → Found AexpTree
  pub second : Pos → ExprTree → List Token → Found AexpTree
  pub limit : Pos → ExprTree → Option ExprTree → List Token → Found AexpTree
  pub quals : List QualTree → List Token → Found (List QualTree)
  pub part : List Token → Found Part
  pub let_part : Pos → List Token → Found Part
  pub body : Bool → List Token → Found Body
  pub arms : Bool → List ArmTree → List Token → Found (List ArmTree)
  pub arm : Bool → List Token → Found ArmTree
  pub guards : Bool → List GuardTree → List Token → Found (List GuardTree)
  pub guard : Bool → List Token → Found GuardTree
  pub let_guard : Bool → Pos → List Token → Found GuardTree
  pub locals : List Token → Found (Option (List DeclTree))
  pub decls : Bool → List DeclTree → List Token → Found (List DeclTree)
  pub decl : List Token → Found DeclTree
  pub clause : List Token → Found Clause

abbrev pub chain_on : Forms → Bool → Pos → List LinkTree → Pos → Bool → Operand → List Token → Found Chain
chain_on r tail at ls p m (operand.Open x) ts = Some (record { tree = chain_tree at ls (last.Open p m x); is_open = true }, ts)
chain_on r tail at ls p m (operand.Closed x) ts = or_else_by (infix_at ts) (λ q rest. r.chain tail at (ls ++ link_tree p m x q ∷ []) rest)
    (Some (record { tree = chain_tree at ls (last.Closed p m x); is_open = false }, ts))

-- block(decl)
abbrev pub block_at : Forms → List Token → Found (List DeclTree)
block_at r ts = and_then (opened ts) (λ put rest. r.decls put [] rest)

abbrev pub operand_by : Forms → Bool → Token → List Token → Sign → Found Operand
operand_by r tail t ts Lambda = r.lambda tail t.at ts
operand_by r tail t ts Let = r.let_in tail t.at ts
operand_by r tail t ts If = r.if_else tail t.at ts
operand_by r tail t ts Case = r.case_of t.at ts
operand_by r tail t ts Do = and_then (opened ts) (λ put rest. r.stmts t.at put [] false rest)
operand_by r tail t ts _ = r.apply (t ∷ ts)

abbrev pub alts_by : Forms → Pos → ExprTree → Bool → List AltTree → List Token → Between → Found Operand
alts_by r at e put xs ts (End rest) = Some (operand.Closed (closed.Case at e xs), rest)
alts_by r at e put xs ts (Gap rest) = r.alts at e put xs rest
alts_by r at e put xs ts Neither = and_then (r.alt ts) (λ x rest. cond (begins (ends_item put) rest) (r.alts at e put (xs ++ x ∷ []) rest) None)

abbrev pub stmts_by : Forms → Pos → Bool → List StmtTree → Bool → List Token → Between → Found Operand
stmts_by r at put ss whole ts (End rest) = cond whole (Some (operand.Closed (closed.Do at ss), rest)) None
stmts_by r at put ss whole ts (Gap rest) = r.stmts at put ss whole rest
stmts_by r at put ss whole ts Neither = and_then (r.part ts) (λ p rest. cond (begins (ends_item put) rest) (r.stmts at put (ss ++ stmt_of (place ts) p ∷ []) (is_test p) rest) None)

abbrev pub decls_by : Forms → Bool → List DeclTree → List Token → Between → Found (List DeclTree)
decls_by r put ds ts (End rest) = Some (ds, rest)
decls_by r put ds ts (Gap rest) = r.decls put ds rest
decls_by r put ds ts Neither = and_then (r.decl ts) (λ d rest. cond (begins (ends_item put) rest) (r.decls put (ds ++ d ∷ []) rest) None)

abbrev pub fbinds_on : Forms → List FbindTree → List Token → Found (List FbindTree)
fbinds_on r fs ts = and_behind (behind is_comma ts) (r.fbinds fs) (Some (fs, ts))

abbrev pub simple_by : Forms → Token → List Token → Sign → Found AexpTree
simple_by r t ts OpenParen = r.paren t.at ts
simple_by r t ts OpenSquare = r.bracket t.at ts
simple_by r t ts _ = None

-- expressions in parentheses, once the first are read
abbrev pub tuple_at : Forms → Pos → List ExprTree → List Token → Found AexpTree
tuple_at r at es ts = and_then (r.exps es ts) (λ all end. with_sign (behind is_close_paren end) (aexp.Tuple at all))

-- what stands in parentheses and is no right section
abbrev pub inside_at : Forms → ℕ → Pos → List Token → Found AexpTree
inside_at r n at ts = and_then (r.chain false (place ts) [] ts) (λ c rest. or_else_by (section_end_at rest) (λ q end. Some (aexp.LeftSection at c.tree q, end))
    (and_then (typed_at n false (place ts) c rest) (λ e more. tuple_at r at (e ∷ []) more)))

-- the same from behind the first expression on
abbrev pub tuple_from : Forms → Pos → ExprTree → List Token → Found AexpTree
tuple_from r at e ts = tuple_at r at (e ∷ []) ts

-- a list, once its first expressions are read
abbrev pub list_at : Forms → Pos → List ExprTree → List Token → Found AexpTree
list_at r at es ts = and_then (r.exps es ts) (λ all end. with_sign (behind is_close_square end) (aexp.List at all))

abbrev pub lone_list_at : Pos → ExprTree → List Token → Found AexpTree
lone_list_at at e ts = with_sign (behind is_close_square ts) (aexp.List at (e ∷ []))

abbrev pub comprehension_at : Forms → Pos → ExprTree → List Token → Found AexpTree
comprehension_at r at e ts = and_then (r.quals [] ts) (λ qs end. with_sign (behind is_close_square end) (aexp.Comprehension at e qs))

abbrev pub listed_by : Forms → Pos → ExprTree → Token → List Token → Sign → Found AexpTree
listed_by r at e t ts Bar = comprehension_at r at e ts
listed_by r at e t ts Dots = r.limit at e None ts
listed_by r at e t ts Comma = r.second at e ts
listed_by r at e t ts _ = lone_list_at at e (t ∷ ts)

-- pattern <- exp | exp
abbrev pub exp_part_at : Forms → ℕ → List Token → Found Part
exp_part_at r n ts = or_else_by (bound_at n ts) (λ p rest. and_then (r.exp false rest) (λ e end. Some (part.Bind p e, end))) (and_then (r.exp false ts) (λ e end. Some (part.Test e, end)))

-- pattern <- chain | chain
abbrev pub chain_guard_at : Forms → ℕ → Bool → Pos → List Token → Found GuardTree
chain_guard_at r n s at ts = or_else_by (bound_at n ts) (λ p rest. and_then (r.chain s (place rest) [] rest) (λ c end. Some (bind_guard at p c, end)))
    (and_then (r.chain s (place ts) [] ts) (λ c end. Some (test_guard at c.tree, end)))

abbrev pub part_by : Forms → ℕ → Token → List Token → Sign → Found Part
part_by r n t ts Let = r.let_part t.at ts
part_by r n t ts _ = exp_part_at r n (t ∷ ts)

abbrev pub guard_by : Forms → ℕ → Bool → Token → List Token → Sign → Found GuardTree
guard_by r n s t ts Let = r.let_guard s t.at ts
guard_by r n s t ts _ = chain_guard_at r n s t.at (t ∷ ts)

abbrev pub no_forms : Forms
no_forms = record {
  exp = λ tail ts. None;
  chain = λ tail at ls ts. None;
  operand = λ tail ts. None;
  lambda = λ tail at ts. None;
  let_in = λ tail at ts. None;
  if_else = λ tail at ts. None;
  case_of = λ at ts. None;
  alts = λ at e put xs ts. None;
  alt = λ ts. None;
  stmts = λ at put ss whole ts. None;
  apply = λ ts. None;
  args = λ at h xs ts. None;
  aexp = λ ts. None;
  updates = λ at x us ts. None;
  fbinds = λ fs ts. None;
  simple = λ ts. None;
  paren = λ at ts. None;
  right = λ at q ts. None;
  exps = λ es ts. None;
  bracket = λ at ts. None;
  listed = λ at e ts. None;
  second = λ at e ts. None;
  limit = λ at e x ts. None;
  quals = λ qs ts. None;
  part = λ ts. None;
  let_part = λ at ts. None;
  body = λ s ts. None;
  arms = λ s xs ts. None;
  arm = λ s ts. None;
  guards = λ s gs ts. None;
  guard = λ s ts. None;
  let_guard = λ s at ts. None;
  locals = λ ts. None;
  decls = λ put ds ts. None;
  decl = λ ts. None;
  clause = λ ts. None;
}

abbrev pub next_forms : ℕ → Forms → Forms
next_forms n r = record {
  exp = λ tail ts. and_then (r.chain tail (place ts) [] ts) (typed_at n tail (place ts));
  chain = λ tail at ls ts. and_then (r.operand tail (after is_minus ts)) (chain_on r tail at ls (place ts) (begins is_minus ts));
  operand = λ tail ts. with_first ts None (operand_by r tail);
  lambda = λ tail at ts. and_then (arguments_at n ts) (λ ps rest. and_then (r.exp tail rest) (λ e end. Some (operand.Open (open_.Lambda at ps e), end)));
  let_in = λ tail at ts. and_then (block_at r ts) (λ ds rest. and_behind (behind is_in rest) (λ more. and_then (r.exp tail more) (λ e end. Some (operand.Open (open_.Let at ds e), end))) None);
  if_else = λ tail at ts. and_then (r.exp false ts) (λ x rest. and_behind (behind_then rest) (λ more. and_then (r.exp false more) (λ y next. and_behind (behind_else next) (λ other. and_then (r.exp tail other) (λ z end. Some (operand.Open (open_.If at x y z), end))) None)) None);
  case_of = λ at ts. and_then (r.exp false ts) (λ e rest. and_behind (behind is_of rest) (λ more. and_then (opened more) (λ put next. r.alts at e put [] next)) None);
  alts = λ at e put xs ts. alts_by r at e put xs ts (between put ts);
  alt = λ ts. and_then (pattern_at n ts) (λ p rest. and_then (r.body true rest) (λ b end. Some (alt_of (place ts) p b, end)));
  stmts = λ at put ss whole ts. stmts_by r at put ss whole ts (between put ts);
  apply = λ ts. and_then (r.aexp ts) (λ x rest. r.args (place ts) x [] rest);
  args = λ at h xs ts. cond (begins aexp_begins ts) (and_then (r.aexp ts) (λ x rest. r.args at h (xs ++ x ∷ []) rest)) (Some (operand.Closed (apply_of at h xs), ts));
  aexp = λ ts. and_then (r.simple ts) (λ x rest. r.updates (place ts) x [] rest);
  updates = λ at x us ts. and_behind (behind is_brace ts) (λ rest. and_then (r.fbinds [] rest) (λ fs more. and_behind (behind is_close_brace more) (λ end. r.updates at x (us ++ update_tree (place ts) fs ∷ []) end) None)) (Some (updated at x us, ts));
  fbinds = λ fs ts. and_then (qvar_at ts) (λ n rest. and_behind (behind is_equals rest) (λ more. and_then (r.exp false more) (λ e end. fbinds_on r (fs ++ fbind_tree (place ts) n e ∷ []) end)) None);
  simple = λ ts. or_else (atom_at ts) (with_first ts None (simple_by r));
  paren = λ at ts. or_else_by (section_start_at ts) (λ q rest. r.right at q rest) (inside_at r n at ts);
  right = λ at q ts. and_then (r.chain false (place ts) [] ts) (λ c rest. with_sign (behind is_close_paren rest) (aexp.RightSection at q c.tree));
  exps = λ es ts. and_behind (behind is_comma ts) (λ rest. and_then (r.exp false rest) (λ e end. r.exps (es ++ e ∷ []) end)) (Some (es, ts));
  bracket = λ at ts. and_then (r.exp false ts) (λ e rest. r.listed at e rest);
  listed = λ at e ts. with_first ts None (listed_by r at e);
  second = λ at e ts. and_then (r.exp false ts) (λ x rest. and_behind (behind is_dots rest) (λ more. r.limit at e (Some x) more) (list_at r at (e ∷ x ∷ []) rest));
  limit = λ at e x ts. and_behind (behind is_close_square ts) (λ rest. Some (aexp.Range at e x None, rest)) (and_then (r.exp false ts) (λ z rest. with_sign (behind is_close_square rest) (aexp.Range at e x (Some z))));
  quals = λ qs ts. and_then (r.part ts) (λ p rest. and_behind (behind is_comma rest) (λ more. r.quals (qs ++ qual_of (place ts) p ∷ []) more) (Some (qs ++ qual_of (place ts) p ∷ [], rest)));
  part = λ ts. with_first ts None (part_by r n);
  let_part = λ at ts. and_then (block_at r ts) (λ ds rest. and_behind (behind is_in rest) (λ more. and_then (r.exp false more) (λ e end. Some (part.Test (let_exp at ds e), end))) (Some (part.Let ds, rest)));
  body = λ s ts. and_behind (behind (is_body s) ts) (λ rest. and_then (r.exp false rest) (λ e more. and_then (r.locals more) (λ w end. Some (body.Plain e w, end))))
      (and_then (r.arms s [] ts) (λ xs more. and_then (r.locals more) (λ w end. Some (body.Guarded xs w, end))));
  arms = λ s xs ts. and_then (r.arm s ts) (λ x rest. cond (begins is_bar rest) (r.arms s (xs ++ x ∷ []) rest) (Some (xs ++ x ∷ [], rest)));
  arm = λ s ts. and_behind (behind is_bar ts) (λ rest. and_then (r.guards s [] rest) (λ gs next. and_behind (behind (is_body s) next) (λ more. and_then (r.exp false more) (λ e end. Some (arm_tree (place ts) gs e, end))) None)) None;
  guards = λ s gs ts. and_then (r.guard s ts) (λ g rest. and_behind (behind is_comma rest) (λ more. r.guards s (gs ++ g ∷ []) more) (Some (gs ++ g ∷ [], rest)));
  guard = λ s ts. with_first ts None (guard_by r n s);
  let_guard = λ s at ts. and_then (block_at r ts) (λ ds rest. and_behind (behind is_in rest) (λ more. and_then (r.exp s more) (λ e end. Some (test_guard at (let_chain at ds e), end))) (Some (guard.Let at ds, rest)));
  locals = λ ts. and_behind (behind is_where ts) (λ rest. and_then (block_at r rest) (λ ds end. Some (Some ds, end))) (Some (None, ts));
  decls = λ put ds ts. decls_by r put ds ts (between put ts);
  decl = λ ts. or_else (plain_decl_at n ts) (and_then (r.clause ts) (λ k rest. Some (clause_decl (place ts) k, rest)));
  clause = λ ts. and_then (side_at ts) (λ l rest. and_then (r.body false rest) (λ b end. Some (clause (place ts) l (rhs_of (place rest) b), end)));
}

unfoldable pub forms : ℕ → Forms
forms zero = no_forms
forms (suc n) = next_forms n (forms n)
