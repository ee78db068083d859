-- What is derived in blocks, and as a qualifier, a guard or a body, is read as it.
use Rattle.std.proofs.Common.{◌≡◌, inl, inr, ℕ, suc, ◌+◌, ◌*◌, ◌<◌, ◌≤◌, Bool, true, false, List, [], ◌∷◌, ◌++◌, length, Option, Some, None, refl, sym, ap, ◌∙◌, append_assoc, arith}
use Rattle.std.proofs.lemmas.List.{append-nil}
use Rattle.mk_base.specs.declared.place.Pos.{Pos}
use Rattle.hs_syntax.specs.declared.token.Token.{Token}
use Rattle.hs_syntax.specs.declared.sign.Sign.{Sign}
use Rattle.hs_syntax.specs.declared.sign.Sign.TheVariants.{Minus, CloseBrace, CloseSquare, Semicolon, Comma, Case, Do, If, In, Let, Where, Equals, Lambda, Bar, Back}
use Rattle.hs_syntax.specs.declared.pattern_tree.PatTree.{PatTree}
use Rattle.hs_syntax.specs.declared.expr_tree.ExprTree.{ExprTree}
use Rattle.hs_syntax.specs.declared.expr_tree.LinkTree.{LinkTree}
use Rattle.hs_syntax.specs.declared.expr_tree.ChainTree.{ChainTree}
use Rattle.hs_syntax.specs.declared.expr_tree.LastTree.{LastTree}
use Rattle.hs_syntax.specs.declared.expr_tree.LastTree.TheVariants as last
use Rattle.hs_syntax.specs.declared.expr_tree.OpenTree.{OpenTree}
use Rattle.hs_syntax.specs.declared.expr_tree.OpenTree.TheVariants as wide
use Rattle.hs_syntax.specs.declared.expr_tree.ClosedTree.{ClosedTree}
use Rattle.hs_syntax.specs.declared.expr_tree.ClosedTree.TheVariants as shut
use Rattle.hs_syntax.specs.declared.expr_tree.AltTree.{AltTree}
use Rattle.hs_syntax.specs.declared.expr_tree.ArmTree.{ArmTree}
use Rattle.hs_syntax.specs.declared.expr_tree.GuardTree.{GuardTree}
use Rattle.hs_syntax.specs.declared.expr_tree.GuardTree.TheVariants as watch
use Rattle.hs_syntax.specs.declared.expr_tree.QualTree.{QualTree}
use Rattle.hs_syntax.specs.declared.expr_tree.StmtTree.{StmtTree}
use Rattle.hs_syntax.specs.declared.expr_tree.StmtTree.TheVariants as step
use Rattle.hs_syntax.specs.declared.expr_tree.DeclTree.{DeclTree}
use Rattle.hs_syntax.specs.declared.expr_tree.DeclTree.TheVariants as form
use Rattle.hs_syntax.specs.declared.expr_tree.Clause.{Clause}
use Rattle.hs_syntax.specs.Signs.{sign_of}
use Rattle.hs_syntax.specs.Made.{expr_tree, chain_tree}
use Rattle.hs_syntax.specs.Reading.{Found, and_then, with_first, begins, is_comma, is_equals, is_arrow, is_back, is_bar, is_in, is_where}
use Rattle.hs_parts.specs.Names.{place}
use Rattle.hs_parts.specs.Grammar.{IsPattern}
use Rattle.hs_parts.specs.PatternReaders.{pattern_at}
use Rattle.hs_parts.specs.SideReaders.{side_at}
use Rattle.hs_parts.specs.SigReaders.{sig_at, fix_at}
use Rattle.hs_parts.proofs.TypesComplete.{type_goes_on}
use Rattle.expr_parts.specs.declared.piece.Chain.{Chain}
use Rattle.expr_parts.specs.declared.piece.Operand.{Operand}
use Rattle.expr_parts.specs.declared.piece.Operand.TheVariants as item
use Rattle.expr_parts.specs.declared.piece.Part.{Part}
use Rattle.expr_parts.specs.declared.piece.Part.TheVariants as piece
use Rattle.expr_parts.specs.declared.piece.Body.{Body}
use Rattle.expr_parts.specs.declared.piece.Body.TheVariants as trunk
use Rattle.expr_parts.specs.Grammar.{NoMinus, AMinus, IsGaps, NoGaps, MoreGaps, IsExp, PlainExp, TypedExp, IsChain, LinkedChain, IsLinks, LastClosed, LastOpen, MoreLinks, IsOpen, LambdaOpen, LetOpen, IfOpen, IsClosed, CaseClosed, DoClosed, ApplyClosed, IsQuals, LastQual, MoreQuals, IsQual, BindQual, LetQual, TestQual, IsGuards, LastGuard, MoreGuards, IsGuard, BindGuard, LetGuard, TestGuard, IsArms, LastArm, MoreArms, IsArm, GuardedArm, IsWhere, NoWhere, AWhere, PlainRhs, GuardedRhs, IsAlt, PlainAlt, GuardedAlt, IsAlts, EndAlts, GapAlts, ItemAlts, IsStmt, ExpStmt, BindStmt, LetStmt, IsStmts, GapStmts, LastStmt, MoreStmts, IsDeclBlock, IsDecls, EndDecls, GapDecls, ItemDecls, IsDecl, SigDecl, FixDecl, ClauseDecl, IsClause, SidesClause}
use Rattle.expr_parts.specs.Expressions.{Forms, is_body, aexp_begins, closes, ends_item, Gap, End, Neither, between, between_by, bound_at, block_at, alts_by, stmts_by, decls_by, qual_of, stmt_of, is_test, sig_decl_at, fix_decl_at, plain_decl_at, exp_part_at, chain_guard_at, part_by, guard_by, next_forms}
use Rattle.expr_parts.proofs.PartsComplete.{Parts, ends_pattern, ends_lhs}
use Rattle.hs_parts.proofs.PatternsComplete.{pattern_shorter}
use Rattle.hs_parts.proofs.SidesComplete.{lhs_shorter}
use Rattle.expr_parts.proofs.Shorter.{exp_shorter, guard_shorter, guards_shorter, arm_shorter, arms_shorter, qual_shorter, alt_shorter, stmt_shorter, decl_shorter, decl_block_shorter}
use Rattle.expr_parts.proofs.First.{exp_first, chain_first, stop, back_first}
use Rattle.expr_parts.proofs.Derived.{body_sign, PartOf, BindPart, LetPart, TestPart, BodyOf, PlainBody, GuardedBody}
use Rattle.expr_parts.proofs.Starts.{false_true, side_begins, pattern_start, aexp_start, exp_start, exp_item, pattern_item, alt_item, decl_item, is_separator, lift}
use Rattle.expr_parts.proofs.Ends.{ChainEnds, PartEnds, GuardEnd, BodyArrow, goes_on_body, goes_on_item, ends_guard, ends_part, chain_ends, guard_ends, guard_no_in, guard_keeps, body_ends, item_body_at, item_end, item_ends, part_ends, unbound, arms_start, is_mid, rhs_start, clause_no_sig, clause_no_fix, fix_no_sig}
use Rattle.expr_parts.proofs.Read.{CompleteForms, chained, then_is, or_is, or_not, else_is, else_not, past, beside, signed, if_so, if_not}
use Rattle.expr_parts.proofs.ChainComplete.{block_read}

-- one sort of signs in another
pub raise : (p q : Sign → Bool) → ((k : Sign) → p k ≡ true → q k ≡ true) → (a : List Token) → begins p a ≡ true → begins q a ≡ true
raise p q f [] e = e
raise p q f (t ∷ a) e = f (sign_of t) e

lower : (p q : Sign → Bool) → ((k : Sign) → p k ≡ false → q k ≡ false) → (a : List Token) → begins p a ≡ false → begins q a ≡ false
lower p q f [] e = e
lower p q f (t ∷ a) e = f (sign_of t) e

-- What stands between items

closes_same : (put : Bool) → closes put (CloseBrace put) ≡ true
closes_same true = refl
closes_same false = refl

between_end : (put : Bool) (t : Token) (a : List Token) → sign_of t ≡ CloseBrace put → between put (t ∷ a) ≡ End a
between_end put t a e = ap (between_by put a) e ∙ if_so (closes put (CloseBrace put)) (End a) Neither (closes_same put)

between_gap : (put : Bool) (t : Token) (a : List Token) → sign_of t ≡ Semicolon → between put (t ∷ a) ≡ Gap a
between_gap put t a e = ap (between_by put a) e

closes_not : (put : Bool) (k : Sign) → is_separator k ≡ false → closes put k ≡ false
closes_not true (CloseBrace true) e = absurd (false_true (sym e))
closes_not false (CloseBrace false) e = absurd (false_true (sym e))
closes_not true (CloseBrace false) e = refl
closes_not false (CloseBrace true) e = refl
closes_not true _ e = refl
closes_not false _ e = refl

neither_by : (put : Bool) (a : List Token) (k : Sign) → is_separator k ≡ false → between_by put a k ≡ Neither
neither_by put a Semicolon e = absurd (false_true (sym e))
neither_by put a k e = if_not (closes put k) (End a) Neither (closes_not put k e)

neither : (put : Bool) (a : List Token) → begins is_separator a ≡ false → between put a ≡ Neither
neither put [] e = refl
neither put (t ∷ a) e = neither_by put a (sign_of t) e

-- Alternatives

pub alts_complete : (n : ℕ) (r : Forms) → CompleteForms n r → {put : Bool} {a b : List Token} {xs : List AltTree} → IsAlts put a b xs → 8 * length a + 12 ≤ suc n → (at : Pos) (e : ExprTree) (ys : List AltTree)
    → (next_forms n r).alts at e put ys a ≡ Some (item.Closed (shut.Case at e (ys ++ xs)), b)
alts_complete n r c (EndAlts {put = put} {a = a} {t = t} f) h at e ys =
    ap (alts_by r at e put ys (t ∷ a)) (between_end put t a f) ∙ ap (λ l. let z : Found Operand = Some (item.Closed (shut.Case at e l), a) in z) (sym (append-nil ys))
alts_complete n r c (GapAlts {put = put} {a = a} {t = t} f x) h at e ys =
    let k : 8 * length a + 12 ≤ n = omega arith in ap (alts_by r at e put ys (t ∷ a)) (between_gap put t a f) ∙ c.alts x k at e ys
alts_complete n r c (ItemAlts {put = put} {a = a} {b = b} {c = z} {t = t} {x = x} {xs = xs} d f y) h at e ys =
    let k : 8 * length a + 11 ≤ n = omega arith in
    let s : length (t ∷ b) < length a = alt_shorter d in
    let m : 8 * length (t ∷ b) + 12 ≤ n = omega arith in
    ap (alts_by r at e put ys a) (neither put a (alt_item d)) ∙ then_is (r.alt a) _ x (t ∷ b) (c.alt d (item_end put (sign_of t) f) k)
    ∙ if_so (begins (ends_item put) (t ∷ b)) _ _ (item_ends put (sign_of t) f) ∙ c.alts y m at e (ys ++ x ∷ [])
    ∙ ap (λ l. let v : Found Operand = Some (item.Closed (shut.Case at e l), z) in v) (append_assoc ys (x ∷ []) xs)

bar_pattern : (k : Sign) → is_bar k ≡ true → ends_pattern k ≡ true
bar_pattern Bar e = refl
bar_pattern _ e = absurd (false_true e)

pub alt_complete : (p : Parts) (n : ℕ) (r : Forms) → CompleteForms n r → {a b : List Token} {x : AltTree} → IsAlt a b x → begins goes_on_item b ≡ false → 8 * length a + 11 ≤ suc n → (next_forms n r).alt a ≡ Some (x, b)
alt_complete p n r c (PlainAlt {a = a} {b = b} {d = d} {t = t} {p = v} {e = e} {w = w} x f y z) ends h =
    let k : 8 * length a + 8 ≤ n = omega arith in
    let s : length (t ∷ b) < length a = pattern_shorter x in
    let m : 8 * length (t ∷ b) + 13 ≤ n = omega arith in
    then_is (pattern_at n a) _ v (t ∷ b) (p.complete.pattern n x (ap ends_pattern f) k) ∙ then_is (r.body true (t ∷ b)) _ (trunk.Plain e w) d (c.body (PlainBody {s = true} {t = t} f y z) ends m)
alt_complete p n r c (GuardedAlt {a = a} {b = b} {d = d} {p = v} {xs = xs} {w = w} x y z) ends h =
    let k : 8 * length a + 8 ≤ n = omega arith in
    let s : length b < length a = pattern_shorter x in
    let m : 8 * length b + 13 ≤ n = omega arith in
    then_is (pattern_at n a) _ v b (p.complete.pattern n x (raise is_bar ends_pattern bar_pattern b (arms_start y)) k) ∙ then_is (r.body true b) _ (trunk.Guarded xs w) d (c.body (GuardedBody {s = true} y z) ends m)

-- Bodies

body_test : (s : Bool) (k : Sign) → k ≡ body_sign s → is_body s k ≡ true
body_test true k e = ap is_arrow e
body_test false k e = ap is_equals e

bar_body : (s : Bool) (k : Sign) → is_bar k ≡ true → is_body s k ≡ false
bar_body true Bar e = refl
bar_body false Bar e = refl
bar_body true _ e = absurd (false_true e)
bar_body false _ e = absurd (false_true e)

bar_goes : (k : Sign) → is_bar k ≡ true → goes_on_body k ≡ false
bar_goes Bar e = refl
bar_goes _ e = absurd (false_true e)

item_no_bar : (k : Sign) → goes_on_item k ≡ false → is_bar k ≡ false
item_no_bar Bar e = absurd (false_true (sym e))
item_no_bar _ e = refl

item_no_where : (k : Sign) → goes_on_item k ≡ false → is_where k ≡ false
item_no_where Where e = absurd (false_true (sym e))
item_no_where _ e = refl

where_body : {b c : List Token} {w : Option (List DeclTree)} → IsWhere b c w → begins goes_on_item c ≡ false → begins goes_on_body b ≡ false
where_body (NoWhere {a = a}) e = item_body_at a e
where_body (AWhere f x) e = ap goes_on_body f

where_bar : {b c : List Token} {w : Option (List DeclTree)} → IsWhere b c w → begins goes_on_item c ≡ false → begins is_bar b ≡ false
where_bar (NoWhere {a = a}) e = lower goes_on_item is_bar item_no_bar a e
where_bar (AWhere f x) e = ap is_bar f

pub locals_complete : (n : ℕ) (r : Forms) → CompleteForms n r → {a b : List Token} {w : Option (List DeclTree)} → IsWhere a b w → begins goes_on_item b ≡ false → 8 * length a + 11 ≤ suc n → (next_forms n r).locals a ≡ Some (w, b)
locals_complete n r c (NoWhere {a = a}) e h = beside is_where a _ _ (lower goes_on_item is_where item_no_where a e)
locals_complete n r c (AWhere {a = a} {b = b} {t = t} {ds = ds} f x) e h =
    let k : 8 * length a + 5 ≤ n = omega arith in past is_where t a _ _ (ap is_where f) ∙ then_is (block_at r a) _ ds b (block_read n r c x k)

pub body_complete : (p : Parts) (n : ℕ) (r : Forms) → CompleteForms n r → {s : Bool} {a b : List Token} {x : Body} → BodyOf s a b x → begins goes_on_item b ≡ false → 8 * length a + 13 ≤ suc n → (next_forms n r).body s a ≡ Some (x, b)
body_complete p n r c (PlainBody {s = s} {a = a} {b = b} {c = z} {t = t} {e = e} {w = w} f x y) ends h =
    let k : 8 * length a + 16 ≤ n = omega arith in
    let l : length b < length a = exp_shorter x in
    let m : 8 * length b + 11 ≤ n = omega arith in
    past (is_body s) t a _ _ (body_test s (sign_of t) f) ∙ then_is (r.exp false a) _ e b (c.exp false x (body_ends p.sound b (where_body y ends)) k) ∙ then_is (r.locals b) _ w z (c.locals y ends m)
body_complete p n r c (GuardedBody {s = s} {a = a} {b = b} {c = z} {xs = xs} {w = w} x y) ends h =
    let k : 8 * length a + 12 ≤ n = omega arith in
    let l : length b < length a = arms_shorter x in
    let m : 8 * length b + 11 ≤ n = omega arith in
    beside (is_body s) a _ _ (lift is_bar (is_body s) (bar_body s) a (arms_start x)) ∙ then_is (r.arms s [] a) _ xs b (c.arms s x (where_body y ends) (where_bar y ends) k []) ∙ then_is (r.locals b) _ w z (c.locals y ends m)

pub arms_complete : (n : ℕ) (r : Forms) → CompleteForms n r → (s : Bool) {a b : List Token} {xs : List ArmTree} → IsArms (body_sign s) a b xs → begins goes_on_body b ≡ false → begins is_bar b ≡ false → 8 * length a + 12 ≤ suc n
    → (ys : List ArmTree) → (next_forms n r).arms s ys a ≡ Some (ys ++ xs, b)
arms_complete n r c s (LastArm {a = a} {b = b} {x = x} d) e f h ys =
    let k : 8 * length a + 11 ≤ n = omega arith in then_is (r.arm s a) _ x b (c.arm s d e k) ∙ if_not (begins is_bar b) _ _ f
arms_complete n r c s (MoreArms {a = a} {b = b} {c = z} {x = x} {xs = xs} d y) e f h ys =
    let k : 8 * length a + 11 ≤ n = omega arith in
    let l : length b < length a = arm_shorter d in
    let m : 8 * length b + 12 ≤ n = omega arith in
    then_is (r.arm s a) _ x b (c.arm s d (lift is_bar goes_on_body bar_goes b (arms_start y)) k) ∙ if_so (begins is_bar b) _ _ (arms_start y) ∙ c.arms s y e f m (ys ++ x ∷ [])
    ∙ ap (λ l. let v : Found (List ArmTree) = Some (l, z) in v) (append_assoc ys (x ∷ []) xs)

arm_guard : (s : Bool) (w : Token) {b z : List Token} {e : ExprTree} → sign_of w ≡ body_sign s → IsExp b z e → begins goes_on_body z ≡ false → GuardEnd s (w ∷ b)
arm_guard true w f x e = inr (BodyArrow {w = w} f x e)
arm_guard false w f x e = ap ends_guard f

body_no_comma : (s : Bool) (k : Sign) → k ≡ body_sign s → is_comma k ≡ false
body_no_comma true k e = ap is_comma e
body_no_comma false k e = ap is_comma e

pub arm_complete : (p : Parts) (n : ℕ) (r : Forms) → CompleteForms n r → (s : Bool) {a b : List Token} {x : ArmTree} → IsArm (body_sign s) a b x → begins goes_on_body b ≡ false → 8 * length a + 11 ≤ suc n → (next_forms n r).arm s a ≡ Some (x, b)
arm_complete p n r c s (GuardedArm {a = a} {b = b} {c = z} {t = t} {w = w} {gs = gs} {e = e} f x g y) ends h =
    let k : 8 * length a + 17 ≤ n = omega arith in
    let l : length (w ∷ b) < length a = guards_shorter x in
    let m : 8 * length b + 16 ≤ n = omega arith in
    past is_bar t a _ _ (ap is_bar f) ∙ then_is (r.guards s [] a) _ gs (w ∷ b) (c.guards s x (arm_guard s w g y ends) (body_no_comma s (sign_of w) g) k [])
    ∙ past (is_body s) w b _ _ (body_test s (sign_of w) g) ∙ then_is (r.exp false b) _ e z (c.exp false y (body_ends p.sound z ends) m)

-- Guards

comma_guard : (s : Bool) (m : Token) (b : List Token) → sign_of m ≡ Comma → GuardEnd s (m ∷ b)
comma_guard true m b e = inl (ap is_comma e)
comma_guard false m b e = ap ends_guard e

pub guards_complete : (n : ℕ) (r : Forms) → CompleteForms n r → (s : Bool) {w : Token} {a b : List Token} {gs : List GuardTree} → IsGuards a (w ∷ b) gs → GuardEnd s (w ∷ b) → is_comma (sign_of w) ≡ false → 8 * length a + 17 ≤ suc n
    → (ys : List GuardTree) → (next_forms n r).guards s ys a ≡ Some (ys ++ gs, w ∷ b)
guards_complete n r c s {w = w} {b = b} (LastGuard {a = a} {g = g} x) e f h ys =
    let k : 8 * length a + 16 ≤ n = omega arith in then_is (r.guard s a) _ g (w ∷ b) (c.guard s x e k) ∙ beside is_comma (w ∷ b) _ _ f
guards_complete n r c s {w = w} {b = z} (MoreGuards {a = a} {b = b} {m = m} {g = g} {gs = gs} x i y) e f h ys =
    let k : 8 * length a + 16 ≤ n = omega arith in
    let l : length (m ∷ b) < length a = guard_shorter x in
    let j : 8 * length b + 17 ≤ n = omega arith in
    then_is (r.guard s a) _ g (m ∷ b) (c.guard s x (comma_guard s m b i) k) ∙ past is_comma m b _ _ (ap is_comma i) ∙ c.guards s y e f j (ys ++ g ∷ [])
    ∙ ap (λ l. let v : Found (List GuardTree) = Some (l, w ∷ z) in v) (append_assoc ys (g ∷ []) gs)

bound_read : (p : Parts) (n : ℕ) {w : Token} {a b : List Token} {x : PatTree} → IsPattern a (w ∷ b) x → sign_of w ≡ Back → 8 * length a + 8 ≤ n → bound_at n a ≡ Some (x, b)
bound_read p n {w = w} {a = a} {b = b} {x = x} d e h = then_is (pattern_at n a) _ x (w ∷ b) (p.complete.pattern n d (ap ends_pattern e) h) ∙ signed is_back w b x (ap is_back e)

abbrev is_let : Sign → Bool
is_let Let = true
is_let _ = false

let_is : (k : Sign) → is_let k ≡ false → k ≡ Let → ⊥
let_is k e f = false_true (sym e ∙ ap is_let f)

abbrev chain_of : ChainTree → Bool → Chain
chain_of k o = record { tree = k; is_open = o }

chain_read : (n : ℕ) (r : Forms) → CompleteForms n r → (tail : Bool) {o : Bool} {a b : List Token} {k : ChainTree} → IsChain o a b k → ChainEnds o tail b → 8 * length a + 15 ≤ n → r.chain tail (place a) [] a ≡ Some (chain_of k o, b)
chain_read n r c tail (LinkedChain {a = a} d) ends h = c.links tail d ends h (place a) []

chain_guard_read : (p : Parts) (n : ℕ) (r : Forms) → CompleteForms n r → (s : Bool) {t : Token} {a b : List Token} {x : GuardTree} → IsGuard (t ∷ a) b x → is_let (sign_of t) ≡ false → GuardEnd s b → 8 * length (t ∷ a) + 16 ≤ suc n
    → chain_guard_at r n s t.at (t ∷ a) ≡ Some (x, b)
chain_guard_read p n r c s {t = t} {a = a} {b = z} (BindGuard {o = o} {b = b} {w = w} {p = v} {k = x} y f d) e ends h =
    let k : 8 * length (t ∷ a) + 8 ≤ n = omega arith in
    let l : length (w ∷ b) < length (t ∷ a) = pattern_shorter y in
    let m : 8 * length b + 15 ≤ n = omega arith in
    or_is (bound_at n (t ∷ a)) _ _ v b (bound_read p n y f k) ∙ then_is (r.chain s (place b) [] b) _ (chain_of x o) z (chain_read n r c s d (chain_ends o s z (guard_ends p.sound s z ends)) m)
chain_guard_read p n r c s (LetGuard {t = t} f x) e ends h = absurd (let_is (sign_of t) e f)
chain_guard_read p n r c s {t = t} {a = a} {b = z} (TestGuard {o = o} (LinkedChain {ls = ls} {x = x} d)) e ends h =
    let k : 8 * length (t ∷ a) + 15 ≤ n = omega arith in
    or_not (bound_at n (t ∷ a)) _ _ (unbound p.sound n (t ∷ a) (chain_first stop is_back back_first (LinkedChain d) (guard_keeps s z ends)))
    ∙ then_is (r.chain s t.at [] (t ∷ a)) _ (chained t.at ls x o) z (c.links s d (chain_ends o s z (guard_ends p.sound s z ends)) k t.at [])

guard_kind : (p : Parts) (n : ℕ) (r : Forms) → CompleteForms n r → (s : Bool) (t : Token) (a b : List Token) (x : GuardTree) → IsGuard (t ∷ a) b x → GuardEnd s b → 8 * length (t ∷ a) + 16 ≤ suc n
    → (k : Sign) → sign_of t ≡ k → guard_by r n s t a k ≡ Some (x, b)
guard_kind p n r c s t a b x d ends h Let e = let k : 8 * length a + 23 ≤ n = omega arith in c.let_guard s {t = t} d e ends k
guard_kind p n r c s t a b x d ends h _ e = chain_guard_read p n r c s {t = t} d (ap is_let e) ends h

guard_first : (p : Parts) (n : ℕ) (r : Forms) → CompleteForms n r → (s : Bool) (a b : List Token) (x : GuardTree) → IsGuard a b x → GuardEnd s b → 8 * length a + 16 ≤ suc n → length b < length a
    → with_first a None (guard_by r n s) ≡ Some (x, b)
guard_first p n r c s [] b x d ends h l = absurd (let z : ⊥ = omega arith in z)
guard_first p n r c s (t ∷ a) b x d ends h l = guard_kind p n r c s t a b x d ends h (sign_of t) refl

pub guard_complete : (p : Parts) (n : ℕ) (r : Forms) → CompleteForms n r → (s : Bool) {a b : List Token} {x : GuardTree} → IsGuard a b x → GuardEnd s b → 8 * length a + 16 ≤ suc n → (next_forms n r).guard s a ≡ Some (x, b)
guard_complete p n r c s {a = a} {b = b} {x = x} d ends h = guard_first p n r c s a b x d ends h (guard_shorter d)

-- What begins with `let`

let_pattern : (t : Token) (a : List Token) → begins side_begins (t ∷ a) ≡ true → sign_of t ≡ Let → ⊥
let_pattern t a e f = false_true (sym (ap side_begins f) ∙ e)

no_let : (k : Sign) → is_let k ≡ true → (j : Sign) → k ≡ j → is_let j ≡ false → ⊥
no_let k e j f g = false_true (sym g ∙ ap is_let (sym f) ∙ e)

closed_let : {t : Token} {a b : List Token} {x : ClosedTree} → IsClosed (t ∷ a) b x → is_let (sign_of t) ≡ true → ⊥
closed_let (CaseClosed {t = t} f x g y) e = no_let (sign_of t) e Case f refl
closed_let (DoClosed {t = t} f x) e = no_let (sign_of t) e Do f refl
closed_let {t = t} (ApplyClosed x y) e = apply_let (sign_of t) (aexp_start x) e
  where
    apply_let : (k : Sign) → aexp_begins k ≡ true → is_let k ≡ true → ⊥
    apply_let Let f g = false_true f
    apply_let _ f g = false_true g

abbrev LetOf : Token → List Token → List Token → Bool → List LinkTree → LastTree → Type 0
LetOf t a b o ls x = (ds : List DeclTree) × (e : ExprTree) × (w : Token) × (z : List Token) × (ls ≡ []) × (x ≡ last.Open t.at false (wide.Let t.at ds e)) × (o ≡ true) × IsDeclBlock a (w ∷ z) ds × (sign_of w ≡ In) × IsExp z b e

open_let : {t : Token} {a b : List Token} {x : OpenTree} → IsOpen (t ∷ a) b x → is_let (sign_of t) ≡ true → LetOf t a b true [] (last.Open t.at false x)
open_let (LambdaOpen {t = t} f x g y) e = absurd (no_let (sign_of t) e Lambda f refl)
open_let (LetOpen {b = b} {w = w} {ds = ds} {e = v} f x g y) e = (ds, v, w, b, refl, refl, refl, x, g, y)
open_let (IfOpen {t = t} f x g y h i j z) e = absurd (no_let (sign_of t) e If f refl)

links_let : {t : Token} {o : Bool} {a b : List Token} {ls : List LinkTree} {x : LastTree} → IsLinks o (t ∷ a) b ls x → is_let (sign_of t) ≡ true → LetOf t a b o ls x
links_let {t = t} (LastClosed NoMinus x) e = absurd (closed_let {t = t} x e)
links_let (LastClosed (AMinus {t = t} f) x) e = absurd (no_let (sign_of t) e Minus f refl)
links_let {t = t} (LastOpen NoMinus x) e = open_let {t = t} x e
links_let (LastOpen (AMinus {t = t} f) x) e = absurd (no_let (sign_of t) e Minus f refl)
links_let {t = t} (MoreLinks NoMinus x q y) e = absurd (closed_let {t = t} x e)
links_let (MoreLinks (AMinus {t = t} f) x q y) e = absurd (no_let (sign_of t) e Minus f refl)

pub let_guard_complete : (p : Parts) (n : ℕ) (r : Forms) → CompleteForms n r → (s : Bool) {t : Token} {a b : List Token} {x : GuardTree} → IsGuard (t ∷ a) b x → sign_of t ≡ Let → GuardEnd s b → 8 * length a + 23 ≤ suc n
    → (next_forms n r).let_guard s t.at a ≡ Some (x, b)
let_guard_complete p n r c s {t = t} {a = a} (BindGuard y f d) g ends h = absurd (let_pattern t a (pattern_start y) g)
let_guard_complete p n r c s (LetGuard {a = a} {b = b} {t = t} {ds = ds} f x) g ends h =
    let k : 8 * length a + 5 ≤ n = omega arith in then_is (block_at r a) _ ds b (block_read n r c x k) ∙ beside is_in b _ _ (guard_no_in s b ends)
let_guard_complete p n r c s {t = t} {a = a} {b = b} (TestGuard {o = o} (LinkedChain {ls = ls} {x = x} d)) g ends h =
    let v : LetOf t a b o ls x = links_let {t = t} d (ap is_let g) in
    let k : 8 * length a + 5 ≤ n = omega arith in
    let l : length (v.2 ∷ v.3) < length a = decl_block_shorter v.7 in
    let m : 8 * length v.3 + 16 ≤ n = omega arith in
    then_is (block_at r a) _ v.0 (v.2 ∷ v.3) (block_read n r c v.7 k) ∙ past is_in v.2 v.3 _ _ (ap is_in v.8) ∙ then_is (r.exp s v.3) _ v.1 b (c.exp s v.9 (guard_ends p.sound s b ends) m)
    ∙ ap (λ y. let q : Found GuardTree = Some (watch.Test t.at (chain_tree t.at y (last.Open t.at false (wide.Let t.at v.0 v.1))), b) in q) (sym v.4)
    ∙ ap (λ y. let q : Found GuardTree = Some (watch.Test t.at (chain_tree t.at ls y), b) in q) (sym v.5)

pub let_part_complete : (n : ℕ) (r : Forms) → CompleteForms n r → {t : Token} {a b : List Token} {x : Part} → PartOf (t ∷ a) b x → sign_of t ≡ Let → PartEnds b → 8 * length a + 24 ≤ suc n
    → (next_forms n r).let_part t.at a ≡ Some (x, b)
let_part_complete n r c {t = t} {a = a} (BindPart y f d) g ends h = absurd (let_pattern t a (pattern_start y) g)
let_part_complete n r c (LetPart {a = a} {b = b} {t = t} {ds = ds} f x) g ends h =
    let k : 8 * length a + 5 ≤ n = omega arith in then_is (block_at r a) _ ds b (block_read n r c x k) ∙ beside is_in b _ _ ends.inside
let_part_complete n r c {t = t} {a = a} {b = b} (TestPart (PlainExp {o = o} (LinkedChain {ls = ls} {x = x} d))) g ends h =
    let v : LetOf t a b o ls x = links_let {t = t} d (ap is_let g) in
    let k : 8 * length a + 5 ≤ n = omega arith in
    let l : length (v.2 ∷ v.3) < length a = decl_block_shorter v.7 in
    let m : 8 * length v.3 + 16 ≤ n = omega arith in
    then_is (block_at r a) _ v.0 (v.2 ∷ v.3) (block_read n r c v.7 k) ∙ past is_in v.2 v.3 _ _ (ap is_in v.8) ∙ then_is (r.exp false v.3) _ v.1 b (c.exp false v.9 ends.ends m)
    ∙ ap (λ y. let q : Found Part = Some (piece.Test (expr_tree t.at (chain_tree t.at y (last.Open t.at false (wide.Let t.at v.0 v.1))) None), b) in q) (sym v.4)
    ∙ ap (λ y. let q : Found Part = Some (piece.Test (expr_tree t.at (chain_tree t.at ls y) None), b) in q) (sym v.5)
let_part_complete n r c {t = t} {a = a} {b = b} (TestPart (TypedExp {b = z} {t = q} (LinkedChain {ls = ls} {x = x} d) e y)) g ends h =
    let v : LetOf t a (q ∷ z) false ls x = links_let {t = t} d (ap is_let g) in absurd (false_true v.6)

-- Qualifiers

exp_part_read : (p : Parts) (n : ℕ) (r : Forms) → CompleteForms n r → {t : Token} {a b : List Token} {x : Part} → PartOf (t ∷ a) b x → is_let (sign_of t) ≡ false → PartEnds b → 8 * length (t ∷ a) + 17 ≤ suc n
    → exp_part_at r n (t ∷ a) ≡ Some (x, b)
exp_part_read p n r c {t = t} {a = a} {b = z} (BindPart {b = b} {w = w} {p = v} {e = y} x f d) e ends h =
    let k : 8 * length (t ∷ a) + 8 ≤ n = omega arith in
    let l : length (w ∷ b) < length (t ∷ a) = pattern_shorter x in
    let m : 8 * length b + 16 ≤ n = omega arith in
    or_is (bound_at n (t ∷ a)) _ _ v b (bound_read p n x f k) ∙ then_is (r.exp false b) _ y z (c.exp false d ends.ends m)
exp_part_read p n r c (LetPart {t = t} f x) e ends h = absurd (let_is (sign_of t) e f)
exp_part_read p n r c {t = t} {a = a} {b = z} (TestPart {e = y} d) e ends h =
    let k : 8 * length (t ∷ a) + 16 ≤ n = omega arith in
    or_not (bound_at n (t ∷ a)) _ _ (unbound p.sound n (t ∷ a) (exp_first stop is_back back_first d ends.keeps)) ∙ then_is (r.exp false (t ∷ a)) _ y z (c.exp false d ends.ends k)

part_kind : (p : Parts) (n : ℕ) (r : Forms) → CompleteForms n r → (t : Token) (a b : List Token) (x : Part) → PartOf (t ∷ a) b x → PartEnds b → 8 * length (t ∷ a) + 17 ≤ suc n → (k : Sign) → sign_of t ≡ k → part_by r n t a k ≡ Some (x, b)
part_kind p n r c t a b x d ends h Let e = let k : 8 * length a + 24 ≤ n = omega arith in c.let_part {t = t} d e ends k
part_kind p n r c t a b x d ends h _ e = exp_part_read p n r c {t = t} d (ap is_let e) ends h

part_shorter : {a b : List Token} {x : Part} → PartOf a b x → length b < length a
part_shorter (BindPart {a = a} {b = b} {c = c} {w = w} x e y) = let h : length (w ∷ b) < length a = pattern_shorter x in let k : length c < length b = exp_shorter y in omega arith
part_shorter (LetPart {a = a} {b = b} e x) = let h : length b < length a = decl_block_shorter x in omega arith
part_shorter (TestPart x) = exp_shorter x

part_first : (p : Parts) (n : ℕ) (r : Forms) → CompleteForms n r → (a b : List Token) (x : Part) → PartOf a b x → PartEnds b → 8 * length a + 17 ≤ suc n → length b < length a → with_first a None (part_by r n) ≡ Some (x, b)
part_first p n r c [] b x d ends h l = absurd (let z : ⊥ = omega arith in z)
part_first p n r c (t ∷ a) b x d ends h l = part_kind p n r c t a b x d ends h (sign_of t) refl

pub part_complete : (p : Parts) (n : ℕ) (r : Forms) → CompleteForms n r → {a b : List Token} {x : Part} → PartOf a b x → PartEnds b → 8 * length a + 17 ≤ suc n → (next_forms n r).part a ≡ Some (x, b)
part_complete p n r c {a = a} {b = b} {x = x} d ends h = part_first p n r c a b x d ends h (part_shorter d)

abbrev QualPart : List Token → List Token → QualTree → Type 0
QualPart a b q = (x : Part) × (q ≡ qual_of (place a) x) × PartOf a b x

qual_part : {a b : List Token} {q : QualTree} → IsQual a b q → QualPart a b q
qual_part (BindQual {p = p} {e = e} x f y) = (piece.Bind p e, refl, BindPart x f y)
qual_part (LetQual {t = t} {ds = ds} f x) = (piece.Let ds, refl, LetPart {t = t} f x)
qual_part (TestQual {e = e} x) = (piece.Test e, refl, TestPart x)

pub quals_complete : (p : Parts) (n : ℕ) (r : Forms) → CompleteForms n r → {w : Token} {a b : List Token} {qs : List QualTree} → IsQuals a (w ∷ b) qs → sign_of w ≡ CloseSquare → 8 * length a + 18 ≤ suc n → (xs : List QualTree)
    → (next_forms n r).quals xs a ≡ Some (xs ++ qs, w ∷ b)
quals_complete p n r c {w = w} {b = b} (LastQual {a = a} {q = q} x) f h xs =
    let k : 8 * length a + 17 ≤ n = omega arith in
    let v : QualPart a (w ∷ b) q = qual_part x in
    then_is (r.part a) _ v.0 (w ∷ b) (c.part v.2 (part_ends p.sound w b (ap ends_part f)) k) ∙ beside is_comma (w ∷ b) _ _ (ap is_comma f)
    ∙ ap (λ y. let z : Found (List QualTree) = Some (xs ++ y ∷ [], w ∷ b) in z) (sym v.1)
quals_complete p n r c {w = w} {b = z} (MoreQuals {a = a} {b = b} {m = m} {q = q} {qs = qs} x e y) f h xs =
    let k : 8 * length a + 17 ≤ n = omega arith in
    let s : length (m ∷ b) < length a = qual_shorter x in
    let l : 8 * length b + 18 ≤ n = omega arith in
    let v : QualPart a (m ∷ b) q = qual_part x in
    then_is (r.part a) _ v.0 (m ∷ b) (c.part v.2 (part_ends p.sound m b (ap ends_part e)) k) ∙ past is_comma m b _ _ (ap is_comma e) ∙ c.quals y f l (xs ++ qual_of (place a) v.0 ∷ [])
    ∙ ap (λ l. let u : Found (List QualTree) = Some (l, w ∷ z) in u) (append_assoc xs (qual_of (place a) v.0 ∷ []) qs ∙ ap (λ u. xs ++ u ∷ qs) (sym v.1))

-- Statements

abbrev StmtPart : List Token → List Token → StmtTree → Type 0
StmtPart a b s = (x : Part) × (s ≡ stmt_of (place a) x) × PartOf a b x

stmt_part : {a b : List Token} {s : StmtTree} → IsStmt a b s → StmtPart a b s
stmt_part (BindStmt {p = p} {e = e} x f y) = (piece.Bind p e, refl, BindPart x f y)
stmt_part (LetStmt {t = t} {ds = ds} f x) = (piece.Let ds, refl, LetPart {t = t} f x)
stmt_part (ExpStmt {e = e} x) = (piece.Test e, refl, TestPart x)

part_item : {a b : List Token} {x : Part} → PartOf a b x → begins is_separator a ≡ false
part_item (BindPart {a = a} x f y) = pattern_item a (pattern_start x)
part_item (LetPart f x) = ap is_separator f
part_item (TestPart x) = exp_item (exp_start x)

gaps_ends : (p : Parts) (put : Bool) {t : Token} {a b : List Token} → IsGaps a (t ∷ b) → sign_of t ≡ CloseBrace put → PartEnds a
gaps_ends p put {t = t} {b = b} NoGaps e = part_ends p.sound t b (ap ends_part e)
gaps_ends p put (MoreGaps {a = a} {t = t} f x) e = part_ends p.sound t a (ap ends_part f)

gaps_item : (put : Bool) {t : Token} {a b : List Token} → IsGaps a (t ∷ b) → sign_of t ≡ CloseBrace put → begins (ends_item put) a ≡ true
gaps_item put NoGaps e = ap (ends_item put) e ∙ closes_same put
gaps_item put (MoreGaps f x) e = ap (ends_item put) f

pub stmts_complete : (p : Parts) (n : ℕ) (r : Forms) → CompleteForms n r → {put : Bool} {a b : List Token} {ss : List StmtTree} → IsStmts put a b ss → 8 * length a + 18 ≤ suc n → (at : Pos) (us : List StmtTree) (whole : Bool)
    → (next_forms n r).stmts at put us whole a ≡ Some (item.Closed (shut.Do at (us ++ ss)), b)
stmts_complete p n r c (GapStmts {put = put} {a = a} {t = t} f x) h at us whole =
    let k : 8 * length a + 18 ≤ n = omega arith in ap (stmts_by r at put us whole (t ∷ a)) (between_gap put t a f) ∙ c.stmts x k at us whole
stmts_complete p n r c (LastStmt {put = put} {a = a} {b = b} {t = t} {e = e} x g f) h at us whole =
    let k : 8 * length a + 17 ≤ n = omega arith in
    let s : length b < length a = exp_shorter x in
    let m : 8 * length b + 18 ≤ n = omega arith in
    ap (stmts_by r at put us whole a) (neither put a (exp_item (exp_start x))) ∙ then_is (r.part a) _ (piece.Test e) b (c.part (TestPart x) (gaps_ends p put g f) k)
    ∙ if_so (begins (ends_item put) b) _ _ (gaps_item put g f) ∙ c.gaps g f m at (us ++ step.Exp (place a) e ∷ [])
stmts_complete p n r c (MoreStmts {put = put} {a = a} {b = b} {c = z} {t = t} {s = s} {ss = ss} x f y) h at us whole =
    let k : 8 * length a + 17 ≤ n = omega arith in
    let l : length (t ∷ b) < length a = stmt_shorter x in
    let m : 8 * length (t ∷ b) + 18 ≤ n = omega arith in
    let v : StmtPart a (t ∷ b) s = stmt_part x in
    ap (stmts_by r at put us whole a) (neither put a (part_item v.2)) ∙ then_is (r.part a) _ v.0 (t ∷ b) (c.part v.2 (part_ends p.sound t b (ap ends_part f)) k)
    ∙ if_so (begins (ends_item put) (t ∷ b)) _ _ (ap (ends_item put) f) ∙ c.stmts (GapStmts {t = t} f y) m at (us ++ stmt_of (place a) v.0 ∷ []) (is_test v.0)
    ∙ ap (λ l. let u : Found Operand = Some (item.Closed (shut.Do at l), z) in u) (append_assoc us (stmt_of (place a) v.0 ∷ []) ss ∙ ap (λ u. us ++ u ∷ ss) (sym v.1))

pub gaps_complete : (n : ℕ) (r : Forms) → CompleteForms n r → {put : Bool} {t : Token} {a b : List Token} → IsGaps a (t ∷ b) → sign_of t ≡ CloseBrace put → 8 * length a + 18 ≤ suc n → (at : Pos) (us : List StmtTree)
    → (next_forms n r).stmts at put us true a ≡ Some (item.Closed (shut.Do at us), b)
gaps_complete n r c {put = put} {t = t} {b = b} NoGaps e h at us = ap (stmts_by r at put us true (t ∷ b)) (between_end put t b e)
gaps_complete n r c {put = put} (MoreGaps {a = a} {t = t} f x) e h at us = let k : 8 * length a + 18 ≤ n = omega arith in ap (stmts_by r at put us true (t ∷ a)) (between_gap put t a f) ∙ c.gaps x e k at us

-- Declarations

pub decls_complete : (n : ℕ) (r : Forms) → CompleteForms n r → {put : Bool} {a b : List Token} {ds : List DeclTree} → IsDecls put a b ds → 8 * length a + 13 ≤ suc n → (xs : List DeclTree)
    → (next_forms n r).decls put xs a ≡ Some (xs ++ ds, b)
decls_complete n r c (EndDecls {put = put} {a = a} {t = t} f) h xs = ap (decls_by r put xs (t ∷ a)) (between_end put t a f) ∙ ap (λ l. let z : Found (List DeclTree) = Some (l, a) in z) (sym (append-nil xs))
decls_complete n r c (GapDecls {put = put} {a = a} {t = t} f x) h xs = let k : 8 * length a + 13 ≤ n = omega arith in ap (decls_by r put xs (t ∷ a)) (between_gap put t a f) ∙ c.decls x k xs
decls_complete n r c (ItemDecls {put = put} {a = a} {b = b} {c = z} {t = t} {d = x} {ds = ds} d f y) h xs =
    let k : 8 * length a + 12 ≤ n = omega arith in
    let s : length (t ∷ b) < length a = decl_shorter d in
    let m : 8 * length (t ∷ b) + 13 ≤ n = omega arith in
    ap (decls_by r put xs a) (neither put a (decl_item d)) ∙ then_is (r.decl a) _ x (t ∷ b) (c.decl d (item_end put (sign_of t) f) k)
    ∙ if_so (begins (ends_item put) (t ∷ b)) _ _ (item_ends put (sign_of t) f) ∙ c.decls y m (xs ++ x ∷ []) ∙ ap (λ l. let v : Found (List DeclTree) = Some (l, z) in v) (append_assoc xs (x ∷ []) ds)

item_no_type : (k : Sign) → goes_on_item k ≡ false → type_goes_on k ≡ false
item_no_type Semicolon e = refl
item_no_type (CloseBrace b) e = refl
item_no_type _ e = absurd (false_true (sym e))

item_no_comma : (k : Sign) → goes_on_item k ≡ false → is_comma k ≡ false
item_no_comma Comma e = absurd (false_true (sym e))
item_no_comma _ e = refl

no_sig_decl : (n : ℕ) (a : List Token) → sig_at n a ≡ None → sig_decl_at n a ≡ None
no_sig_decl n a e = ap (λ m. and_then m (λ s rest. let z : Found DeclTree = Some (form.Sig (place a) s, rest) in z)) e

no_fix_decl : (n : ℕ) (a : List Token) → fix_at n a ≡ None → fix_decl_at n a ≡ None
no_fix_decl n a e = ap (λ m. and_then m (λ s rest. let z : Found DeclTree = Some (form.Fix (place a) s, rest) in z)) e

pub decl_complete : (p : Parts) (n : ℕ) (r : Forms) → CompleteForms n r → {a b : List Token} {x : DeclTree} → IsDecl a b x → begins goes_on_item b ≡ false → 8 * length a + 12 ≤ suc n → (next_forms n r).decl a ≡ Some (x, b)
decl_complete p n r c (SigDecl {a = a} {b = b} {s = s} d) e h =
    let k : 8 * length a + 8 ≤ n = omega arith in
    else_is (plain_decl_at n a) _ (form.Sig (place a) s) b (else_is (sig_decl_at n a) _ (form.Sig (place a) s) b (then_is (sig_at n a) _ s b (p.complete.sig n d (lower goes_on_item type_goes_on item_no_type b e) k)))
decl_complete p n r c (FixDecl {a = a} {b = b} {f = f} d) e h =
    let k : 8 * length a + 8 ≤ n = omega arith in
    else_is (plain_decl_at n a) _ (form.Fix (place a) f) b
    (else_not (sig_decl_at n a) _ (no_sig_decl n a (fix_no_sig p.sound n d)) ∙ then_is (fix_at n a) _ f b (p.complete.fix n d (lower goes_on_item is_comma item_no_comma b e) k))
decl_complete p n r c (ClauseDecl {a = a} {b = b} {k = x} d) e h =
    let k : 8 * length a + 11 ≤ n = omega arith in
    else_not (plain_decl_at n a) _ (else_not (sig_decl_at n a) _ (no_sig_decl n a (clause_no_sig p.sound n d)) ∙ no_fix_decl n a (clause_no_fix p.sound n d)) ∙ then_is (r.clause a) _ x b (c.clause d e k)

mid_lhs : (k : Sign) → is_mid k ≡ true → ends_lhs k ≡ true
mid_lhs Equals e = refl
mid_lhs Bar e = refl
mid_lhs _ e = absurd (false_true e)

pub clause_complete : (p : Parts) (n : ℕ) (r : Forms) → CompleteForms n r → {a b : List Token} {x : Clause} → IsClause a b x → begins goes_on_item b ≡ false → 8 * length a + 11 ≤ suc n → (next_forms n r).clause a ≡ Some (x, b)
clause_complete p n r c (SidesClause {a = a} {l = l} x (PlainRhs {a = b} {c = z} {t = t} {e = v} {w = w} f y u)) e h =
    let s : length (t ∷ b) < length a = lhs_shorter x in
    let k : 8 * length (t ∷ b) + 13 ≤ n = omega arith in
    then_is (side_at a) _ l (t ∷ b) (p.complete.lhs x (ap ends_lhs f)) ∙ then_is (r.body false (t ∷ b)) _ (trunk.Plain v w) z (c.body (PlainBody {s = false} {t = t} f y u) e k)
clause_complete p n r c (SidesClause {a = a} {l = l} x (GuardedRhs {a = b} {c = z} {xs = xs} {w = w} y u)) e h =
    let s : length b < length a = lhs_shorter x in
    let k : 8 * length b + 13 ≤ n = omega arith in
    then_is (side_at a) _ l b (p.complete.lhs x (raise is_mid ends_lhs mid_lhs b (rhs_start (GuardedRhs y u)))) ∙ then_is (r.body false b) _ (trunk.Guarded xs w) z (c.body (GuardedBody {s = false} y u) e k)
