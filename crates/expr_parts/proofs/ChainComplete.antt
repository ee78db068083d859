-- What is derived as an expression, a chain or an operand is read as it.
use Rattle.std.proofs.Common.{◌≡◌, ℕ, suc, ◌+◌, ◌*◌, ◌<◌, ◌≤◌, Bool, true, false, List, [], ◌∷◌, ◌++◌, length, Some, None, refl, sym, ap, ◌∙◌, append_assoc, arith}
use Rattle.std.proofs.lemmas.List.{append-nil}
use Rattle.mk_base.specs.declared.place.Pos.{Pos}
use Rattle.hs_syntax.specs.declared.token.Token.{Token}
use Rattle.hs_syntax.specs.declared.sign.Sign.{Sign}
use Rattle.hs_syntax.specs.declared.sign.Sign.TheVariants.{Minus, OpenBrace, Case, Do, If, Let, Lambda, Typed, Arrow}
use Rattle.hs_syntax.specs.declared.type_tree.QualifiedType.{QualifiedType}
use Rattle.hs_syntax.specs.declared.pattern_tree.ApatTree.{ApatTree}
use Rattle.hs_syntax.specs.declared.expr_tree.ExprTree.{ExprTree}
use Rattle.hs_syntax.specs.declared.expr_tree.LinkTree.{LinkTree}
use Rattle.hs_syntax.specs.declared.expr_tree.LastTree.{LastTree}
use Rattle.hs_syntax.specs.declared.expr_tree.LastTree.TheVariants as last
use Rattle.hs_syntax.specs.declared.expr_tree.OpenTree.{OpenTree}
use Rattle.hs_syntax.specs.declared.expr_tree.ClosedTree.{ClosedTree}
use Rattle.hs_syntax.specs.declared.expr_tree.AexpTree.{AexpTree}
use Rattle.hs_syntax.specs.declared.expr_tree.DeclTree.{DeclTree}
use Rattle.hs_syntax.specs.Signs.{sign_of}
use Rattle.hs_syntax.specs.Made.{expr_tree, chain_tree, link_tree}
use Rattle.hs_syntax.specs.Reading.{Found, and_then, with_first, begins, behind, and_behind, is_typed, is_arrow, is_in, is_of, is_then, is_else, is_semicolon}
use Rattle.hs_parts.specs.Names.{place}
use Rattle.hs_parts.specs.Grammar.{IsQualified, IsApats, MoreApats}
use Rattle.hs_parts.specs.PatternReaders.{is_brace, begins_apat, some_apats, apats_at}
use Rattle.expr_parts.specs.declared.piece.Chain.{Chain}
use Rattle.expr_parts.specs.declared.piece.Operand.{Operand}
use Rattle.expr_parts.specs.declared.piece.Operand.TheVariants as item
use Rattle.expr_parts.specs.Grammar.{IsMinus, NoMinus, AMinus, IsGap, NoGap, AGap, IsExp, PlainExp, TypedExp, LinkedChain, IsLinks, LastClosed, LastOpen, MoreLinks, IsOpen, LambdaOpen, LetOpen, IfOpen, IsClosed, CaseClosed, DoClosed, ApplyClosed, IsAexps, NoAexps, MoreAexps, IsAexp, BracedAlts, BracedStmts, IsDeclBlock, BracedDecls}
use Rattle.expr_parts.specs.Expressions.{Forms, is_minus, aexp_begins, after, opened, opened_by, infix_at, arguments_at, type_at, typed_at, chain_on, block_at, operand_by, apply_of, next_forms}
use Rattle.expr_parts.proofs.PartsComplete.{Parts}
use Rattle.hs_parts.proofs.PatternsComplete.{apats_shorter}
use Rattle.hs_parts.proofs.NamesComplete.{qop_shorter}
use Rattle.expr_parts.proofs.Shorter.{minus_shorter, gap_shorter, exp_shorter, links_shorter, closed_shorter, aexp_shorter, decl_block_shorter}
use Rattle.expr_parts.proofs.Starts.{false_true, exp_begins, closed_start, open_start, links_start, aexp_start, no_close, lift, op_begins, apat_start}
use Rattle.expr_parts.proofs.Ends.{Ends, ChainEnds, TypeEnd, chain_ends, ends_at, is_end, no_infix, infix_complete, qop_no_aexp, qop_no_brace, type_complete}
use Rattle.expr_parts.proofs.Read.{CompleteForms, chained, then_is, or_is, or_not, past, beside, signed, if_so, if_not}

abbrev is_lambda : Sign → Bool
is_lambda Lambda = true
is_lambda _ = false

abbrev is_let : Sign → Bool
is_let Let = true
is_let _ = false

abbrev is_if : Sign → Bool
is_if If = true
is_if _ = false

abbrev is_case : Sign → Bool
is_case Case = true
is_case _ = false

case_kind : (k : Sign) → aexp_begins k ≡ true → is_case k ≡ true → ⊥
case_kind Case e f = false_true e
case_kind _ e f = false_true f

case_start : (t : Token) (a : List Token) → begins aexp_begins (t ∷ a) ≡ true → sign_of t ≡ Case → ⊥
case_start t a e f = case_kind (sign_of t) e (ap is_case f)

-- the type behind a chain
pub typed_plain : (n : ℕ) (tail : Bool) (at : Pos) (ls : List LinkTree) (x : LastTree) (o : Bool) (b : List Token) → begins is_typed b ≡ false
    → typed_at n tail at (chained at ls x o) b ≡ Some (expr_tree at (chain_tree at ls x) None, b)
typed_plain n tail at ls x true b e = refl
typed_plain n tail at ls x false b e = beside is_typed b _ _ e

pub typed_typed : (p : Parts) (n : ℕ) (tail : Bool) (at : Pos) (ls : List LinkTree) (x : LastTree) (t : Token) {b c : List Token} {y : QualifiedType} → sign_of t ≡ Typed → IsQualified b c y → TypeEnd tail c → 8 * length b + 8 ≤ n
    → typed_at n tail at (chained at ls x false) (t ∷ b) ≡ Some (expr_tree at (chain_tree at ls x) (Some y), c)
typed_typed p n tail at ls x t {b = b} {c = c} {y = y} e d f h = past is_typed t b _ _ (ap is_typed e) ∙ then_is (type_at n tail b) _ y c (type_complete p n tail d f h)

pub typed_ends : (p : Parts) (tail : Bool) (t : Token) (b : List Token) → sign_of t ≡ Typed → ChainEnds false tail (t ∷ b)
typed_ends p tail t b e = record { aexp = ap aexp_begins e; brace = ap is_brace e; operator = no_infix p.sound (t ∷ b) (ap op_begins e); opened = λ h. absurd (false_true h) }

pub exp_complete : (p : Parts) (n : ℕ) (r : Forms) → CompleteForms n r → (tail : Bool) {a b : List Token} {e : ExprTree} → IsExp a b e → Ends tail b → 8 * length a + 16 ≤ suc n → (next_forms n r).exp tail a ≡ Some (e, b)
exp_complete p n r c tail (PlainExp {o = o} {a = a} {b = b} (LinkedChain {ls = ls} {x = x} d)) ends h =
    let k : 8 * length a + 15 ≤ n = omega arith in
    then_is (r.chain tail (place a) [] a) _ (chained (place a) ls x o) b (c.links tail d (chain_ends o tail b ends) k (place a) []) ∙ typed_plain n tail (place a) ls x o b ends.typed
exp_complete p n r c tail (TypedExp {a = a} {b = b} {c = z} {t = t} (LinkedChain {ls = ls} {x = x} d) e y) ends h =
    let k : 8 * length a + 15 ≤ n = omega arith in
    let s : length (t ∷ b) < length a = links_shorter d in
    let m : 8 * length b + 8 ≤ n = omega arith in
    then_is (r.chain tail (place a) [] a) _ (chained (place a) ls x false) (t ∷ b) (c.links tail d (typed_ends p tail t b e) k (place a) []) ∙ typed_typed p n tail (place a) ls x t e y ends.behind m

-- The sign of an operand

no_minus : (a : List Token) → begins is_minus a ≡ false → after is_minus a ≡ a
no_minus [] e = refl
no_minus (t ∷ a) e = if_not (is_minus (sign_of t)) a (t ∷ a) e

minus_read : {a b : List Token} {m : Bool} → IsMinus a b m → begins is_minus b ≡ false → (after is_minus a ≡ b) × (begins is_minus a ≡ m)
minus_read (NoMinus {a = a}) e = (no_minus a e, e)
minus_read (AMinus {a = a} {t = t} f) e = (if_so (is_minus (sign_of t)) a (t ∷ a) (ap is_minus f), ap is_minus f)

chain_step : (n : ℕ) (r : Forms) (tail : Bool) (at : Pos) (ls : List LinkTree) {a b : List Token} {m : Bool} → IsMinus a b m → begins is_minus b ≡ false
    → (next_forms n r).chain tail at ls a ≡ and_then (r.operand tail b) (chain_on r tail at ls (place a) m)
chain_step n r tail at ls {a = a} {b = b} {m = m} d e =
    let h : (after is_minus a ≡ b) × (begins is_minus a ≡ m) = minus_read d e in
    ap (λ x. and_then (r.operand tail x) (chain_on r tail at ls (place a) (begins is_minus a))) h.0 ∙ ap (λ v. and_then (r.operand tail b) (chain_on r tail at ls (place a) v)) h.1

exp_minus : (k : Sign) → exp_begins k ≡ true → is_minus k ≡ false
exp_minus Minus e = absurd (false_true e)
exp_minus _ e = refl

closed_minus : {a b : List Token} {x : ClosedTree} → IsClosed a b x → begins is_minus a ≡ false
closed_minus {a = a} x = lift exp_begins is_minus exp_minus a (closed_start x)

open_minus : {a b : List Token} {x : OpenTree} → IsOpen a b x → begins is_minus a ≡ false
open_minus {a = a} x = lift exp_begins is_minus exp_minus a (open_start x)

pub links_complete : (p : Parts) (n : ℕ) (r : Forms) → CompleteForms n r → (tail : Bool) {o : Bool} {a b : List Token} {ms : List LinkTree} {x : LastTree} → IsLinks o a b ms x → ChainEnds o tail b
    → 8 * length a + 15 ≤ suc n → (at : Pos) (ls : List LinkTree) → (next_forms n r).chain tail at ls a ≡ Some (chained at (ls ++ ms) x o, b)
links_complete p n r c tail (LastClosed {a = a} {b = b} {c = z} {m = m} {x = x} s d) ends h at ls =
    let k : length b ≤ length a = minus_shorter s in
    let l : 8 * length b + 14 ≤ n = omega arith in
    chain_step n r tail at ls s (closed_minus d)
    ∙ then_is (r.operand tail b) _ (item.Closed x) z (c.closed tail d ends.aexp ends.brace l)
    ∙ or_not (infix_at z) _ _ ends.operator
    ∙ ap (λ v. let y : Found Chain = Some (chained at v (last.Closed (place a) m x) false, z) in y) (sym (append-nil ls))
links_complete p n r c tail (LastOpen {a = a} {b = b} {c = z} {m = m} {x = x} s d) ends h at ls =
    let k : length b ≤ length a = minus_shorter s in
    let l : 8 * length b + 14 ≤ n = omega arith in
    chain_step n r tail at ls s (open_minus d)
    ∙ then_is (r.operand tail b) _ (item.Open x) z (c.opened tail d (ends.opened refl) l)
    ∙ ap (λ v. let y : Found Chain = Some (chained at v (last.Open (place a) m x) true, z) in y) (sym (append-nil ls))
links_complete p n r c tail (MoreLinks {o = o} {a = a} {b = b} {c = y} {d = u} {e = z} {m = m} {x = x} {q = q} {ls = ms} {y = w} s d e rest) ends h at ls =
    let k : length b ≤ length a = minus_shorter s in
    let i : length y < length b = closed_shorter d in
    let j : length u < length y = qop_shorter e in
    let l : 8 * length b + 14 ≤ n = omega arith in
    let v : 8 * length u + 15 ≤ n = omega arith in
    chain_step n r tail at ls s (closed_minus d)
    ∙ then_is (r.operand tail b) _ (item.Closed x) y (c.closed tail d (qop_no_aexp e) (qop_no_brace e) l)
    ∙ or_is (infix_at y) _ _ q u (infix_complete p.complete e (no_close (links_start rest)))
    ∙ c.links tail rest ends v at (ls ++ link_tree (place a) m x q ∷ [])
    ∙ ap (λ l. let g : Found Chain = Some (chained at l w o, z) in g) (append_assoc ls (link_tree (place a) m x q ∷ []) ms)

-- Blocks

pub opened_read : (t : Token) (a : List Token) (put : Bool) → sign_of t ≡ OpenBrace put → opened (t ∷ a) ≡ Some (put, a)
opened_read t a put e = ap (opened_by t a) e

pub block_read : (n : ℕ) (r : Forms) → CompleteForms n r → {a b : List Token} {ds : List DeclTree} → IsDeclBlock a b ds → 8 * length a + 5 ≤ n → block_at r a ≡ Some (ds, b)
block_read n r c (BracedDecls {put = put} {a = a} {b = b} {t = t} e x) h =
    let k : 8 * length a + 13 ≤ n = omega arith in
    then_is (opened (t ∷ a)) _ put a (opened_read t a put e) ∙ c.decls x k []

-- Closed operands

apply_by : (r : Forms) (tail : Bool) (t : Token) (ts : List Token) (k : Sign) → aexp_begins k ≡ true → operand_by r tail t ts k ≡ r.apply (t ∷ ts)
apply_by r tail t ts Lambda e = absurd (false_true e)
apply_by r tail t ts Let e = absurd (false_true e)
apply_by r tail t ts If e = absurd (false_true e)
apply_by r tail t ts Case e = absurd (false_true e)
apply_by r tail t ts Do e = absurd (false_true e)
apply_by r tail t ts _ e = refl

apply_at : (r : Forms) (tail : Bool) (a : List Token) → begins aexp_begins a ≡ true → with_first a None (operand_by r tail) ≡ r.apply a
apply_at r tail [] e = absurd (false_true e)
apply_at r tail (t ∷ a) e = apply_by r tail t a (sign_of t) e

pub closed_complete : (n : ℕ) (r : Forms) → CompleteForms n r → (tail : Bool) {a b : List Token} {x : ClosedTree} → IsClosed a b x → begins aexp_begins b ≡ false → begins is_brace b ≡ false → 8 * length a + 14 ≤ suc n
    → (next_forms n r).operand tail a ≡ Some (item.Closed x, b)
closed_complete n r c tail (CaseClosed {a = a} {t = t} e x f y) g i h =
    let k : 8 * length a + 21 ≤ n = omega arith in ap (operand_by r tail t a) e ∙ c.case_of {t = t} (CaseClosed {t = t} e x f y) e k
closed_complete n r c tail (DoClosed {t = t} e (BracedStmts {put = put} {a = a} {t = v} f x)) g i h =
    let k : 8 * length a + 18 ≤ n = omega arith in
    ap (operand_by r tail t (v ∷ a)) e ∙ then_is (opened (v ∷ a)) _ put a (opened_read v a put f) ∙ c.stmts x k t.at [] false
closed_complete n r c tail (ApplyClosed {a = a} x y) g i h =
    let k : 8 * length a + 13 ≤ n = omega arith in apply_at r tail a (aexp_start x) ∙ c.apply x y g i k

pub opened_complete : (n : ℕ) (r : Forms) → CompleteForms n r → (tail : Bool) {a b : List Token} {x : OpenTree} → IsOpen a b x → Ends tail b → 8 * length a + 14 ≤ suc n
    → (next_forms n r).operand tail a ≡ Some (item.Open x, b)
opened_complete n r c tail (LambdaOpen {a = a} {t = t} e x f y) ends h =
    let k : 8 * length a + 21 ≤ n = omega arith in ap (operand_by r tail t a) e ∙ c.lambda tail {t = t} (LambdaOpen {t = t} e x f y) e ends k
opened_complete n r c tail (LetOpen {a = a} {t = t} e x f y) ends h =
    let k : 8 * length a + 21 ≤ n = omega arith in ap (operand_by r tail t a) e ∙ c.let_in tail {t = t} (LetOpen {t = t} e x f y) e ends k
opened_complete n r c tail (IfOpen {a = a} {t = t} s x g i y j l z) ends h =
    let k : 8 * length a + 21 ≤ n = omega arith in ap (operand_by r tail t a) s ∙ c.if_else tail {t = t} (IfOpen {t = t} s x g i y j l z) s ends k

arguments_read : (p : Parts) (n : ℕ) {a b : List Token} {w : Token} {x : ApatTree} {xs : List ApatTree} → IsApats a (w ∷ b) (x ∷ xs) → sign_of w ≡ Arrow → 8 * length a + 8 ≤ n → arguments_at n a ≡ Some (x ∷ xs, b)
arguments_read p n {a = a} {b = b} {w = w} {x = x} {xs = xs} (MoreApats d rest) e h =
    then_is (some_apats n a) _ (x ∷ xs) (w ∷ b) (if_so (begins begins_apat a) (apats_at n a) None (apat_start d) ∙ p.complete.apats n (MoreApats d rest) (ap is_arrow e) h)
    ∙ signed is_arrow w b (x ∷ xs) (ap is_arrow e)

pub lambda_complete : (p : Parts) (n : ℕ) (r : Forms) → CompleteForms n r → (tail : Bool) {t : Token} {a b : List Token} {x : OpenTree} → IsOpen (t ∷ a) b x → sign_of t ≡ Lambda → Ends tail b → 8 * length a + 21 ≤ suc n
    → (next_forms n r).lambda tail t.at a ≡ Some (item.Open x, b)
lambda_complete p n r c tail (LambdaOpen {a = a} {b = b} {c = z} {t = t} {w = w} {p = v} {ps = vs} {e = y} e x f d) g ends h =
    let k : 8 * length a + 8 ≤ n = omega arith in
    let s : length (w ∷ b) ≤ length a = apats_shorter x in
    let m : 8 * length b + 16 ≤ n = omega arith in
    then_is (arguments_at n a) _ (v ∷ vs) b (arguments_read p n x f k) ∙ then_is (r.exp tail b) _ y z (c.exp tail d ends m)
lambda_complete p n r c tail (LetOpen {t = t} e x f y) g ends h = absurd (false_true (sym (ap is_lambda e) ∙ ap is_lambda g))
lambda_complete p n r c tail (IfOpen {t = t} s x i j y l m z) g ends h = absurd (false_true (sym (ap is_lambda s) ∙ ap is_lambda g))

pub let_in_complete : (n : ℕ) (r : Forms) → CompleteForms n r → (tail : Bool) {t : Token} {a b : List Token} {x : OpenTree} → IsOpen (t ∷ a) b x → sign_of t ≡ Let → Ends tail b → 8 * length a + 21 ≤ suc n
    → (next_forms n r).let_in tail t.at a ≡ Some (item.Open x, b)
let_in_complete n r c tail (LambdaOpen {t = t} e x f y) g ends h = absurd (false_true (sym (ap is_let e) ∙ ap is_let g))
let_in_complete n r c tail (LetOpen {a = a} {b = b} {c = z} {t = t} {w = w} {ds = ds} {e = y} e x f d) g ends h =
    let k : 8 * length a + 5 ≤ n = omega arith in
    let s : length (w ∷ b) < length a = decl_block_shorter x in
    let m : 8 * length b + 16 ≤ n = omega arith in
    then_is (block_at r a) _ ds (w ∷ b) (block_read n r c x k) ∙ past is_in w b _ _ (ap is_in f) ∙ then_is (r.exp tail b) _ y z (c.exp tail d ends m)
let_in_complete n r c tail (IfOpen {t = t} s x i j y l m z) g ends h = absurd (false_true (sym (ap is_let s) ∙ ap is_let g))

-- [;] then, and [;] else
after_gap : {b c : List Token} {v : Token} → IsGap b (v ∷ c) → is_semicolon (sign_of v) ≡ false → after is_semicolon b ≡ v ∷ c
after_gap {c = c} {v = v} NoGap e = if_not (is_semicolon (sign_of v)) c (v ∷ c) e
after_gap {c = c} {v = v} (AGap {t = t} f) e = if_so (is_semicolon (sign_of t)) (v ∷ c) (t ∷ v ∷ c) (ap is_semicolon f)

past_gap : {X : Type 0} (test : Sign → Bool) (b : List Token) (v : Token) (c : List Token) (f : List Token → Found X) (g : Found X) → after is_semicolon b ≡ v ∷ c → test (sign_of v) ≡ true
    → and_behind (behind test (after is_semicolon b)) f g ≡ f c
past_gap test b v c f g e h = ap (λ l. and_behind (behind test l) f g) e ∙ past test v c f g h

gap_ends : (p : Parts) {b c : List Token} {v : Token} → IsGap b (v ∷ c) → is_end (sign_of v) ≡ true → Ends false b
gap_ends p {c = c} {v = v} NoGap e = ends_at p.sound v c e
gap_ends p {c = c} {v = v} (AGap {t = t} f) e = ends_at p.sound t (v ∷ c) (ap is_end f)

pub if_complete : (p : Parts) (n : ℕ) (r : Forms) → CompleteForms n r → (tail : Bool) {t : Token} {a b : List Token} {x : OpenTree} → IsOpen (t ∷ a) b x → sign_of t ≡ If → Ends tail b → 8 * length a + 21 ≤ suc n
    → (next_forms n r).if_else tail t.at a ≡ Some (item.Open x, b)
if_complete p n r c tail (LambdaOpen {t = t} e x f y) g ends h = absurd (false_true (sym (ap is_if e) ∙ ap is_if g))
if_complete p n r c tail (LetOpen {t = t} e x f y) g ends h = absurd (false_true (sym (ap is_if e) ∙ ap is_if g))
if_complete p n r c tail (IfOpen {a = a} {b = b} {c = z} {d = d} {e = u} {f = v} {t = t} {v = j} {w = w} {x = x} {y = y} {z = q} s dx g1 e1 dy g2 e2 dz) g ends h =
    let k : 8 * length a + 16 ≤ n = omega arith in
    let s1 : length b < length a = exp_shorter dx in
    let s2 : length (j ∷ z) ≤ length b = gap_shorter g1 in
    let l : 8 * length z + 16 ≤ n = omega arith in
    let s3 : length d < length z = exp_shorter dy in
    let s4 : length (w ∷ u) ≤ length d = gap_shorter g2 in
    let m : 8 * length u + 16 ≤ n = omega arith in
    then_is (r.exp false a) _ x b (c.exp false dx (gap_ends p g1 (ap is_end e1)) k)
    ∙ past_gap is_then b j z _ _ (after_gap g1 (ap is_semicolon e1)) (ap is_then e1)
    ∙ then_is (r.exp false z) _ y d (c.exp false dy (gap_ends p g2 (ap is_end e2)) l)
    ∙ past_gap is_else d w u _ _ (after_gap g2 (ap is_semicolon e2)) (ap is_else e2)
    ∙ then_is (r.exp tail u) _ q v (c.exp tail dz ends m)

pub case_complete : (p : Parts) (n : ℕ) (r : Forms) → CompleteForms n r → {t : Token} {a b : List Token} {x : ClosedTree} → IsClosed (t ∷ a) b x → sign_of t ≡ Case → 8 * length a + 21 ≤ suc n
    → (next_forms n r).case_of t.at a ≡ Some (item.Closed x, b)
case_complete p n r c (CaseClosed {a = a} {t = t} {w = w} {e = e} d x f (BracedAlts {put = put} {a = b} {t = v} g y)) i h =
    let k : 8 * length a + 16 ≤ n = omega arith in
    let s : length (w ∷ v ∷ b) < length a = exp_shorter x in
    let m : 8 * length b + 12 ≤ n = omega arith in
    then_is (r.exp false a) _ e (w ∷ v ∷ b) (c.exp false x (ends_at p.sound w (v ∷ b) (ap is_end f)) k)
    ∙ past is_of w (v ∷ b) _ _ (ap is_of f) ∙ then_is (opened (v ∷ b)) _ put b (opened_read v b put g) ∙ c.alts y m t.at e []
case_complete p n r c (DoClosed {t = t} e x) g h = absurd (false_true (sym (ap is_case e) ∙ ap is_case g))
case_complete p n r c {t = t} {a = a} (ApplyClosed x y) g h = absurd (case_start t a (aexp_start x) g)

-- Applications

pub aexp_brace : (k : Sign) → aexp_begins k ≡ true → is_brace k ≡ false
aexp_brace (OpenBrace false) e = absurd (false_true e)
aexp_brace (OpenBrace true) e = absurd (false_true e)
aexp_brace _ e = refl

aexps_brace : {b c : List Token} {xs : List AexpTree} → IsAexps b c xs → begins is_brace c ≡ false → begins is_brace b ≡ false
aexps_brace NoAexps e = e
aexps_brace (MoreAexps {a = a} x y) e = lift aexp_begins is_brace aexp_brace a (aexp_start x)

pub apply_complete : (n : ℕ) (r : Forms) → CompleteForms n r → {a b d : List Token} {x : AexpTree} {xs : List AexpTree} → IsAexp a b x → IsAexps b d xs → begins aexp_begins d ≡ false → begins is_brace d ≡ false
    → 8 * length a + 13 ≤ suc n → (next_forms n r).apply a ≡ Some (item.Closed (apply_of (place a) x xs), d)
apply_complete n r c {a = a} {b = b} {x = x} d y e f h =
    let k : 8 * length a + 12 ≤ n = omega arith in
    let s : length b < length a = aexp_shorter d in
    let m : 8 * length b + 13 ≤ n = omega arith in
    then_is (r.aexp a) _ x b (c.aexp d (aexps_brace y f) k) ∙ c.args y e f m (place a) x []

pub args_complete : (n : ℕ) (r : Forms) → CompleteForms n r → {a b : List Token} {xs : List AexpTree} → IsAexps a b xs → begins aexp_begins b ≡ false → begins is_brace b ≡ false → 8 * length a + 13 ≤ suc n
    → (at : Pos) (h : AexpTree) (ys : List AexpTree) → (next_forms n r).args at h ys a ≡ Some (item.Closed (apply_of at h (ys ++ xs)), b)
args_complete n r c (NoAexps {a = a}) e f h at g ys =
    if_not (begins aexp_begins a) _ _ e ∙ ap (λ l. let z : Found Operand = Some (item.Closed (apply_of at g l), a) in z) (sym (append-nil ys))
args_complete n r c (MoreAexps {a = a} {b = b} {c = u} {x = x} {xs = xs} d y) e f h at g ys =
    let k : 8 * length a + 12 ≤ n = omega arith in
    let s : length b < length a = aexp_shorter d in
    let m : 8 * length b + 13 ≤ n = omega arith in
    if_so (begins aexp_begins a) _ _ (aexp_start d) ∙ then_is (r.aexp a) _ x b (c.aexp d (aexps_brace y f) k) ∙ c.args y e f m at g (ys ++ x ∷ [])
    ∙ ap (λ l. let z : Found Operand = Some (item.Closed (apply_of at g l), u) in z) (append_assoc ys (x ∷ []) xs)
