-- What is derived as a signature or a fixity is read as it, and no signature begins where a left side stands.
use Rattle.std.proofs.Common.{◌≡◌, ℕ, suc, zero, ◌+◌, ◌*◌, ◌<◌, ◌≤◌, Bool, true, false, cond, List, [], ◌∷◌, ◌++◌, length, Some, None, refl, sym, ap, ◌∙◌, append_assoc, subst, arith}
use Rattle.std.specs.declared.option.Option.{Option}
use Rattle.hs_syntax.specs.declared.token.Token.{Token}
use Rattle.hs_syntax.specs.declared.sign.Sign.{Sign}
use Rattle.hs_syntax.specs.declared.sign.Sign.TheVariants.{Var, Con, Minus, Bang, Star, VarSym, ConSym, Number, Infix, Infixl, Infixr, Comma, Typed, Backquote, Equals, Bar, OpenBrace, CloseBrace, OpenParen, CloseParen, OpenSquare, CloseSquare}
use Rattle.hs_syntax.specs.declared.name_ref.NameRef.{NameRef}
use Rattle.hs_syntax.specs.declared.name_ref.QopTree.{QopTree}
use Rattle.hs_syntax.specs.declared.pattern_tree.LhsTree.{LhsTree}
use Rattle.hs_syntax.specs.declared.type_tree.QualifiedType.{QualifiedType}
use Rattle.hs_syntax.specs.declared.expr_tree.FixWord.{FixWord}
use Rattle.hs_syntax.specs.declared.expr_tree.FixWord.TheVariants as fix
use Rattle.hs_syntax.specs.declared.expr_tree.FixTree.{FixTree}
use Rattle.hs_syntax.specs.declared.expr_tree.SigTree.{SigTree}
use Rattle.hs_syntax.specs.Signs.{sign_of}
use Rattle.hs_syntax.specs.Reading.{Found, and_then, with_first, begins, behind, and_behind, with_sign, is_comma, is_typed}
use Rattle.hs_syntax.proofs.Sound.{Sound, none_of}
use Rattle.hs_syntax.proofs.Cut.{cut, inner, stands, ends, is_plain, is_closing}
use Rattle.hs_parts.specs.Names.{place, is_varsym, IsVar, IsOp, VarSymOp, ConSymOp, VarIdOp, ConIdOp}
use Rattle.hs_parts.specs.NameReaders.{var_at, op_at}
use Rattle.hs_parts.specs.TypeReaders.{qualified_at}
use Rattle.hs_parts.specs.SideReaders.{ends_side}
use Rattle.hs_parts.specs.SigReaders.{vars_at, typed_vars, signature, sig_of, sig_at, ops_at, digit_or, digit_by, digit_at, fixity, fix_behind, fix_by, fix_at}
use Rattle.hs_parts.specs.Grammar.{IsVars, LastVar, MoreVars, IsQualified, IsSig, TypedSig, word_of, digit_of, IsDigit, NoDigit, OneDigit, IsOps, LastOp, MoreOps, IsFix, WordFix, IsLhs, FunctionLhs, PatternLhs}
use Rattle.hs_parts.proofs.NamesComplete.{var_shorter, var_complete, op_shorter, op_complete}
use Rattle.hs_parts.proofs.TypesComplete.{no_sign, TypeEnds}
use Rattle.hs_parts.proofs.ContextsComplete.{qualified_shorter, qualified_complete}
use Rattle.hs_parts.proofs.PatternsComplete.{begins_operand, to_apat, to_operand, var_start, pattern_start}
use Rattle.hs_parts.proofs.TypesCut.{varsym_plain, qualified_inner}
use Rattle.hs_parts.proofs.PatternsCut.{NoApat, NoPattern, NoSide, var_cut, var_inner, lhs_cut}
use Rattle.hs_parts.proofs.SidesComplete.{function_start}
use Rattle.hs_parts.proofs.SigsSound.{TypedVars, typed_vars_sound}

-- each takes tokens
pub vars_shorter : {a b : List Token} {ns : List NameRef} → IsVars a b ns → length b < length a
vars_shorter (LastVar d) = var_shorter d
vars_shorter (MoreVars {a} {b} {c} {m} d e r) = let h : length (m ∷ b) < length a = var_shorter d in let k : length c < length b = vars_shorter r in omega arith

pub sig_shorter : {a b : List Token} {s : SigTree} → IsSig a b s → length b < length a
sig_shorter (TypedSig {a} {b} {c} {t} d e q) = let h : length (t ∷ b) < length a = vars_shorter d in let k : length c < length b = qualified_shorter q in omega arith

pub ops_shorter : {a b : List Token} {qs : List QopTree} → IsOps a b qs → length b < length a
ops_shorter (LastOp d) = op_shorter d
ops_shorter (MoreOps {a} {b} {c} {m} d e r) = let h : length (m ∷ b) < length a = op_shorter d in let k : length c < length b = ops_shorter r in omega arith

digit_shorter : {a b : List Token} {d : Option ℕ} → IsDigit a b d → length b ≤ length a
digit_shorter NoDigit = omega arith
digit_shorter (OneDigit e f) = omega arith

pub fix_shorter : {a b : List Token} {f : FixTree} → IsFix a b f → length b < length a
fix_shorter (WordFix {a} {b} {c} e d r) = let h : length b ≤ length a = digit_shorter d in let k : length c < length b = ops_shorter r in omega arith

pub vars_complete : (n : ℕ) {a b : List Token} {ns : List NameRef} → IsVars a b ns → begins is_comma b ≡ false → 8 * length a + 1 ≤ n
    → (ms : List NameRef) → vars_at n ms a ≡ Some (ms ++ ns, b)
unfolding vars_at
vars_complete zero d f h ms = absurd (let x : ⊥ = omega arith in x)
vars_complete (suc n) (LastVar {a = a} {b = b} {n = v} d) f h ms =
    ap (λ m. and_then m (λ u rest. and_behind (behind is_comma rest) (vars_at n (ms ++ u ∷ [])) (Some (ms ++ u ∷ [], rest)))) (var_complete d)
    ∙ no_sign is_comma b (vars_at n (ms ++ v ∷ [])) (Some (ms ++ v ∷ [], b)) f
vars_complete (suc n) (MoreVars {a = a} {b = b} {c = z} {m = m} {n = v} {ns = ns} d e r) f h ms =
    let s : length (m ∷ b) < length a = var_shorter d in
    let l : 8 * length b + 1 ≤ n = omega arith in
    ap (λ q. and_then q (λ u rest. and_behind (behind is_comma rest) (vars_at n (ms ++ u ∷ [])) (Some (ms ++ u ∷ [], rest)))) (var_complete d)
    ∙ (ap (λ g. and_behind (cond (is_comma g) (Some b) None) (vars_at n (ms ++ v ∷ [])) (Some (ms ++ v ∷ [], m ∷ b))) e
    ∙ (vars_complete n r f l (ms ++ v ∷ []) ∙ ap (λ q. Some (q, z)) (append_assoc ms (v ∷ []) ns)))

pub typed_vars_complete : (n : ℕ) {a b : List Token} {t : Token} {ns : List NameRef} → IsVars a (t ∷ b) ns → sign_of t ≡ Typed → 8 * length a + 1 ≤ n → typed_vars n a ≡ Some (ns, b)
typed_vars_complete n {b = b} {ns = ns} d e h = ap (λ m. and_then m (λ ms rest. with_sign (behind is_typed rest) ms)) (vars_complete n d (ap is_comma e) h [])
    ∙ ap (λ k. with_sign (cond (is_typed k) (Some b) None) ns) e

pub sig_complete : (n : ℕ) {a b : List Token} {s : SigTree} → IsSig a b s → TypeEnds b → 8 * length a + 3 ≤ n → sig_at n a ≡ Some (s, b)
sig_complete n (TypedSig {a = a} {b = b} {t = t} {ns = ns} d e q) ends h =
    let i : 8 * length a + 1 ≤ n = omega arith in
    let s : length (t ∷ b) < length a = vars_shorter d in
    let j : 8 * length b + 3 ≤ n = omega arith in
    ap (λ m. and_then m (sig_of n (place a))) (typed_vars_complete n d e i)
    ∙ ap (λ m. and_then m (λ r last. let l : Found SigTree = Some (signature (place a) ns r, last) in l)) (qualified_complete n q ends j)

ops_complete : (n : ℕ) {a b : List Token} {qs : List QopTree} → IsOps a b qs → begins is_comma b ≡ false → 8 * length a + 1 ≤ n
    → (ps : List QopTree) → ops_at n ps a ≡ Some (ps ++ qs, b)
unfolding ops_at
ops_complete zero d f h ps = absurd (let x : ⊥ = omega arith in x)
ops_complete (suc n) (LastOp {a = a} {b = b} {q = q} d) f h ps =
    ap (λ m. and_then m (λ u rest. and_behind (behind is_comma rest) (ops_at n (ps ++ u ∷ [])) (Some (ps ++ u ∷ [], rest)))) (op_complete d)
    ∙ no_sign is_comma b (ops_at n (ps ++ q ∷ [])) (Some (ps ++ q ∷ [], b)) f
ops_complete (suc n) (MoreOps {a = a} {b = b} {c = z} {m = m} {q = q} {qs = qs} d e r) f h ps =
    let s : length (m ∷ b) < length a = op_shorter d in
    let l : 8 * length b + 1 ≤ n = omega arith in
    ap (λ p. and_then p (λ u rest. and_behind (behind is_comma rest) (ops_at n (ps ++ u ∷ [])) (Some (ps ++ u ∷ [], rest)))) (op_complete d)
    ∙ (ap (λ g. and_behind (cond (is_comma g) (Some b) None) (ops_at n (ps ++ q ∷ [])) (Some (ps ++ q ∷ [], m ∷ b))) e
    ∙ (ops_complete n r f l (ps ++ q ∷ []) ∙ ap (λ p. Some (p, z)) (append_assoc ps (q ∷ []) qs)))

-- where an operator begins there is no digit
abbrev begins_op : Sign → Bool
begins_op Backquote = true
begins_op ConSym = true
begins_op k = is_varsym k

varsym_begins : (k : Sign) → is_varsym k ≡ true → begins_op k ≡ true
varsym_begins Backquote e = refl
varsym_begins ConSym e = refl
varsym_begins k e = e

op_start : {a b : List Token} {q : QopTree} → IsOp a b q → begins begins_op a ≡ true
op_start (VarSymOp {t = t} e) = varsym_begins (sign_of t) e
op_start (ConSymOp e) = ap begins_op e
op_start (VarIdOp e f g) = ap begins_op e
op_start (ConIdOp e f g) = ap begins_op e

ops_start : {a b : List Token} {qs : List QopTree} → IsOps a b qs → begins begins_op a ≡ true
ops_start (LastOp d) = op_start d
ops_start (MoreOps d e r) = op_start d

no_digit_by : (t : Token) (ts : List Token) (k : Sign) → begins_op k ≡ true → digit_by t ts k ≡ Some (None, t ∷ ts)
no_digit_by t ts Number e = cc
no_digit_by t ts _ e = refl

no_digit : (a : List Token) → begins begins_op a ≡ true → digit_at a ≡ Some (None, a)
no_digit [] e = refl
no_digit (t ∷ ts) e = no_digit_by t ts (sign_of t) e

digit_complete : {a b : List Token} {d : Option ℕ} → IsDigit a b d → begins begins_op b ≡ true → digit_at a ≡ Some (d, b)
digit_complete (NoDigit {a}) s = no_digit a s
digit_complete (OneDigit {a = a} {t = t} e f) s = ap (digit_by t a) e ∙ ap (λ m. digit_or m a) f

fix_word : (n : ℕ) (t : Token) (a : List Token) (w : FixWord) (k : Sign) → word_of k ≡ Some w → fix_by n t a k ≡ fix_behind n t.at w a
fix_word n t a w Infixl e = ap (λ m. fix_behind n t.at m a) (word_same fix.Infixl w e)
  where
    word_same : (v w : FixWord) → Path (Option FixWord) (Some v) (Some w) → v ≡ w
    word_same v w e = cc
fix_word n t a w Infixr e = ap (λ m. fix_behind n t.at m a) (word_same fix.Infixr w e)
  where
    word_same : (v w : FixWord) → Path (Option FixWord) (Some v) (Some w) → v ≡ w
    word_same v w e = cc
fix_word n t a w Infix e = ap (λ m. fix_behind n t.at m a) (word_same fix.Infix w e)
  where
    word_same : (v w : FixWord) → Path (Option FixWord) (Some v) (Some w) → v ≡ w
    word_same v w e = cc
fix_word n t a w _ e = cc

pub fix_complete : (n : ℕ) {a b : List Token} {f : FixTree} → IsFix a b f → begins is_comma b ≡ false → 8 * length a + 1 ≤ n → fix_at n a ≡ Some (f, b)
fix_complete n (WordFix {a = a} {b = b} {c = z} {t = t} {w = w} {d = d} e x r) f h =
    let s : length b ≤ length a = digit_shorter x in
    let k : 8 * length b + 1 ≤ n = omega arith in
    fix_word n t a w (sign_of t) e
    ∙ (ap (λ m. and_then m (λ c rest. and_then (ops_at n [] rest) (λ qs last. let l : Found FixTree = Some (fixity t.at w c qs, last) in l))) (digit_complete x (ops_start r))
    ∙ ap (λ m. and_then m (λ qs last. let l : Found FixTree = Some (fixity t.at w d qs, last) in l)) (ops_complete n r f k []))

-- Where a left side stands no signature begins

-- what ends a left side or a list of variables
abbrev pub is_side_mark : Sign → List Token → Bool
is_side_mark Comma ts = true
is_side_mark Typed ts = true
is_side_mark Equals ts = true
is_side_mark Bar ts = true
is_side_mark _ ts = false

no_side_mark : NoSide is_side_mark
no_side_mark = record {
  pattern = record {
    apat = record { var = λ ts. refl; con = λ ts. refl; qcon = λ ts. refl; number = λ ts. refl; quoted = λ ts. refl; wild = λ ts. refl; at = λ ts. refl; tilde = λ ts. refl };
    minus = λ ts. refl;
    colon = λ ts. refl;
    consym = λ ts. refl;
    qconsym = λ ts. refl;
    backquote = λ ts. refl;
  };
  bang = λ ts. refl;
  star = λ ts. refl;
  varsym = λ ts. refl;
}

end_marked : (t : Token) (ts : List Token) (k : Sign) → sign_of t ≡ k → ends_side k ≡ true → cut is_side_mark (t ∷ ts) 0 ≡ t ∷ ts
end_marked t ts Equals e f = stands is_side_mark t ts (ap is_plain e) (ap (λ g. is_side_mark g ts) e)
end_marked t ts Bar e f = stands is_side_mark t ts (ap is_plain e) (ap (λ g. is_side_mark g ts) e)
end_marked t ts CloseParen e f = ends is_side_mark t ts (ap is_closing e)
end_marked t ts _ e f = cc

side_marked : (b : List Token) → begins ends_side b ≡ true → begins ends_side (cut is_side_mark b 0) ≡ true
side_marked [] e = e
side_marked (t ∷ ts) e = ap (begins ends_side) (end_marked t ts (sign_of t) refl e) ∙ e

sign_marked : (t : Token) (ts : List Token) (k : Sign) → sign_of t ≡ k → is_plain k ≡ true → is_side_mark k ts ≡ true → begins ends_side (cut is_side_mark (t ∷ ts) 0) ≡ ends_side k
sign_marked t ts k e f g = ap (begins ends_side) (stands is_side_mark t ts (ap is_plain e ∙ f) (ap (λ h. is_side_mark h ts) e ∙ g)) ∙ ap ends_side e

vars_marked : {a b : List Token} {t : Token} {ns : List NameRef} → IsVars a (t ∷ b) ns → sign_of t ≡ Typed → begins ends_side (cut is_side_mark a 0) ≡ false
vars_marked {b = b} {t = t} (LastVar d) e = ap (begins ends_side) (var_cut is_side_mark no_side_mark.pattern.apat d 0) ∙ sign_marked t b Typed e refl refl
vars_marked (MoreVars {b = b} {m = m} d f r) e = ap (begins ends_side) (var_cut is_side_mark no_side_mark.pattern.apat d 0) ∙ sign_marked m b Comma f refl refl

true_false : {b : Bool} → b ≡ true → b ≡ false → ⊥
true_false e f = cc

-- No variables with a :: stand where a left side does that is ended.
pub unsigned : (n : ℕ) {a b : List Token} {l : LhsTree} → IsLhs a b l → begins ends_side b ≡ true → typed_vars n a ≡ None
unsigned n {a = a} {b = b} x e = none_of (TypedVars a) (typed_vars n a) (typed_vars_sound n a)
    (λ rest ns c. true_false (ap (begins ends_side) (lhs_cut is_side_mark no_side_mark x 0) ∙ side_marked b e) (vars_marked c.1 c.2))

pub no_sig : (n : ℕ) {a b : List Token} {l : LhsTree} → IsLhs a b l → begins ends_side b ≡ true → sig_at n a ≡ None
no_sig n {a = a} x e = ap (λ m. and_then m (sig_of n (place a))) (unsigned n x e)

-- Nor does a fixity, nor where a signature stands

no_fix_by : (n : ℕ) (t : Token) (ts : List Token) (k : Sign) → begins_operand k ≡ true → fix_by n t ts k ≡ None
no_fix_by n t ts Infixl e = cc
no_fix_by n t ts Infixr e = cc
no_fix_by n t ts Infix e = cc
no_fix_by n t ts _ e = refl

no_fix : (n : ℕ) (a : List Token) → begins begins_operand a ≡ true → fix_at n a ≡ None
no_fix n [] e = refl
no_fix n (t ∷ ts) e = no_fix_by n t ts (sign_of t) e

pub lhs_start : {a b : List Token} {l : LhsTree} → IsLhs a b l → begins begins_operand a ≡ true
lhs_start (FunctionLhs x) = function_start x
lhs_start (PatternLhs g x) = pattern_start x

pub vars_start : {a b : List Token} {ns : List NameRef} → IsVars a b ns → begins begins_operand a ≡ true
vars_start (LastVar {a = a} x) = to_operand a (to_apat a (var_start x))
vars_start (MoreVars {a = a} x e y) = to_operand a (to_apat a (var_start x))

pub side_no_fix : (n : ℕ) {a b : List Token} {l : LhsTree} → IsLhs a b l → fix_at n a ≡ None
side_no_fix n {a = a} x = no_fix n a (lhs_start x)

pub sig_no_fix : (n : ℕ) {a b : List Token} {s : SigTree} → IsSig a b s → fix_at n a ≡ None
sig_no_fix n (TypedSig {a = a} x e q) = no_fix n a (vars_start x)

-- Signatures and fixities are passed over whole

op_inner : (p : Sign → List Token → Bool) {a b : List Token} {q : QopTree} → IsOp a b q → (d : ℕ) → cut p a (suc d) ≡ cut p b (suc d)
op_inner p (VarSymOp {a = a} {t = t} e) d = inner p t a (sign_of t) refl (varsym_plain (sign_of t) e) d
op_inner p (ConSymOp {a = a} {t = t} e) d = inner p t a ConSym e refl d
op_inner p (VarIdOp {a = a} {o = o} {t = t} {c = c} e f g) d = inner p o (t ∷ c ∷ a) Backquote e refl d ∙ inner p t (c ∷ a) Var f refl d ∙ inner p c a Backquote g refl d
op_inner p (ConIdOp {a = a} {o = o} {t = t} {c = c} e f g) d = inner p o (t ∷ c ∷ a) Backquote e refl d ∙ inner p t (c ∷ a) Con f refl d ∙ inner p c a Backquote g refl d

ops_inner : (p : Sign → List Token → Bool) {a b : List Token} {qs : List QopTree} → IsOps a b qs → (d : ℕ) → cut p a (suc d) ≡ cut p b (suc d)
ops_inner p (LastOp x) d = op_inner p x d
ops_inner p (MoreOps {b = b} {m = m} x e y) d = op_inner p x d ∙ inner p m b Comma e refl d ∙ ops_inner p y d

digit_inner : (p : Sign → List Token → Bool) {a b : List Token} {c : Option ℕ} → IsDigit a b c → (d : ℕ) → cut p a (suc d) ≡ cut p b (suc d)
digit_inner p NoDigit d = refl
digit_inner p (OneDigit {a = a} {t = t} e f) d = inner p t a Number e refl d

word_plain : (k : Sign) (w : FixWord) → word_of k ≡ Some w → is_plain k ≡ true
word_plain Infixl w e = refl
word_plain Infixr w e = refl
word_plain Infix w e = refl
word_plain _ w e = cc

pub fix_inner : (p : Sign → List Token → Bool) {a b : List Token} {f : FixTree} → IsFix a b f → (d : ℕ) → cut p a (suc d) ≡ cut p b (suc d)
fix_inner p (WordFix {a = a} {t = t} {w = w} e x y) d = inner p t a (sign_of t) refl (word_plain (sign_of t) w e) d ∙ digit_inner p x d ∙ ops_inner p y d

pub vars_inner : (p : Sign → List Token → Bool) {a b : List Token} {ns : List NameRef} → IsVars a b ns → (d : ℕ) → cut p a (suc d) ≡ cut p b (suc d)
vars_inner p (LastVar x) d = var_inner p x d
vars_inner p (MoreVars {b = b} {m = m} x e y) d = var_inner p x d ∙ inner p m b Comma e refl d ∙ vars_inner p y d

pub sig_inner : (p : Sign → List Token → Bool) {a b : List Token} {s : SigTree} → IsSig a b s → (d : ℕ) → cut p a (suc d) ≡ cut p b (suc d)
sig_inner p (TypedSig {b = b} {t = t} x e q) d = vars_inner p x d ∙ inner p t b Typed e refl d ∙ qualified_inner p q d
