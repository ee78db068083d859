-- What is read as the left side of a clause is derived as one, and what ends it stands behind it.
use Rattle.std.proofs.Common.{◌≡◌, ℕ, suc, zero, ◌+◌, ◌*◌, ◌<◌, ◌≤◌, Bool, true, false, cond, List, [], ◌∷◌, ◌++◌, length, Option, Some, None, refl, sym, ap, ◌∙◌, subst, arith}
use Rattle.mk_base.specs.declared.place.Pos.{Pos}
use Rattle.hs_syntax.specs.declared.token.Token.{Token}
use Rattle.hs_syntax.specs.declared.sign.Sign.{Sign}
use Rattle.hs_syntax.specs.declared.sign.Sign.TheVariants.{OpenParen, CloseParen, Equals, Bar}
use Rattle.hs_syntax.specs.declared.name_ref.NameRef.{NameRef}
use Rattle.hs_syntax.specs.declared.name_ref.OpName.{OpName}
use Rattle.hs_syntax.specs.declared.pattern_tree.ApatTree.{ApatTree}
use Rattle.hs_syntax.specs.declared.pattern_tree.PatTree.{PatTree}
use Rattle.hs_syntax.specs.declared.pattern_tree.LhsTree.{LhsTree}
use Rattle.hs_syntax.specs.declared.pattern_tree.LhsTree.TheVariants as lhs
use Rattle.hs_syntax.specs.Signs.{sign_of}
use Rattle.hs_syntax.specs.Reading.{Found, and_then, or_else, or_else_by, begins, behind, and_behind, is_open_paren, is_close_paren}
use Rattle.hs_syntax.proofs.Sound.{Sound, sound_then, sound_as, sound_or, sound_or_by, sound_behind}
use Rattle.hs_parts.specs.Names.{place, IsVar, IsVarop}
use Rattle.hs_parts.specs.NameReaders.{var_at, varop_at}
use Rattle.hs_parts.specs.PatternReaders.{PatternReaders, pattern_readers, begins_apat, pattern_at, apats_at, some_apats}
use Rattle.hs_parts.specs.SideReaders.{ends_side, ended, var_side, infix_right, infix_side, pattern_side, applied, applied_args, applied_side, next_side, function_side, enough, side_by, side_at}
use Rattle.hs_parts.specs.Grammar.{IsPattern, IsApats, NoApats, MoreApats, IsApat, IsFunction, VarFunction, AppliedFunction, InfixFunction, IsLhs, FunctionLhs, PatternLhs}
use Rattle.hs_parts.proofs.NamesSound.{var_sound, varop_sound, close_paren_of}
use Rattle.hs_parts.proofs.NamesComplete.{var_complete, var_shorter}
use Rattle.hs_parts.proofs.PatternsSound.{Apats, patterns_are_sound, pattern_sound, all_apats_sound}
use Rattle.hs_parts.proofs.PatternsComplete.{apats_go_on, all_apats_complete}

open_paren_of : (k : Sign) → is_open_paren k ≡ true → k ≡ OpenParen
open_paren_of OpenParen e = refl
open_paren_of _ e = cc

-- one apat or more
abbrev pub SomeApats : List Token → List Token → List ApatTree → Type 0
SomeApats ts to qs = (p : ApatTree) × (ps : List ApatTree) × (qs ≡ p ∷ ps) × IsApats ts to (p ∷ ps)

none_if : {X : Type 0} (P : List Token → X → Type 0) (b : Bool) → Sound P (cond b (let m : Found X = None in m) None)
none_if P true = tt
none_if P false = tt

apats_if : (n : ℕ) (ts : List Token) (b : Bool)
    → Sound (SomeApats ts) (cond b (cond b (and_then ((pattern_readers n).apat ts) (λ p rest. (pattern_readers n).apats ([] ++ p ∷ []) rest)) (Some ([], ts))) None)
apats_if n ts true = sound_then (IsApat ts) (SomeApats ts) ((pattern_readers n).apat ts) (λ p rest. (pattern_readers n).apats ([] ++ p ∷ []) rest) ((patterns_are_sound n).apat ts)
    (λ p rest d. sound_as (Apats ([] ++ p ∷ []) rest) (SomeApats ts) ((pattern_readers n).apats ([] ++ p ∷ []) rest) ((patterns_are_sound n).apats ([] ++ p ∷ []) rest)
    (λ to qs c. (p, c.0, c.1, MoreApats d c.2)))
apats_if n ts false = tt

pub some_apats_sound : (n : ℕ) (ts : List Token) → Sound (SomeApats ts) (some_apats n ts)
unfolding pattern_readers
some_apats_sound zero ts = none_if (SomeApats ts) (begins begins_apat ts)
some_apats_sound (suc n) ts = apats_if n ts (begins begins_apat ts)

-- what defines a function, with what ends it
abbrev pub FunctionAt : List Token → List Token → LhsTree → Type 0
FunctionAt a to l = IsFunction a to l × (begins ends_side to ≡ true)

-- a left side, with what ends it
abbrev pub LhsAt : List Token → List Token → LhsTree → Type 0
LhsAt a to l = IsLhs a to l × (begins ends_side to ≡ true)

ended_if : (P : List Token → LhsTree → Type 0) (l : LhsTree) (ts : List Token) → P ts l → (b : Bool) → begins ends_side ts ≡ b
    → Sound (λ to m. P to m × (begins ends_side to ≡ true)) (cond b (Some (l, ts)) None)
ended_if P l ts d true e = (d, e)
ended_if P l ts d false e = tt

ended_sound : (P : List Token → LhsTree → Type 0) (l : LhsTree) (ts : List Token) → P ts l → Sound (λ to m. P to m × (begins ends_side to ≡ true)) (ended l ts)
ended_sound P l ts d = ended_if P l ts d (begins ends_side ts) refl

pub var_side_sound : (n : ℕ) (a : List Token) → Sound (FunctionAt a) (var_side n a)
var_side_sound n a = sound_then (IsVar a) (FunctionAt a) (var_at a) (λ v rest. and_then (apats_at n rest) (λ ps last. ended (lhs.Function (place a) v ps) last)) (var_sound a)
    (λ v rest d. sound_then (IsApats rest) (FunctionAt a) (apats_at n rest) (λ ps last. ended (lhs.Function (place a) v ps) last) (all_apats_sound n rest)
    (λ ps last e. ended_sound (IsFunction a) (lhs.Function (place a) v ps) last (VarFunction d e)))

right_sound : (n : ℕ) (a b c : List Token) (p : PatTree) (o : OpName) → IsPattern a b p → IsVarop b c o → Sound (FunctionAt a) (infix_right n (place a) p o c)
right_sound n a b c p o d e = sound_then (IsPattern c) (FunctionAt a) (pattern_at n c) (λ q rest. ended (lhs.Infix (place a) p o q) rest) (pattern_sound n c)
    (λ q rest f. ended_sound (IsFunction a) (lhs.Infix (place a) p o q) rest (InfixFunction d e f))

infix_side_sound : (n : ℕ) (a : List Token) → Sound (FunctionAt a) (infix_side n a)
infix_side_sound n a = sound_then (IsPattern a) (FunctionAt a) (pattern_at n a) (λ p rest. and_then (varop_at rest) (λ o last. infix_right n (place a) p o last)) (pattern_sound n a)
    (λ p b d. sound_then (IsVarop b) (FunctionAt a) (varop_at b) (λ o last. infix_right n (place a) p o last) (varop_sound b) (λ o c e. right_sound n a b c p o d e))

args_sound : (n : ℕ) (o : Token) (b : List Token) (l : LhsTree) (c : Token) (d : List Token) → sign_of o ≡ OpenParen → IsFunction b (c ∷ d) l → sign_of c ≡ CloseParen
    → Sound (FunctionAt (o ∷ b)) (applied_args n o.at l d)
args_sound n o b l c d e f g = sound_then (SomeApats d) (FunctionAt (o ∷ b)) (some_apats n d) (λ ps rest. ended (applied o.at l ps) rest) (some_apats_sound n d)
    (λ ps rest h. ended_sound (IsFunction (o ∷ b)) (applied o.at l ps) rest
    (subst (λ qs. IsFunction (o ∷ b) rest (applied o.at l qs)) (sym h.2) (AppliedFunction e f g h.3)))

paren_sound : (n : ℕ) (side : List Token → Found LhsTree) → ((ts : List Token) → Sound (FunctionAt ts) (side ts)) → (o : Token) (b : List Token) → sign_of o ≡ OpenParen
    → Sound (FunctionAt (o ∷ b)) (and_then (side b) (λ l c. and_behind (behind is_close_paren c) (applied_args n o.at l) None))
paren_sound n side s o b e = sound_then (FunctionAt b) (FunctionAt (o ∷ b)) (side b) (λ l c. and_behind (behind is_close_paren c) (applied_args n o.at l) None) (s b)
    (λ l c f. sound_behind is_close_paren (FunctionAt (o ∷ b)) c (applied_args n o.at l) None
    (λ q d g h. args_sound n o b l q d e (subst (λ z. IsFunction b z l) g f.0) (close_paren_of (sign_of q) h)) tt)

paren_if : (n : ℕ) (side : List Token → Found LhsTree) → ((ts : List Token) → Sound (FunctionAt ts) (side ts)) → (o : Token) (b : List Token) (t : Bool) → is_open_paren (sign_of o) ≡ t
    → Sound (FunctionAt (o ∷ b)) (and_behind (cond t (Some b) None) (λ z. and_then (side z) (λ l c. and_behind (behind is_close_paren c) (applied_args n o.at l) None)) None)
paren_if n side s o b true e = paren_sound n side s o b (open_paren_of (sign_of o) e)
paren_if n side s o b false e = tt

applied_sound : (n : ℕ) (side : List Token → Found LhsTree) → ((ts : List Token) → Sound (FunctionAt ts) (side ts)) → (a : List Token) → Sound (FunctionAt a) (applied_side n side a)
applied_sound n side s [] = tt
applied_sound n side s (o ∷ b) = paren_if n side s o b (is_open_paren (sign_of o)) refl

pub function_side_sound : (n : ℕ) (a : List Token) → Sound (FunctionAt a) (function_side n a)
unfolding function_side
function_side_sound zero a = tt
function_side_sound (suc n) a = sound_or (FunctionAt a) (var_side n a) (or_else (infix_side n a) (applied_side n (function_side n) a)) (var_side_sound n a)
    (sound_or (FunctionAt a) (infix_side n a) (applied_side n (function_side n) a) (infix_side_sound n a) (applied_sound n (function_side n) (function_side_sound n) a))

-- what ends a left side goes on with no apat
pub side_end_apats : (k : Sign) → ends_side k ≡ true → apats_go_on k ≡ false
side_end_apats Equals e = refl
side_end_apats Bar e = refl
side_end_apats CloseParen e = refl
side_end_apats _ e = cc

pub side_ends_apats : (b : List Token) → begins ends_side b ≡ true → begins apats_go_on b ≡ false
side_ends_apats [] e = refl
side_ends_apats (t ∷ b) e = side_end_apats (sign_of t) e

-- a variable with its patterns is read where it is ended
pub var_side_complete : (n : ℕ) {a b c : List Token} {v : NameRef} {ps : List ApatTree} → IsVar a b v → IsApats b c ps → begins ends_side c ≡ true → 8 * length a + 3 ≤ n
    → var_side n a ≡ Some (lhs.Function (place a) v ps, c)
var_side_complete n {a = a} {b = b} {c = c} {v = v} {ps = ps} x y e h =
    let s : length b < length a = var_shorter x in
    let k : 8 * length b + 3 ≤ n = omega arith in
    ap (λ m. and_then m (λ u rest. and_then (apats_at n rest) (λ qs last. ended (lhs.Function (place a) u qs) last))) (var_complete x)
    ∙ (ap (λ m. and_then m (λ qs last. ended (lhs.Function (place a) v qs) last)) (all_apats_complete n y (side_ends_apats c e) k)
    ∙ ap (λ t. let r : Found LhsTree = cond t (Some (lhs.Function (place a) v ps, c)) None in r) e)

none_some : {X : Type 0} (x : X) → Path (Option X) None (Some x) → ⊥
none_some x e = cc

-- a pattern where no function's left side was read
alone_sound : (n : ℕ) (a : List Token) → 8 * length a + 3 ≤ n → var_side n a ≡ None → (p : PatTree) (b : List Token) → IsPattern a b p
    → (t : Bool) → begins ends_side b ≡ t → Sound (LhsAt a) (cond t (Some (lhs.Pattern (place a) p, b)) None)
alone_sound n a h g p b d true e = (PatternLhs (λ v x. none_some (lhs.Function (place a) v [], b) (sym g ∙ var_side_complete n x NoApats e h)) d, e)
alone_sound n a h g p b d false e = tt

pattern_side_sound : (n : ℕ) (a : List Token) → 8 * length a + 3 ≤ n → var_side n a ≡ None → Sound (LhsAt a) (pattern_side n a)
pattern_side_sound n a h g = sound_then (IsPattern a) (LhsAt a) (pattern_at n a)
    (λ p rest. or_else_by (varop_at rest) (λ o last. infix_right n (place a) p o last) (ended (lhs.Pattern (place a) p) rest)) (pattern_sound n a)
    (λ p b d. sound_or_by (IsVarop b) (LhsAt a) (varop_at b) (λ o last. infix_right n (place a) p o last) (ended (lhs.Pattern (place a) p) b) (varop_sound b)
    (λ o c e. sound_as (FunctionAt a) (LhsAt a) (infix_right n (place a) p o c) (right_sound n a b c p o d e) (λ to l f. (FunctionLhs f.0, f.1)))
    (alone_sound n a h g p b d (begins ends_side b) refl))

side_either : (n : ℕ) (a : List Token) → 8 * length a + 3 ≤ n → (m : Found LhsTree) → var_side n a ≡ m → Sound (LhsAt a) (or_else m (or_else (pattern_side n a) (applied_side n (function_side n) a)))
side_either n a h (Some p) g = let x : FunctionAt a p.1 p.0 = subst (Sound (FunctionAt a)) g (var_side_sound n a) in (FunctionLhs x.0, x.1)
side_either n a h None g = sound_or (LhsAt a) (pattern_side n a) (applied_side n (function_side n) a) (pattern_side_sound n a h g)
    (sound_as (FunctionAt a) (LhsAt a) (applied_side n (function_side n) a) (applied_sound n (function_side n) (function_side_sound n) a) (λ to l f. (FunctionLhs f.0, f.1)))

pub side_sound : (a : List Token) → Sound (LhsAt a) (side_at a)
side_sound a = let h : 8 * length a + 3 ≤ enough a = omega arith in side_either (enough a) a h (var_side (enough a) a) refl
