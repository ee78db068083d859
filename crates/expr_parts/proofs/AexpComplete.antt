-- What is derived as an atomic expression is read as it.
use Rattle.std.proofs.Common.{◌≡◌, ℕ, suc, ◌+◌, ◌*◌, ◌<◌, ◌≤◌, Bool, true, false, cond, List, [], ◌∷◌, ◌++◌, length, Option, Some, None, refl, sym, ap, ◌∙◌, append_assoc, arith}
use Rattle.std.proofs.lemmas.List.{append-nil}
use Rattle.mk_base.specs.declared.place.Pos.{Pos}
use Rattle.hs_syntax.specs.declared.token.Token.{Token}
use Rattle.hs_syntax.specs.declared.sign.Sign.{Sign}
use Rattle.hs_syntax.specs.declared.sign.Sign.TheVariants.{Var, QualifiedVar, Con, QualifiedCon, Minus, Number, Quoted, OpenBrace, CloseBrace, OpenParen, CloseParen, OpenSquare, CloseSquare, Comma, Dots, Bar, Case, Do, If, Let, Lambda, Colon, ConSym, QualifiedConSym}
use Rattle.hs_syntax.specs.declared.name_ref.NameRef.{NameRef}
use Rattle.hs_syntax.specs.declared.name_ref.QopTree.{QopTree}
use Rattle.hs_syntax.specs.declared.pattern_tree.GconTree.{GconTree}
use Rattle.hs_syntax.specs.declared.pattern_tree.GconTree.TheVariants as gcon
use Rattle.hs_syntax.specs.declared.expr_tree.ExprTree.{ExprTree}
use Rattle.hs_syntax.specs.declared.expr_tree.ChainTree.{ChainTree}
use Rattle.hs_syntax.specs.declared.expr_tree.AexpTree.{AexpTree}
use Rattle.hs_syntax.specs.declared.expr_tree.AexpTree.TheVariants as atom
use Rattle.hs_syntax.specs.declared.expr_tree.UpdateTree.{UpdateTree}
use Rattle.hs_syntax.specs.declared.expr_tree.FbindTree.{FbindTree}
use Rattle.hs_syntax.specs.declared.expr_tree.QualTree.{QualTree}
use Rattle.hs_syntax.specs.Signs.{sign_of}
use Rattle.hs_syntax.specs.Made.{expr_tree, chain_tree, update_tree}
use Rattle.hs_syntax.specs.Reading.{Found, and_then, begins, behind, and_behind, is_comma, is_close_paren, is_close_square, is_equals, is_dots}
use Rattle.hs_syntax.proofs.Sound.{none_of}
use Rattle.hs_parts.specs.Names.{place, is_qvarid, is_qconid, is_literal, is_qvarsym, is_gconsym, IsQvar, VarIdQvar, VarSymQvar, IsQcon, ConIdQcon, ConSymQcon, LastComma, MoreCommas, IsGcon, ConGcon, UnitGcon, ListGcon, TupleGcon, IsQop}
use Rattle.hs_parts.specs.NameReaders.{qvar_at, gcon_at, qop_at}
use Rattle.hs_parts.specs.PatternReaders.{is_brace, is_close_brace}
use Rattle.expr_parts.specs.Grammar.{IsExp, PlainExp, TypedExp, IsChain, LinkedChain, IsAexp, SimpleAexp, UpdateAexp, IsSimple, VarSimple, ConSimple, LiteralSimple, TupleSimple, ListSimple, RangeSimple, ComprehensionSimple, LeftSimple, RightSimple, RecordSimple, IsExps, LastExp, MoreExps, IsNext, NoNext, ANext, IsLimit, NoLimit, ALimit, IsUpdates, NoUpdates, MoreUpdates, IsFbinds, LastFbind, MoreFbinds, IsFbind, FieldFbind, IsQuals}
use Rattle.expr_parts.specs.Expressions.{Forms, is_minus, section_end_at, section_start_at, behind_close_of, behind_empty, record_of, con_at, literal_at, var_atom_at, atom_at, updated, typed_at, fbinds_on, simple_by, tuple_at, inside_at, listed_by, next_forms}
use Rattle.expr_parts.proofs.PartsSound.{PartsSound}
use Rattle.expr_parts.proofs.PartsComplete.{Parts}
use Rattle.hs_parts.proofs.NamesComplete.{qvar_shorter, qop_shorter}
use Rattle.hs_parts.proofs.ContextsComplete.{qualified_shorter}
use Rattle.expr_parts.proofs.Shorter.{exp_shorter, links_shorter, simple_shorter, fbinds_shorter}
use Rattle.expr_parts.proofs.Derived.{IsMore, NoMore, More}
use Rattle.expr_parts.proofs.Starts.{false_true, is_open_square, Starts, PlainStart, MinusStart, exp_begins, exp_start, exps_start, chain_start, op_begins, no_square, apart, paren_no_qvar, paren_no_gcon, square_no_qvar, square_no_gcon, section_no_qvar, section_no_gcon}
use Rattle.expr_parts.proofs.Ends.{Ends, chain_ends, ends_at, is_end, end_no_op, no_qop, no_section, section_complete, ends_section}
use Rattle.expr_parts.proofs.Read.{CompleteForms, chained, then_is, or_is, or_not, else_is, else_not, past, beside, signed, if_so, if_not}
use Rattle.expr_parts.proofs.ChainComplete.{typed_plain, typed_typed, typed_ends}

-- Updates

updates_full : {a b c : List Token} {x : AexpTree} {u : UpdateTree} {us : List UpdateTree} → IsUpdates b c (u ∷ us) → IsSimple a b x → IsAexp a c (atom.Update (place a) x (u ∷ us))
updates_full y x = UpdateAexp x y

-- no empty braces stand where an update does, nor where no brace does
empty_by : (o : Token) (a : List Token) (v : Bool) → v ≡ false → Path (Option (List Token)) (behind_close_of (cond v (Some a) None)) None
empty_by o a v e = ap (λ k. behind_close_of (cond k (Some a) None)) e

no_empty : (b : List Token) → begins is_brace b ≡ false → Path (Option (List Token)) (behind_empty b) None
no_empty [] e = refl
no_empty (o ∷ a) e = empty_by o a (is_brace (sign_of o)) e

close_by : (c : Token) (b : List Token) → is_close_brace (sign_of c) ≡ false → Path (Option (List Token)) (behind is_close_brace (c ∷ b)) None
close_by c b e = ap (λ k. let z : Option (List Token) = cond k (Some b) None in z) e

close_at : (a : List Token) → begins is_close_brace a ≡ false → Path (Option (List Token)) (behind is_close_brace a) None
close_at [] e = refl
close_at (c ∷ b) e = close_by c b e

brace_close : (o : Token) (a : List Token) → is_brace (sign_of o) ≡ true → begins is_close_brace a ≡ false → Path (Option (List Token)) (behind_empty (o ∷ a)) None
brace_close o a e f = ap (λ k. behind_close_of (cond k (Some a) None)) e ∙ close_at a f

qvarid_brace : (k : Sign) → is_qvarid k ≡ true → is_close_brace k ≡ false
qvarid_brace Var e = refl
qvarid_brace QualifiedVar e = refl
qvarid_brace _ e = absurd (false_true e)

qvar_brace : {a b : List Token} {x : NameRef} → IsQvar a b x → begins is_close_brace a ≡ false
qvar_brace (VarIdQvar {t = t} e) = qvarid_brace (sign_of t) e
qvar_brace (VarSymQvar e f g) = ap is_close_brace e

fbinds_brace : {a b : List Token} {fs : List FbindTree} → IsFbinds a b fs → begins is_close_brace a ≡ false
fbinds_brace (LastFbind (FieldFbind x e y)) = qvar_brace x
fbinds_brace (MoreFbinds (FieldFbind x e y) f z) = qvar_brace x

updates_empty : {b c : List Token} {us : List UpdateTree} → IsUpdates b c us → begins is_brace c ≡ false → Path (Option (List Token)) (behind_empty b) None
updates_empty (NoUpdates {a = a}) e = no_empty a e
updates_empty (MoreUpdates {a = a} {o = o} f x g y) e = brace_close o a (ap is_brace f) (fbinds_brace x)

pub aexp_complete : (n : ℕ) (r : Forms) → CompleteForms n r → {a b : List Token} {x : AexpTree} → IsAexp a b x → begins is_brace b ≡ false → 8 * length a + 12 ≤ suc n → (next_forms n r).aexp a ≡ Some (x, b)
aexp_complete n r c (SimpleAexp {a = a} {b = b} {x = x} d) e h =
    let k : 8 * length a + 11 ≤ n = omega arith in
    let s : length b < length a = simple_shorter d in
    let m : 8 * length b + 11 ≤ n = omega arith in
    then_is (r.simple a) _ x b (c.simple d (no_empty b e) k) ∙ c.updates NoUpdates e m (place a) x []
aexp_complete n r c (UpdateAexp {a = a} {b = b} {x = x} d y) e h =
    let k : 8 * length a + 11 ≤ n = omega arith in
    let s : length b < length a = simple_shorter d in
    let m : 8 * length b + 11 ≤ n = omega arith in
    then_is (r.simple a) _ x b (c.simple d (updates_empty y e) k) ∙ c.updates y e m (place a) x []

pub updates_complete : (n : ℕ) (r : Forms) → CompleteForms n r → {a b : List Token} {us : List UpdateTree} → IsUpdates a b us → begins is_brace b ≡ false → 8 * length a + 11 ≤ suc n → (at : Pos) (x : AexpTree) (vs : List UpdateTree)
    → (next_forms n r).updates at x vs a ≡ Some (updated at x (vs ++ us), b)
updates_complete n r c (NoUpdates {a = a}) e h at x vs = beside is_brace a _ _ e ∙ ap (λ l. let z : Found AexpTree = Some (updated at x l, a) in z) (sym (append-nil vs))
updates_complete n r c (MoreUpdates {a = a} {b = b} {d = d} {o = o} {c = w} {fs = fs} {us = us} f y g z) e h at x vs =
    let k : 8 * length a + 11 ≤ n = omega arith in
    let s : length (w ∷ b) < length a = fbinds_shorter y in
    let m : 8 * length b + 11 ≤ n = omega arith in
    past is_brace o a _ _ (ap is_brace f) ∙ then_is (r.fbinds [] a) _ fs (w ∷ b) (c.fbinds y g k []) ∙ past is_close_brace w b _ _ (ap is_close_brace g)
    ∙ c.updates z e m at x (vs ++ update_tree o.at fs ∷ []) ∙ ap (λ l. let v : Found AexpTree = Some (updated at x l, d) in v) (append_assoc vs (update_tree o.at fs ∷ []) us)

fbind_read : (p : Parts) (n : ℕ) (r : Forms) → CompleteForms n r → {a b : List Token} {x : FbindTree} → IsFbind a b x → Ends false b → 8 * length a + 11 ≤ suc n → (gs : List FbindTree)
    → (next_forms n r).fbinds gs a ≡ fbinds_on r (gs ++ x ∷ []) b
fbind_read p n r c (FieldFbind {a = a} {b = b} {c = z} {t = t} {n = v} {e = y} x e d) ends h gs =
    let s : length (t ∷ b) < length a = qvar_shorter x in
    let k : 8 * length b + 16 ≤ n = omega arith in
    then_is (qvar_at a) _ v (t ∷ b) (p.complete.qvar x) ∙ past is_equals t b _ _ (ap is_equals e) ∙ then_is (r.exp false b) _ y z (c.exp false d ends k)

fbind_shorter : {a b : List Token} {x : FbindTree} → IsFbind a b x → length b < length a
fbind_shorter (FieldFbind {a = a} {b = b} {c = c} {t = t} x e y) = let h : length (t ∷ b) < length a = qvar_shorter x in let k : length c < length b = exp_shorter y in omega arith

pub fbinds_complete : (p : Parts) (n : ℕ) (r : Forms) → CompleteForms n r → {w : Token} {a b : List Token} {fs : List FbindTree} → IsFbinds a (w ∷ b) fs → sign_of w ≡ CloseBrace false → 8 * length a + 11 ≤ suc n
    → (gs : List FbindTree) → (next_forms n r).fbinds gs a ≡ Some (gs ++ fs, w ∷ b)
fbinds_complete p n r c {w = w} {b = b} (LastFbind {f = f} x) e h gs =
    fbind_read p n r c x (ends_at p.sound w b (ap is_end e)) h gs ∙ beside is_comma (w ∷ b) _ _ (ap is_comma e)
fbinds_complete p n r c {w = w} {b = z} (MoreFbinds {a = a} {b = b} {m = m} {f = f} {fs = fs} x g y) e h gs =
    let s : length (m ∷ b) < length a = fbind_shorter x in
    let k : 8 * length b + 11 ≤ n = omega arith in
    fbind_read p n r c x (ends_at p.sound m b (ap is_end g)) h gs ∙ past is_comma m b _ _ (ap is_comma g) ∙ c.fbinds y e k (gs ++ f ∷ [])
    ∙ ap (λ l. let v : Found (List FbindTree) = Some (l, w ∷ z) in v) (append_assoc gs (f ∷ []) fs)

-- Names and literals

no_qvar : (q : PartsSound) (a : List Token) → ((b : List Token) (x : NameRef) → IsQvar a b x → ⊥) → var_atom_at a ≡ None
no_qvar q a f = ap (λ m. and_then m (λ n rest. let z : Found AexpTree = Some (atom.Var (place a) n, rest) in z)) (none_of (IsQvar a) (qvar_at a) (q.qvar a) f)

no_con : (q : PartsSound) (a : List Token) → ((b : List Token) (x : GconTree) → IsGcon a b x → ⊥) → con_at a ≡ None
no_con q a f = ap (λ m. and_then m (λ g rest. and_behind (behind_empty rest) (record_of (place a) g) (let z : Found AexpTree = Some (atom.Con (place a) g, rest) in z))) (none_of (IsGcon a) (gcon_at a) (q.gcon a) f)

no_literal : (t : Token) (a : List Token) → is_literal (sign_of t) ≡ false → literal_at (t ∷ a) ≡ None
no_literal t a e = if_not (is_literal (sign_of t)) _ _ e

-- what begins with a constructor or a literal is no variable
no_var_qcon : {a b c : List Token} {x y : NameRef} → IsQvar a b x → IsQcon a c y → ⊥
no_var_qcon (VarIdQvar {t = t} e) (ConIdQcon f) = apart is_qvarid is_qconid qvar_con (sign_of t) e f
  where
    qvar_con : (k : Sign) → is_qvarid k ≡ true → is_qconid k ≡ false
    qvar_con Con g = absurd (false_true g)
    qvar_con QualifiedCon g = absurd (false_true g)
    qvar_con _ g = refl
no_var_qcon (VarIdQvar e) (ConSymQcon f g h) = false_true (sym (ap is_qvarid f) ∙ e)
no_var_qcon (VarSymQvar e f g) (ConIdQcon h) = false_true (sym (ap is_qconid e) ∙ h)
no_var_qcon (VarSymQvar {t = t} e f g) (ConSymQcon h i j) = apart is_qvarsym is_gconsym qvarsym_con (sign_of t) f i
  where
    qvarsym_con : (k : Sign) → is_qvarsym k ≡ true → is_gconsym k ≡ false
    qvarsym_con Colon y = absurd (false_true y)
    qvarsym_con ConSym y = absurd (false_true y)
    qvarsym_con QualifiedConSym y = absurd (false_true y)
    qvarsym_con _ y = refl

no_var_gcon : {a b c : List Token} {x : NameRef} {g : GconTree} → IsQvar a b x → IsGcon a c g → ⊥
no_var_gcon d (ConGcon y) = no_var_qcon d y
no_var_gcon (VarIdQvar e) (UnitGcon f g) = false_true (sym (ap is_qvarid f) ∙ e)
no_var_gcon (VarSymQvar e f g) (UnitGcon h i) = false_true (sym (ap is_qvarsym i) ∙ f)
no_var_gcon (VarIdQvar e) (ListGcon f g) = false_true (sym (ap is_qvarid f) ∙ e)
no_var_gcon (VarSymQvar e f g) (ListGcon h i) = false_true (sym (ap is_open_square e) ∙ ap is_open_square h)
no_var_gcon (VarIdQvar e) (TupleGcon f x g) = false_true (sym (ap is_qvarid f) ∙ e)
no_var_gcon (VarSymQvar e f g) (TupleGcon h (LastComma i) j) = false_true (sym (ap is_qvarsym i) ∙ f)
no_var_gcon (VarSymQvar e f g) (TupleGcon h (MoreCommas i x) j) = false_true (sym (ap is_qvarsym i) ∙ f)

literal_no_qvarid : (k : Sign) → is_literal k ≡ true → is_qvarid k ≡ false
literal_no_qvarid Number e = refl
literal_no_qvarid Quoted e = refl
literal_no_qvarid _ e = absurd (false_true e)

literal_no_qconid : (k : Sign) → is_literal k ≡ true → is_qconid k ≡ false
literal_no_qconid Number e = refl
literal_no_qconid Quoted e = refl
literal_no_qconid _ e = absurd (false_true e)

no_var_literal : {t : Token} {a b : List Token} {x : NameRef} → is_literal (sign_of t) ≡ true → IsQvar (t ∷ a) b x → ⊥
no_var_literal e (VarIdQvar {t = t} f) = apart is_literal is_qvarid literal_no_qvarid (sign_of t) e f
no_var_literal e (VarSymQvar f g h) = false_true (sym (ap is_literal f) ∙ e)

no_con_literal : {t : Token} {a b : List Token} {x : GconTree} → is_literal (sign_of t) ≡ true → IsGcon (t ∷ a) b x → ⊥
no_con_literal e (ConGcon (ConIdQcon {t = t} f)) = apart is_literal is_qconid literal_no_qconid (sign_of t) e f
no_con_literal e (ConGcon (ConSymQcon f g h)) = false_true (sym (ap is_literal f) ∙ e)
no_con_literal e (UnitGcon f g) = false_true (sym (ap is_literal f) ∙ e)
no_con_literal e (ListGcon f g) = false_true (sym (ap is_literal f) ∙ e)
no_con_literal e (TupleGcon f x g) = false_true (sym (ap is_literal f) ∙ e)

no_atom : (q : PartsSound) (t : Token) (a : List Token) → ((b : List Token) (x : NameRef) → IsQvar (t ∷ a) b x → ⊥) → ((b : List Token) (x : GconTree) → IsGcon (t ∷ a) b x → ⊥) → is_literal (sign_of t) ≡ false
    → atom_at (t ∷ a) ≡ None
no_atom q t a f g e = else_not (var_atom_at (t ∷ a)) _ (no_qvar q (t ∷ a) f) ∙ else_not (con_at (t ∷ a)) _ (no_con q (t ∷ a) g) ∙ no_literal t a e

paren_atom : (p : Parts) (o : Token) (a : List Token) → sign_of o ≡ OpenParen → Starts a → atom_at (o ∷ a) ≡ None
paren_atom p o a e s = no_atom p.sound o a (λ b x d. paren_no_qvar d e s) (λ b x d. paren_no_gcon d e s) (ap is_literal e)

section_atom : (p : Parts) (o : Token) (a b : List Token) (x : QopTree) → sign_of o ≡ OpenParen → IsQop a b x → Starts b → atom_at (o ∷ a) ≡ None
section_atom p o a b x e q s = no_atom p.sound o a (λ b x d. section_no_qvar d e q s) (λ b x d. section_no_gcon d e q s) (ap is_literal e)

square_atom : (p : Parts) (o : Token) (a : List Token) → sign_of o ≡ OpenSquare → Starts a → atom_at (o ∷ a) ≡ None
square_atom p o a e s = no_atom p.sound o a (λ b x d. square_no_qvar d e) (λ b x d. square_no_gcon d e s) (ap is_literal e)

empty_braces : (o c : Token) (b : List Token) → sign_of o ≡ OpenBrace false → sign_of c ≡ CloseBrace false → Path (Option (List Token)) (behind_empty (o ∷ c ∷ b)) (Some b)
empty_braces o c b e f = ap (λ k. behind_close_of (cond (is_brace k) (Some (c ∷ b)) None)) e ∙ ap (λ k. let z : Option (List Token) = cond (is_close_brace k) (Some b) None in z) f

pub simple_complete : (p : Parts) (n : ℕ) (r : Forms) → CompleteForms n r → {a b : List Token} {x : AexpTree} → IsSimple a b x → Path (Option (List Token)) (behind_empty b) None → 8 * length a + 11 ≤ suc n
    → (next_forms n r).simple a ≡ Some (x, b)
simple_complete p n r c (VarSimple {a = a} {b = b} {n = v} x) e h =
    else_is (atom_at a) _ (atom.Var (place a) v) b (else_is (var_atom_at a) _ (atom.Var (place a) v) b (then_is (qvar_at a) _ v b (p.complete.qvar x)))
simple_complete p n r c (ConSimple {a = a} {b = b} {g = g} x) e h =
    else_is (atom_at a) _ (atom.Con (place a) g) b (else_not (var_atom_at a) _ (no_qvar p.sound a (λ b y d. no_var_gcon d x)) ∙ else_is (con_at a) _ (atom.Con (place a) g) b
    (then_is (gcon_at a) _ g b (p.complete.gcon x) ∙ ap (λ m. and_behind m (record_of (place a) g) (let z : Found AexpTree = Some (atom.Con (place a) g, b) in z)) e))
simple_complete p n r c (LiteralSimple {a = a} {t = t} f) e h =
    else_is (atom_at (t ∷ a)) _ (atom.Literal t.at t) a (else_not (var_atom_at (t ∷ a)) _ (no_qvar p.sound (t ∷ a) (λ b y d. no_var_literal f d))
    ∙ else_not (con_at (t ∷ a)) _ (no_con p.sound (t ∷ a) (λ b y d. no_con_literal f d)) ∙ if_so (is_literal (sign_of t)) _ _ f)
simple_complete p n r c (RecordSimple {a = a} {b = b} {o = o} {c = w} {n = v} x f g) e h =
    else_is (atom_at a) _ (atom.Record (place a) v) b (else_not (var_atom_at a) _ (no_qvar p.sound a (λ b y d. no_var_qcon d x)) ∙ else_is (con_at a) _ (atom.Record (place a) v) b
    (then_is (gcon_at a) _ (gcon.Con (place a) v) (o ∷ w ∷ b) (p.complete.gcon (ConGcon x))
    ∙ ap (λ m. and_behind m (record_of (place a) (gcon.Con (place a) v)) (let z : Found AexpTree = Some (atom.Con (place a) (gcon.Con (place a) v), o ∷ w ∷ b) in z)) (empty_braces o w b f g)))
simple_complete p n r c (TupleSimple {a = a} {o = o} f x g) e h =
    let k : 8 * length a + 18 ≤ n = omega arith in else_not (atom_at (o ∷ a)) _ (paren_atom p o a f (exps_start x)) ∙ ap (simple_by r o a) f ∙ c.tuple x g k o.at
simple_complete p n r c (LeftSimple {a = a} {o = o} f x q g) e h =
    let k : 8 * length a + 18 ≤ n = omega arith in else_not (atom_at (o ∷ a)) _ (paren_atom p o a f (chain_start x)) ∙ ap (simple_by r o a) f ∙ c.left x q g k o.at
simple_complete p n r c (RightSimple {a = a} {b = b} {o = o} {m = m} {q = q} f i y x g) e h =
    let k : 8 * length (m ∷ a) + 18 ≤ n = omega arith in
    else_not (atom_at (o ∷ m ∷ a)) _ (section_atom p o (m ∷ a) b q f y (chain_start x)) ∙ ap (simple_by r o (m ∷ a)) f ∙ c.section i y x g k o.at
simple_complete p n r c (ListSimple {a = a} {o = o} f x g) e h =
    let k : 8 * length a + 18 ≤ n = omega arith in else_not (atom_at (o ∷ a)) _ (square_atom p o a f (exps_start x)) ∙ ap (simple_by r o a) f ∙ c.list x g k o.at
simple_complete p n r c (RangeSimple {a = a} {o = o} f x y g z i) e h =
    let k : 8 * length a + 18 ≤ n = omega arith in else_not (atom_at (o ∷ a)) _ (square_atom p o a f (exp_start x)) ∙ ap (simple_by r o a) f ∙ c.range x y g z i k o.at
simple_complete p n r c (ComprehensionSimple {a = a} {o = o} f x g y i) e h =
    let k : 8 * length a + 18 ≤ n = omega arith in else_not (atom_at (o ∷ a)) _ (square_atom p o a f (exp_start x)) ∙ ap (simple_by r o a) f ∙ c.comprehension x g y i k o.at

-- What stands in parentheses

exp_no_op : (k : Sign) → exp_begins k ≡ true → op_begins k ≡ false
exp_no_op Var e = refl
exp_no_op QualifiedVar e = refl
exp_no_op Con e = refl
exp_no_op QualifiedCon e = refl
exp_no_op Number e = refl
exp_no_op Quoted e = refl
exp_no_op OpenParen e = refl
exp_no_op OpenSquare e = refl
exp_no_op Case e = refl
exp_no_op Do e = refl
exp_no_op If e = refl
exp_no_op Let e = refl
exp_no_op Lambda e = refl
exp_no_op _ e = absurd (false_true e)

start_by : (v : Bool) (m : Found QopTree) → m ≡ None → cond v None m ≡ None
start_by true m e = refl
start_by false m e = e

no_start : (p : Parts) {a : List Token} → Starts a → section_start_at a ≡ None
no_start p (PlainStart {t = t} {a = a} e) = start_by (is_minus (sign_of t)) (qop_at (t ∷ a)) (no_qop p.sound (t ∷ a) (exp_no_op (sign_of t) e))
no_start p (MinusStart {m = m} {t = t} {a = a} f e) = if_so (is_minus (sign_of m)) None (qop_at (m ∷ t ∷ a)) (ap is_minus f)

minus_not : (k : Sign) → (k ≡ Minus → ⊥) → is_minus k ≡ false
minus_not Minus f = absurd (f refl)
minus_not _ f = refl

more_ends : (p : Parts) {b z : List Token} {es : List ExprTree} → IsMore b z es → Ends false z → Ends false b
more_ends p NoMore e = e
more_ends p (More {a = a} {m = m} f x) e = ends_at p.sound m a (ap is_end f)

more_no_op : {w : Token} {b d : List Token} {es : List ExprTree} → IsMore b (w ∷ d) es → is_end (sign_of w) ≡ true → begins op_begins b ≡ false
more_no_op {w = w} {d = d} NoMore e = end_no_op w d e
more_no_op (More f x) e = ap op_begins f

tuple_end : (p : Parts) (n : ℕ) (r : Forms) → CompleteForms n r → {w : Token} {b d : List Token} {es : List ExprTree} → IsMore b (w ∷ d) es → sign_of w ≡ CloseParen → 8 * length b + 11 ≤ n → (at : Pos) (e : ExprTree)
    → tuple_at r at (e ∷ []) b ≡ Some (atom.Tuple at (e ∷ es), d)
tuple_end p n r c {w = w} {b = b} {d = d} {es = es} y f h at e =
    then_is (r.exps (e ∷ []) b) _ (e ∷ es) (w ∷ d) (c.exps y (ends_at p.sound w d (ap is_end f)) (ap is_comma f) h (e ∷ [])) ∙ signed is_close_paren w d (atom.Tuple at (e ∷ es)) (ap is_close_paren f)

tuple_read : (p : Parts) (n : ℕ) (r : Forms) → CompleteForms n r → {w : Token} {a b d : List Token} {e : ExprTree} {es : List ExprTree} → IsExp a b e → IsMore b (w ∷ d) es → sign_of w ≡ CloseParen
    → 8 * length a + 18 ≤ suc n → (at : Pos) → inside_at r n at a ≡ Some (atom.Tuple at (e ∷ es), d)
tuple_read p n r c {w = w} {d = d} (PlainExp {o = o} {a = a} {b = b} (LinkedChain {ls = ls} {x = x} v)) y f h at =
    let k : 8 * length a + 15 ≤ n = omega arith in
    let s : length b < length a = links_shorter v in
    let m : 8 * length b + 11 ≤ n = omega arith in
    let ends : Ends false b = more_ends p y (ends_at p.sound w d (ap is_end f)) in
    then_is (r.chain false (place a) [] a) _ (chained (place a) ls x o) b (c.links false v (chain_ends o false b ends) k (place a) [])
    ∙ or_not (section_end_at b) _ _ (no_section p.sound b (more_no_op y (ap is_end f)))
    ∙ then_is (typed_at n false (place a) (chained (place a) ls x o) b) _ (expr_tree (place a) (chain_tree (place a) ls x) None) b (typed_plain n false (place a) ls x o b ends.typed)
    ∙ tuple_end p n r c y f m at (expr_tree (place a) (chain_tree (place a) ls x) None)
tuple_read p n r c {w = w} {d = d} (TypedExp {a = a} {b = b} {c = z} {t = t} {q = q} (LinkedChain {ls = ls} {x = x} v) e u) y f h at =
    let k : 8 * length a + 15 ≤ n = omega arith in
    let s : length (t ∷ b) < length a = links_shorter v in
    let l : length z < length b = qualified_shorter u in
    let i : 8 * length b + 8 ≤ n = omega arith in
    let m : 8 * length z + 11 ≤ n = omega arith in
    let ends : Ends false z = more_ends p y (ends_at p.sound w d (ap is_end f)) in
    then_is (r.chain false (place a) [] a) _ (chained (place a) ls x false) (t ∷ b) (c.links false v (typed_ends p false t b e) k (place a) [])
    ∙ or_not (section_end_at (t ∷ b)) _ _ (no_section p.sound (t ∷ b) (ap op_begins e))
    ∙ then_is (typed_at n false (place a) (chained (place a) ls x false) (t ∷ b)) _ (expr_tree (place a) (chain_tree (place a) ls x) (Some q)) z (typed_typed p n false (place a) ls x t e u ends.behind i)
    ∙ tuple_end p n r c y f m at (expr_tree (place a) (chain_tree (place a) ls x) (Some q))

pub tuple_complete : (p : Parts) (n : ℕ) (r : Forms) → CompleteForms n r → {w : Token} {a b : List Token} {es : List ExprTree} → IsExps a (w ∷ b) es → sign_of w ≡ CloseParen → 8 * length a + 18 ≤ suc n → (at : Pos)
    → (next_forms n r).paren at a ≡ Some (atom.Tuple at es, b)
tuple_complete p n r c (LastExp {a = a} x) f h at = or_not (section_start_at a) _ _ (no_start p (exp_start x)) ∙ tuple_read p n r c x NoMore f h at
tuple_complete p n r c (MoreExps {a = a} x e y) f h at = or_not (section_start_at a) _ _ (no_start p (exp_start x)) ∙ tuple_read p n r c x (More e y) f h at

pub left_complete : (p : Parts) (n : ℕ) (r : Forms) → CompleteForms n r → {o : Bool} {w : Token} {a b d : List Token} {k : ChainTree} {q : QopTree} → IsChain o a b k → IsQop b (w ∷ d) q → sign_of w ≡ CloseParen
    → 8 * length a + 18 ≤ suc n → (at : Pos) → (next_forms n r).paren at a ≡ Some (atom.LeftSection at k q, d)
left_complete p n r c {o = o} {a = a} {b = b} {d = d} {q = q} (LinkedChain {ls = ls} {x = x} v) y f h at =
    let k : 8 * length a + 15 ≤ n = omega arith in
    or_not (section_start_at a) _ _ (no_start p (chain_start (LinkedChain v)))
    ∙ then_is (r.chain false (place a) [] a) _ (chained (place a) ls x o) b (c.links false v (chain_ends o false b (ends_section p.complete y f)) k (place a) [])
    ∙ or_is (section_end_at b) _ _ q d (section_complete p.complete y f)

pub section_read : (p : Parts) (n : ℕ) (r : Forms) → CompleteForms n r → {o : Bool} {m w : Token} {a b d : List Token} {k : ChainTree} {q : QopTree} → (sign_of m ≡ Minus → ⊥) → IsQop (m ∷ a) b q → IsChain o b (w ∷ d) k → sign_of w ≡ CloseParen
    → 8 * length (m ∷ a) + 18 ≤ suc n → (at : Pos) → (next_forms n r).paren at (m ∷ a) ≡ Some (atom.RightSection at q k, d)
section_read p n r c {m = m} {a = a} {b = b} {q = q} g y x f h at =
    let s : length b < length (m ∷ a) = qop_shorter y in
    let k : 8 * length b + 16 ≤ n = omega arith in
    or_is (section_start_at (m ∷ a)) _ _ q b (if_not (is_minus (sign_of m)) None (qop_at (m ∷ a)) (minus_not (sign_of m) g) ∙ p.complete.qop y) ∙ c.right x f k at q

pub right_complete : (p : Parts) (n : ℕ) (r : Forms) → CompleteForms n r → {o : Bool} {w : Token} {a d : List Token} {k : ChainTree} → IsChain o a (w ∷ d) k → sign_of w ≡ CloseParen → 8 * length a + 16 ≤ suc n
    → (at : Pos) (q : QopTree) → (next_forms n r).right at q a ≡ Some (atom.RightSection at q k, d)
right_complete p n r c {o = o} {w = w} {a = a} {d = d} {k = y} (LinkedChain {ls = ls} {x = x} v) f h at q =
    let k : 8 * length a + 15 ≤ n = omega arith in
    then_is (r.chain false (place a) [] a) _ (chained (place a) ls x o) (w ∷ d) (c.links false v (chain_ends o false (w ∷ d) (ends_at p.sound w d (ap is_end f))) k (place a) [])
    ∙ signed is_close_paren w d (atom.RightSection at q (chain_tree (place a) ls x)) (ap is_close_paren f)

-- What stands in square brackets

more_read : (p : Parts) (n : ℕ) (r : Forms) → CompleteForms n r → (m : Token) {a b d : List Token} {e : ExprTree} {es : List ExprTree} → sign_of m ≡ Comma → IsExp a b e → IsMore b d es → Ends false d → begins is_comma d ≡ false
    → 8 * length (m ∷ a) + 11 ≤ suc n → (xs : List ExprTree) → (next_forms n r).exps xs (m ∷ a) ≡ Some (xs ++ e ∷ es, d)
more_read p n r c m {a = a} {b = b} {d = d} {e = e} {es = es} g x y ends f h xs =
    let k : 8 * length a + 16 ≤ n = omega arith in
    let s : length b < length a = exp_shorter x in
    let l : 8 * length b + 11 ≤ n = omega arith in
    past is_comma m a _ _ (ap is_comma g) ∙ then_is (r.exp false a) _ e b (c.exp false x (more_ends p y ends) k) ∙ c.exps y ends f l (xs ++ e ∷ [])
    ∙ ap (λ l. let z : Found (List ExprTree) = Some (l, d) in z) (append_assoc xs (e ∷ []) es)

pub exps_complete : (p : Parts) (n : ℕ) (r : Forms) → CompleteForms n r → {a b : List Token} {es : List ExprTree} → IsMore a b es → Ends false b → begins is_comma b ≡ false → 8 * length a + 11 ≤ suc n → (xs : List ExprTree)
    → (next_forms n r).exps xs a ≡ Some (xs ++ es, b)
exps_complete p n r c (NoMore {a = a}) ends f h xs = beside is_comma a _ _ f ∙ ap (λ l. let y : Found (List ExprTree) = Some (l, a) in y) (sym (append-nil xs))
exps_complete p n r c (More {m = m} g (LastExp x)) ends f h xs = more_read p n r c m g x NoMore ends f h xs
exps_complete p n r c (More {m = m} g (MoreExps x e y)) ends f h xs = more_read p n r c m g x (More e y) ends f h xs

list_read : (p : Parts) (n : ℕ) (r : Forms) → CompleteForms n r → {w : Token} {a b d : List Token} {e : ExprTree} {es : List ExprTree} → IsExp a b e → IsMore b (w ∷ d) es → sign_of w ≡ CloseSquare → 8 * length a + 18 ≤ suc n → (at : Pos)
    → (next_forms n r).bracket at a ≡ Some (atom.List at (e ∷ es), d)
list_read p n r c {w = w} {a = a} {b = b} {d = d} {e = e} x y f h at =
    let k : 8 * length a + 16 ≤ n = omega arith in
    let s : length b < length a = exp_shorter x in
    let l : 8 * length b + 11 ≤ n = omega arith in
    then_is (r.exp false a) _ e b (c.exp false x (more_ends p y (ends_at p.sound w d (ap is_end f))) k) ∙ c.listed_more y f l at e

pub list_complete : (p : Parts) (n : ℕ) (r : Forms) → CompleteForms n r → {w : Token} {a b : List Token} {es : List ExprTree} → IsExps a (w ∷ b) es → sign_of w ≡ CloseSquare → 8 * length a + 18 ≤ suc n → (at : Pos)
    → (next_forms n r).bracket at a ≡ Some (atom.List at es, b)
list_complete p n r c (LastExp x) f h at = list_read p n r c x NoMore f h at
list_complete p n r c (MoreExps x e y) f h at = list_read p n r c x (More e y) f h at

next_ends : (p : Parts) {w : Token} {b d : List Token} {y : Option ExprTree} → IsNext b (w ∷ d) y → sign_of w ≡ Dots → Ends false b
next_ends p {w = w} {d = d} NoNext e = ends_at p.sound w d (ap is_end e)
next_ends p (ANext {a = a} {m = m} f x) e = ends_at p.sound m a (ap is_end f)

pub range_complete : (p : Parts) (n : ℕ) (r : Forms) → CompleteForms n r → {w v : Token} {a b d e : List Token} {x : ExprTree} {y z : Option ExprTree} → IsExp a b x → IsNext b (w ∷ d) y → sign_of w ≡ Dots → IsLimit d (v ∷ e) z → sign_of v ≡ CloseSquare
    → 8 * length a + 18 ≤ suc n → (at : Pos) → (next_forms n r).bracket at a ≡ Some (atom.Range at x y z, e)
range_complete p n r c {a = a} {b = b} {x = x} dx dy g dz i h at =
    let k : 8 * length a + 16 ≤ n = omega arith in
    let s : length b < length a = exp_shorter dx in
    let l : 8 * length b + 11 ≤ n = omega arith in
    then_is (r.exp false a) _ x b (c.exp false dx (next_ends p dy g) k) ∙ c.listed_range dy g dz i l at x

pub comprehension_complete : (p : Parts) (n : ℕ) (r : Forms) → CompleteForms n r → {m w : Token} {a b d : List Token} {e : ExprTree} {qs : List QualTree} → IsExp a (m ∷ b) e → sign_of m ≡ Bar → IsQuals b (w ∷ d) qs → sign_of w ≡ CloseSquare
    → 8 * length a + 18 ≤ suc n → (at : Pos) → (next_forms n r).bracket at a ≡ Some (atom.Comprehension at e qs, d)
comprehension_complete p n r c {m = m} {a = a} {b = b} {e = e} x f y g h at =
    let k : 8 * length a + 16 ≤ n = omega arith in
    let s : length (m ∷ b) < length a = exp_shorter x in
    let l : 8 * length (m ∷ b) + 11 ≤ n = omega arith in
    then_is (r.exp false a) _ e (m ∷ b) (c.exp false x (ends_at p.sound m b (ap is_end f)) k) ∙ c.listed_bar m f y g l at e

pub listed_more_complete : (p : Parts) (n : ℕ) (r : Forms) → CompleteForms n r → {w : Token} {b d : List Token} {es : List ExprTree} → IsMore b (w ∷ d) es → sign_of w ≡ CloseSquare → 8 * length b + 11 ≤ suc n → (at : Pos) (e : ExprTree)
    → (next_forms n r).listed at e b ≡ Some (atom.List at (e ∷ es), d)
listed_more_complete p n r c {w = w} {d = d} NoMore f h at e = ap (listed_by r at e w d) f ∙ signed is_close_square w d (atom.List at (e ∷ [])) (ap is_close_square f)
listed_more_complete p n r c (More {a = a} {m = m} g (LastExp x)) f h at e = let k : 8 * length a + 17 ≤ n = omega arith in ap (listed_by r at e m a) g ∙ c.second_more x NoMore f k at e
listed_more_complete p n r c (More {a = a} {m = m} g (MoreExps x i y)) f h at e = let k : 8 * length a + 17 ≤ n = omega arith in ap (listed_by r at e m a) g ∙ c.second_more x (More i y) f k at e

pub listed_range_complete : (n : ℕ) (r : Forms) → CompleteForms n r → {w v : Token} {b d e : List Token} {y z : Option ExprTree} → IsNext b (w ∷ d) y → sign_of w ≡ Dots → IsLimit d (v ∷ e) z → sign_of v ≡ CloseSquare → 8 * length b + 11 ≤ suc n
    → (at : Pos) (x : ExprTree) → (next_forms n r).listed at x b ≡ Some (atom.Range at x y z, e)
listed_range_complete n r c {w = w} {d = d} NoNext g dz i h at x = let k : 8 * length d + 17 ≤ n = omega arith in ap (listed_by r at x w d) g ∙ c.limit dz i k at x None
listed_range_complete n r c (ANext {a = a} {m = m} f dx) g dz i h at x = let k : 8 * length a + 17 ≤ n = omega arith in ap (listed_by r at x m a) f ∙ c.second_range dx g dz i k at x

pub listed_bar_complete : (n : ℕ) (r : Forms) → CompleteForms n r → (m : Token) {w : Token} {b d : List Token} {qs : List QualTree} → sign_of m ≡ Bar → IsQuals b (w ∷ d) qs → sign_of w ≡ CloseSquare → 8 * length (m ∷ b) + 11 ≤ suc n
    → (at : Pos) (e : ExprTree) → (next_forms n r).listed at e (m ∷ b) ≡ Some (atom.Comprehension at e qs, d)
listed_bar_complete n r c m {w = w} {b = b} {d = d} {qs = qs} f y g h at e =
    let k : 8 * length b + 18 ≤ n = omega arith in
    ap (listed_by r at e m b) f ∙ then_is (r.quals [] b) _ qs (w ∷ d) (c.quals y g k []) ∙ signed is_close_square w d (atom.Comprehension at e qs) (ap is_close_square g)

more_no_dots : {w : Token} {b d : List Token} {es : List ExprTree} → IsMore b (w ∷ d) es → sign_of w ≡ CloseSquare → begins is_dots b ≡ false
more_no_dots NoMore e = ap is_dots e
more_no_dots (More f x) e = ap is_dots f

pub second_more_complete : (p : Parts) (n : ℕ) (r : Forms) → CompleteForms n r → {w : Token} {a b d : List Token} {x : ExprTree} {es : List ExprTree} → IsExp a b x → IsMore b (w ∷ d) es → sign_of w ≡ CloseSquare → 8 * length a + 17 ≤ suc n
    → (at : Pos) (e : ExprTree) → (next_forms n r).second at e a ≡ Some (atom.List at (e ∷ x ∷ es), d)
second_more_complete p n r c {w = w} {a = a} {b = b} {d = d} {x = x} {es = es} dx y f h at e =
    let k : 8 * length a + 16 ≤ n = omega arith in
    let s : length b < length a = exp_shorter dx in
    let l : 8 * length b + 11 ≤ n = omega arith in
    then_is (r.exp false a) _ x b (c.exp false dx (more_ends p y (ends_at p.sound w d (ap is_end f))) k) ∙ beside is_dots b _ _ (more_no_dots y f)
    ∙ then_is (r.exps (e ∷ x ∷ []) b) _ (e ∷ x ∷ es) (w ∷ d) (c.exps y (ends_at p.sound w d (ap is_end f)) (ap is_comma f) l (e ∷ x ∷ [])) ∙ signed is_close_square w d (atom.List at (e ∷ x ∷ es)) (ap is_close_square f)

pub second_range_complete : (p : Parts) (n : ℕ) (r : Forms) → CompleteForms n r → {w v : Token} {a d e : List Token} {y : ExprTree} {z : Option ExprTree} → IsExp a (w ∷ d) y → sign_of w ≡ Dots → IsLimit d (v ∷ e) z → sign_of v ≡ CloseSquare
    → 8 * length a + 17 ≤ suc n → (at : Pos) (x : ExprTree) → (next_forms n r).second at x a ≡ Some (atom.Range at x (Some y) z, e)
second_range_complete p n r c {w = w} {a = a} {d = d} {y = y} dy g dz i h at x =
    let k : 8 * length a + 16 ≤ n = omega arith in
    let s : length (w ∷ d) < length a = exp_shorter dy in
    let l : 8 * length d + 17 ≤ n = omega arith in
    then_is (r.exp false a) _ y (w ∷ d) (c.exp false dy (ends_at p.sound w d (ap is_end g)) k) ∙ past is_dots w d _ _ (ap is_dots g) ∙ c.limit dz i l at x (Some y)

pub limit_complete : (p : Parts) (n : ℕ) (r : Forms) → CompleteForms n r → {v : Token} {d e : List Token} {z : Option ExprTree} → IsLimit d (v ∷ e) z → sign_of v ≡ CloseSquare → 8 * length d + 17 ≤ suc n
    → (at : Pos) (x : ExprTree) (y : Option ExprTree) → (next_forms n r).limit at x y d ≡ Some (atom.Range at x y z, e)
limit_complete p n r c {v = v} {e = e} NoLimit i h at x y = past is_close_square v e _ _ (ap is_close_square i)
limit_complete p n r c {v = v} {e = e} (ALimit {a = a} {e = z} dz) i h at x y =
    let k : 8 * length a + 16 ≤ n = omega arith in
    beside is_close_square a _ _ (no_square (exp_start dz)) ∙ then_is (r.exp false a) _ z (v ∷ e) (c.exp false dz (ends_at p.sound v e (ap is_end i)) k) ∙ signed is_close_square v e (atom.Range at x y (Some z)) (ap is_close_square i)
