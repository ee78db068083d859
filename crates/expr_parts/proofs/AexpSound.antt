-- What is read as an atomic expression is derived as one.
use Rattle.std.proofs.Common.{◌≡◌, ℕ, ◌<◌, Bool, true, false, cond, List, [], ◌∷◌, ◌++◌, length, Option, Some, None, refl, sym, ap, ◌∙◌, append_assoc, subst, arith}
use Rattle.std.proofs.lemmas.List.{append-nil}
use Rattle.mk_base.specs.declared.place.Pos.{Pos}
use Rattle.hs_syntax.specs.declared.token.Token.{Token}
use Rattle.hs_syntax.specs.declared.sign.Sign.{Sign}
use Rattle.hs_syntax.specs.declared.sign.Sign.TheVariants.{Minus, OpenParen, CloseParen, OpenSquare, Comma, Dots, Bar}
use Rattle.hs_syntax.specs.declared.name_ref.QopTree.{QopTree}
use Rattle.hs_syntax.specs.declared.pattern_tree.GconTree.{GconTree}
use Rattle.hs_syntax.specs.declared.expr_tree.ExprTree.{ExprTree}
use Rattle.hs_syntax.specs.declared.expr_tree.AexpTree.{AexpTree}
use Rattle.hs_syntax.specs.declared.expr_tree.AexpTree.TheVariants as aexp
use Rattle.hs_syntax.specs.declared.expr_tree.UpdateTree.{UpdateTree}
use Rattle.hs_syntax.specs.declared.expr_tree.FbindTree.{FbindTree}
use Rattle.hs_syntax.specs.Signs.{sign_of}
use Rattle.hs_syntax.specs.Made.{update_tree, fbind_tree}
use Rattle.hs_syntax.specs.Reading.{Found, begins, and_behind, is_comma, is_close_paren, is_close_square, is_equals, is_dots}
use Rattle.hs_syntax.proofs.Sound.{Sound, sound_then, sound_as, sound_or, sound_or_by, sound_first, sound_behind, sound_sign}
use Rattle.hs_parts.specs.Names.{place, is_literal, IsQvar, IsGcon, ConGcon, UnitGcon, ListGcon, TupleGcon, IsQop}
use Rattle.hs_parts.specs.NameReaders.{qvar_at, gcon_at, qop_at}
use Rattle.hs_parts.specs.PatternReaders.{is_brace, is_close_brace}
use Rattle.expr_parts.specs.Grammar.{IsExp, LinkedChain, IsLinks, IsAexp, SimpleAexp, UpdateAexp, IsSimple, VarSimple, ConSimple, LiteralSimple, TupleSimple, ListSimple, RangeSimple, ComprehensionSimple, LeftSimple, RightSimple, RecordSimple, IsExps, LastExp, MoreExps, IsNext, NoNext, ANext, IsLimit, NoLimit, ALimit, IsUpdates, NoUpdates, MoreUpdates, IsFbinds, LastFbind, MoreFbinds, IsFbind, FieldFbind, IsQuals}
use Rattle.expr_parts.specs.Expressions.{Forms, is_minus, section_end_at, section_start_at, behind_close_of, behind_empty, record_of, con_at, literal_by, var_atom_at, atom_at, updated, typed_at, fbinds_on, simple_by, tuple_at, inside_at, listed_by, next_forms}
use Rattle.hs_parts.proofs.NamesComplete.{qop_shorter}
use Rattle.expr_parts.proofs.SignTests.{comma_is, close_paren_is, close_square_is, equals_is, dots_is, brace_is, close_brace_is}
use Rattle.expr_parts.proofs.PartsSound.{PartsSound}
use Rattle.expr_parts.proofs.Derived.{SoundForms, IsMore, NoMore, More, ChainFrom, UpdatesFrom, FbindsFrom, MoreFrom, QualsFrom}
use Rattle.expr_parts.proofs.ChainSound.{typed_from}

pub exps_of : {a b c : List Token} {e : ExprTree} {es : List ExprTree} → IsExp a b e → IsMore b c es → IsExps a c (e ∷ es)
exps_of d NoMore = LastExp d
exps_of d (More f x) = MoreExps d f x

-- Updates

updated_aexp : {a b c : List Token} {x : AexpTree} {us : List UpdateTree} → IsSimple a b x → IsUpdates b c us → IsAexp a c (updated (place a) x us)
updated_aexp d NoUpdates = SimpleAexp d
updated_aexp d (MoreUpdates {o = o} e x f y) = UpdateAexp d (MoreUpdates {o = o} e x f y)

pub aexp_sound : (n : ℕ) (r : Forms) → SoundForms r → (ts : List Token) → Sound (IsAexp ts) ((next_forms n r).aexp ts)
aexp_sound n r s ts = sound_then (IsSimple ts) (IsAexp ts) (r.simple ts) _ (s.simple ts)
    (λ x rest d. sound_as (UpdatesFrom (place ts) x [] rest) (IsAexp ts) _ (s.updates (place ts) x [] rest) (λ to y c. subst (IsAexp ts to) (sym c.1) (updated_aexp d c.2)))

pub updates_sound : (n : ℕ) (r : Forms) → SoundForms r → (at : Pos) (x : AexpTree) (us : List UpdateTree) (ts : List Token) → Sound (UpdatesFrom at x us ts) ((next_forms n r).updates at x us ts)
updates_sound n r s at x us ts = sound_behind is_brace (UpdatesFrom at x us ts) ts _ _
    (λ o rest e f. sound_then (FbindsFrom [] rest) (UpdatesFrom at x us ts) (r.fbinds [] rest) _ (s.fbinds [] rest)
    (λ fs more d. sound_behind is_close_brace (UpdatesFrom at x us ts) more _ None
    (λ c end g h. sound_as (UpdatesFrom at x (us ++ update_tree (place ts) fs ∷ []) end) (UpdatesFrom at x us ts) _ (s.updates at x (us ++ update_tree (place ts) fs ∷ []) end)
    (λ to y v. (
      update_tree (place ts) fs ∷ v.0,
      v.1 ∙ ap (updated at x) (append_assoc us (update_tree (place ts) fs ∷ []) v.0),
      subst (λ z. IsUpdates z to (update_tree (place z) fs ∷ v.0)) (sym e)
          (MoreUpdates (brace_is (sign_of o) f) (subst (λ z. IsFbinds rest z fs) g (subst (λ l. IsFbinds rest more l) (sym d.1) d.2)) (close_brace_is (sign_of c) h) v.2),
    )))
    tt))
    ([], ap (updated at x) (sym (append-nil us)), NoUpdates)

fbinds_on_sound : (r : Forms) → SoundForms r → (fs : List FbindTree) (x : FbindTree) (ts end : List Token) → IsFbind ts end x → Sound (FbindsFrom fs ts) (fbinds_on r (fs ++ x ∷ []) end)
fbinds_on_sound r s fs x ts end d = sound_behind is_comma (FbindsFrom fs ts) end _ _
    (λ m more e f. sound_as (FbindsFrom (fs ++ x ∷ []) more) (FbindsFrom fs ts) _ (s.fbinds (fs ++ x ∷ []) more)
    (λ to ys c. (x ∷ c.0, c.1 ∙ append_assoc fs (x ∷ []) c.0, MoreFbinds (subst (λ z. IsFbind ts z x) e d) (comma_is (sign_of m) f) c.2)))
    (x ∷ [], refl, LastFbind d)

pub fbinds_sound : (q : PartsSound) (n : ℕ) (r : Forms) → SoundForms r → (fs : List FbindTree) (ts : List Token) → Sound (FbindsFrom fs ts) ((next_forms n r).fbinds fs ts)
fbinds_sound q n r s fs ts = sound_then (IsQvar ts) (FbindsFrom fs ts) (qvar_at ts) _ (q.qvar ts)
    (λ v rest d. sound_behind is_equals (FbindsFrom fs ts) rest _ None
    (λ t more e f. sound_then (IsExp more) (FbindsFrom fs ts) (r.exp false more) _ (s.exp false more)
    (λ x end g. fbinds_on_sound r s fs (fbind_tree (place ts) v x) ts end (FieldFbind (subst (λ z. IsQvar ts z v) e d) (equals_is (sign_of t) f) g)))
    tt)

-- Names and literals

empty_by : {X : Type 0} (Q : List Token → X → Type 0) (o : Token) (ts : List Token) (f : List Token → Found X) (g : Found X)
    → ((c : Token) (rest : List Token) → ts ≡ c ∷ rest → is_brace (sign_of o) ≡ true → is_close_brace (sign_of c) ≡ true → Sound Q (f rest)) → Sound Q g
    → (b : Bool) → is_brace (sign_of o) ≡ b → Sound Q (and_behind (behind_close_of (cond b (Some ts) None)) f g)
empty_by Q o ts f g h k true e = sound_behind is_close_brace Q ts f g (λ c rest i j. h c rest i e j) k
empty_by Q o ts f g h k false e = k

sound_empty : {X : Type 0} (Q : List Token → X → Type 0) (a : List Token) (f : List Token → Found X) (g : Found X)
    → ((o c : Token) (rest : List Token) → a ≡ o ∷ c ∷ rest → is_brace (sign_of o) ≡ true → is_close_brace (sign_of c) ≡ true → Sound Q (f rest)) → Sound Q g
    → Sound Q (and_behind (behind_empty a) f g)
sound_empty Q [] f g h k = k
sound_empty Q (o ∷ ts) f g h k = empty_by Q o ts f g (λ c rest e i j. h o c rest (ap (λ z. o ∷ z) e) i j) k (is_brace (sign_of o)) refl

record_sound : {a b : List Token} {o c : Token} {g : GconTree} → IsGcon a (o ∷ c ∷ b) g → is_brace (sign_of o) ≡ true → is_close_brace (sign_of c) ≡ true → Sound (IsSimple a) (record_of (place a) g b)
record_sound {o = o} {c = c} (ConGcon x) e f = RecordSimple x (brace_is (sign_of o) e) (close_brace_is (sign_of c) f)
record_sound (UnitGcon g h) e f = tt
record_sound (ListGcon g h) e f = tt
record_sound (TupleGcon g x h) e f = tt

con_sound : (q : PartsSound) (ts : List Token) → Sound (IsSimple ts) (con_at ts)
con_sound q ts = sound_then (IsGcon ts) (IsSimple ts) (gcon_at ts) _ (q.gcon ts)
    (λ g rest d. sound_empty (IsSimple ts) rest (record_of (place ts) g) _ (λ o c more e f h. record_sound (subst (λ z. IsGcon ts z g) e d) f h) (ConSimple d))

literal_if : (t : Token) (ts : List Token) (b : Bool) → is_literal (sign_of t) ≡ b → Sound (IsSimple (t ∷ ts)) (cond b (Some (aexp.Literal t.at t, ts)) None)
literal_if t ts true e = LiteralSimple e
literal_if t ts false e = tt

atom_sound : (q : PartsSound) (ts : List Token) → Sound (IsSimple ts) (atom_at ts)
atom_sound q ts = sound_or (IsSimple ts) (var_atom_at ts) _ (sound_then (IsQvar ts) (IsSimple ts) (qvar_at ts) _ (q.qvar ts) (λ n rest d. VarSimple d))
    (sound_or (IsSimple ts) (con_at ts) _ (con_sound q ts) (sound_first IsSimple ts None literal_by tt (λ t rest. literal_if t rest (is_literal (sign_of t)) refl)))

simple_kind : (r : Forms) → SoundForms r → (t : Token) (ts : List Token) (k : Sign) → sign_of t ≡ k → Sound (IsSimple (t ∷ ts)) (simple_by r t ts k)
simple_kind r s t ts OpenParen e = s.paren t ts e
simple_kind r s t ts OpenSquare e = s.bracket t ts e
simple_kind r s t ts _ e = tt

pub simple_sound : (q : PartsSound) (n : ℕ) (r : Forms) → SoundForms r → (ts : List Token) → Sound (IsSimple ts) ((next_forms n r).simple ts)
simple_sound q n r s ts = sound_or (IsSimple ts) (atom_at ts) _ (atom_sound q ts) (sound_first IsSimple ts None (simple_by r) tt (λ t rest. simple_kind r s t rest (sign_of t) refl))

-- What stands in parentheses

abbrev StartsWith : List Token → List Token → QopTree → Type 0
StartsWith ts rest x = (m : Token) × (b : List Token) × (ts ≡ m ∷ b) × (sign_of m ≡ Minus → ⊥) × IsQop (m ∷ b) rest x

no_minus : (m : Token) → is_minus (sign_of m) ≡ false → sign_of m ≡ Minus → ⊥
no_minus m e f = false_true (sym e ∙ ap is_minus f)
  where
    false_true : false ≡ true → ⊥
    false_true g = cc

starts_with : (ts rest : List Token) (x : QopTree) → IsQop ts rest x → begins is_minus ts ≡ false → StartsWith ts rest x
starts_with [] rest x d e = let h : length rest < 0 = qop_shorter d in absurd (let z : ⊥ = omega (arith, h) in z)
starts_with (m ∷ b) rest x d e = (m, b, refl, no_minus m e, d)

start_if : (q : PartsSound) (ts : List Token) (b : Bool) → begins is_minus ts ≡ b → Sound (StartsWith ts) (cond b None (qop_at ts))
start_if q ts true e = tt
start_if q ts false e = sound_as (IsQop ts) (StartsWith ts) (qop_at ts) (q.qop ts) (λ rest x d. starts_with ts rest x d e)

abbrev SectionEnd : List Token → List Token → QopTree → Type 0
SectionEnd ts rest x = (c : Token) × IsQop ts (c ∷ rest) x × (sign_of c ≡ CloseParen)

section_sound : (q : PartsSound) (ts : List Token) → Sound (SectionEnd ts) (section_end_at ts)
section_sound q ts = sound_then (IsQop ts) (SectionEnd ts) (qop_at ts) _ (q.qop ts)
    (λ x rest d. sound_sign is_close_paren (SectionEnd ts) rest x (λ c more e f. (c, subst (λ z. IsQop ts z x) e d, close_paren_is (sign_of c) f)))

tuple_sound : (r : Forms) → SoundForms r → (t : Token) (a b : List Token) (e : ExprTree) → sign_of t ≡ OpenParen → IsExp a b e → Sound (IsSimple (t ∷ a)) (tuple_at r t.at (e ∷ []) b)
tuple_sound r s t a b e g d = sound_then (MoreFrom (e ∷ []) b) (IsSimple (t ∷ a)) (r.exps (e ∷ []) b) _ (s.exps (e ∷ []) b)
    (λ es rest c. sound_sign is_close_paren (IsSimple (t ∷ a)) rest (aexp.Tuple t.at es) (λ w more x f.
    subst (λ y. IsSimple (t ∷ a) more (aexp.Tuple t.at y)) (sym c.1) (TupleSimple g (exps_of d (subst (λ z. IsMore b z c.0) x c.2)) (close_paren_is (sign_of w) f))))

inside_sound : (q : PartsSound) (n : ℕ) (r : Forms) → SoundForms r → (t : Token) (a : List Token) → sign_of t ≡ OpenParen → Sound (IsSimple (t ∷ a)) (inside_at r n t.at a)
inside_sound q n r s t a g = sound_then (ChainFrom (place a) [] a) (IsSimple (t ∷ a)) (r.chain false (place a) [] a) _ (s.chain false (place a) [] a)
    (λ c rest d. sound_or_by (SectionEnd rest) (IsSimple (t ∷ a)) (section_end_at rest) _ _ (section_sound q rest)
    (λ x end e. subst (λ y. IsSimple (t ∷ a) end (aexp.LeftSection t.at y.tree x)) (sym d.3) (LeftSimple g (LinkedChain d.4) e.1 e.2))
    (sound_then (IsExp a) (IsSimple (t ∷ a)) (typed_at n false (place a) c rest) _ (typed_from q n false a rest c d) (λ e more x. tuple_sound r s t a more e g x)))

pub paren_sound : (q : PartsSound) (n : ℕ) (r : Forms) → SoundForms r → (t : Token) (a : List Token) → sign_of t ≡ OpenParen → Sound (IsSimple (t ∷ a)) ((next_forms n r).paren t.at a)
paren_sound q n r s t a g = sound_or_by (StartsWith a) (IsSimple (t ∷ a)) (section_start_at a) _ _ (start_if q a (begins is_minus a) refl)
    (λ x rest d. subst (λ z. Sound (IsSimple (t ∷ z)) (r.right t.at x rest)) (sym d.2) (s.right t d.0 d.1 rest x g d.3 d.4)) (inside_sound q n r s t a g)

pub right_sound : (n : ℕ) (r : Forms) → SoundForms r → (t m : Token) (a b : List Token) (x : QopTree) → sign_of t ≡ OpenParen → (sign_of m ≡ Minus → ⊥) → IsQop (m ∷ a) b x
    → Sound (IsSimple (t ∷ m ∷ a)) ((next_forms n r).right t.at x b)
right_sound n r s t m a b x g h o = sound_then (ChainFrom (place b) [] b) (IsSimple (t ∷ m ∷ a)) (r.chain false (place b) [] b) _ (s.chain false (place b) [] b)
    (λ c rest d. sound_sign is_close_paren (IsSimple (t ∷ m ∷ a)) rest (aexp.RightSection t.at x c.tree) (λ w more e f.
    subst (λ y. IsSimple (t ∷ m ∷ a) more (aexp.RightSection t.at x y.tree)) (sym d.3) (RightSimple g h o (LinkedChain (subst (λ z. IsLinks d.2 b z d.0 d.1) e d.4)) (close_paren_is (sign_of w) f))))

-- What stands in square brackets

pub exps_sound : (n : ℕ) (r : Forms) → SoundForms r → (xs : List ExprTree) (ts : List Token) → Sound (MoreFrom xs ts) ((next_forms n r).exps xs ts)
exps_sound n r s xs ts = sound_behind is_comma (MoreFrom xs ts) ts _ _
    (λ m more x f. sound_then (IsExp more) (MoreFrom xs ts) (r.exp false more) _ (s.exp false more)
    (λ e last d. sound_as (MoreFrom (xs ++ e ∷ []) last) (MoreFrom xs ts) _ (s.exps (xs ++ e ∷ []) last)
    (λ to ys c. (e ∷ c.0, c.1 ∙ append_assoc xs (e ∷ []) c.0, subst (λ z. IsMore z to (e ∷ c.0)) (sym x) (More (comma_is (sign_of m) f) (exps_of d c.2))))))
    ([], sym (append-nil xs), NoMore)

pub bracket_sound : (n : ℕ) (r : Forms) → SoundForms r → (t : Token) (a : List Token) → sign_of t ≡ OpenSquare → Sound (IsSimple (t ∷ a)) ((next_forms n r).bracket t.at a)
bracket_sound n r s t a g = sound_then (IsExp a) (IsSimple (t ∷ a)) (r.exp false a) _ (s.exp false a) (λ e rest d. s.listed t a rest e g d)

listed_kind : (r : Forms) → SoundForms r → (t : Token) (a : List Token) (m : Token) (b : List Token) (e : ExprTree) → sign_of t ≡ OpenSquare → IsExp a (m ∷ b) e → (k : Sign) → sign_of m ≡ k
    → Sound (IsSimple (t ∷ a)) (listed_by r t.at e m b k)
listed_kind r s t a m b e g d Bar i = sound_then (QualsFrom [] b) (IsSimple (t ∷ a)) (r.quals [] b) _ (s.quals [] b)
    (λ qs end c. sound_sign is_close_square (IsSimple (t ∷ a)) end (aexp.Comprehension t.at e qs) (λ w more x f.
    subst (λ y. IsSimple (t ∷ a) more (aexp.Comprehension t.at e y)) (sym c.1) (ComprehensionSimple g d i (subst (λ z. IsQuals b z c.0) x c.2) (close_square_is (sign_of w) f))))
listed_kind r s t a m b e g d Dots i = s.limit t m a (m ∷ b) b e None g d NoNext i
listed_kind r s t a m b e g d Comma i = s.second t m a b e g d i
listed_kind r s t a m b e g d _ i = sound_sign is_close_square (IsSimple (t ∷ a)) (m ∷ b) (aexp.List t.at (e ∷ [])) (λ w more x f.
    ListSimple g (LastExp (subst (λ z. IsExp a z e) x d)) (close_square_is (sign_of w) f))

pub listed_sound : (n : ℕ) (r : Forms) → SoundForms r → (t : Token) (a b : List Token) (e : ExprTree) → sign_of t ≡ OpenSquare → IsExp a b e → Sound (IsSimple (t ∷ a)) ((next_forms n r).listed t.at e b)
listed_sound n r s t a [] e g d = tt
listed_sound n r s t a (m ∷ b) e g d = listed_kind r s t a m b e g d (sign_of m) refl

pub second_sound : (n : ℕ) (r : Forms) → SoundForms r → (t m : Token) (a b : List Token) (e : ExprTree) → sign_of t ≡ OpenSquare → IsExp a (m ∷ b) e → sign_of m ≡ Comma
    → Sound (IsSimple (t ∷ a)) ((next_forms n r).second t.at e b)
second_sound n r s t m a b e g d i = sound_then (IsExp b) (IsSimple (t ∷ a)) (r.exp false b) _ (s.exp false b)
    (λ x rest h. sound_behind is_dots (IsSimple (t ∷ a)) rest _ _
    (λ w more y f. s.limit t w a (m ∷ b) more e (Some x) g d (ANext i (subst (λ z. IsExp b z x) y h)) (dots_is (sign_of w) f))
    (sound_then (MoreFrom (e ∷ x ∷ []) rest) (IsSimple (t ∷ a)) (r.exps (e ∷ x ∷ []) rest) _ (s.exps (e ∷ x ∷ []) rest)
    (λ all end c. sound_sign is_close_square (IsSimple (t ∷ a)) end (aexp.List t.at all) (λ w more y f.
    subst (λ l. IsSimple (t ∷ a) more (aexp.List t.at l)) (sym c.1) (ListSimple g (MoreExps d i (exps_of h (subst (λ z. IsMore rest z c.0) y c.2))) (close_square_is (sign_of w) f))))))

pub limit_sound : (n : ℕ) (r : Forms) → SoundForms r → (t w : Token) (a b d : List Token) (e : ExprTree) (x : Option ExprTree) → sign_of t ≡ OpenSquare → IsExp a b e → IsNext b (w ∷ d) x → sign_of w ≡ Dots
    → Sound (IsSimple (t ∷ a)) ((next_forms n r).limit t.at e x d)
limit_sound n r s t w a b d e x g h i j = sound_behind is_close_square (IsSimple (t ∷ a)) d _ _
    (λ c rest y f. RangeSimple g h i j (subst (λ z. IsLimit d z None) y NoLimit) (close_square_is (sign_of c) f))
    (sound_then (IsExp d) (IsSimple (t ∷ a)) (r.exp false d) _ (s.exp false d)
    (λ z rest k. sound_sign is_close_square (IsSimple (t ∷ a)) rest (aexp.Range t.at e x (Some z)) (λ c more y f. RangeSimple g h i j (ALimit (subst (λ v. IsExp d v z) y k)) (close_square_is (sign_of c) f))))
