-- What is read as an expression, a chain or an operand is derived as one.
use Rattle.std.proofs.Common.{◌≡◌, ℕ, Bool, true, false, cond, List, [], ◌∷◌, ◌++◌, Some, None, refl, sym, ap, ◌∙◌, append_assoc, subst}
use Rattle.std.proofs.lemmas.List.{append-nil}
use Rattle.mk_base.specs.declared.place.Pos.{Pos}
use Rattle.hs_syntax.specs.declared.token.Token.{Token}
use Rattle.hs_syntax.specs.declared.sign.Sign.{Sign}
use Rattle.hs_syntax.specs.declared.sign.Sign.TheVariants.{OpenBrace, Case, Do, If, Let, Lambda, Arrow}
use Rattle.hs_syntax.specs.declared.name_ref.QopTree.{QopTree}
use Rattle.hs_syntax.specs.declared.type_tree.QualifiedType.{QualifiedType}
use Rattle.hs_syntax.specs.declared.pattern_tree.ApatTree.{ApatTree}
use Rattle.hs_syntax.specs.declared.expr_tree.LinkTree.{LinkTree}
use Rattle.hs_syntax.specs.declared.expr_tree.LastTree.{LastTree}
use Rattle.hs_syntax.specs.declared.expr_tree.LastTree.TheVariants as last
use Rattle.hs_syntax.specs.declared.expr_tree.OpenTree.TheVariants as open_
use Rattle.hs_syntax.specs.declared.expr_tree.AexpTree.{AexpTree}
use Rattle.hs_syntax.specs.declared.expr_tree.StmtTree.{StmtTree}
use Rattle.hs_syntax.specs.Signs.{sign_of}
use Rattle.hs_syntax.specs.Made.{chain_tree, link_tree}
use Rattle.hs_syntax.specs.Reading.{and_then, begins, is_comma, is_close_paren, is_typed, is_arrow, is_in, is_of, is_then, is_else, is_semicolon}
use Rattle.hs_syntax.proofs.Sound.{Sound, sound_then, sound_as, sound_or_by, sound_first, sound_behind, sound_sign}
use Rattle.hs_parts.specs.Names.{place, IsQop}
use Rattle.hs_parts.specs.Grammar.{IsQualified, IsApats, NoApats, MoreApats}
use Rattle.hs_parts.specs.NameReaders.{qop_at}
use Rattle.hs_parts.specs.PatternReaders.{begins_apat, some_apats, apats_at}
use Rattle.hs_parts.specs.TypeReaders.{qualified_at, qualified_tail}
use Rattle.expr_parts.specs.declared.piece.Chain.{Chain}
use Rattle.expr_parts.specs.declared.piece.Operand.{Operand}
use Rattle.expr_parts.specs.declared.piece.Operand.TheVariants as operand
use Rattle.expr_parts.specs.Grammar.{IsMinus, NoMinus, AMinus, IsGap, NoGap, AGap, IsExp, PlainExp, TypedExp, LinkedChain, IsLinks, LastClosed, LastOpen, MoreLinks, LambdaOpen, LetOpen, IfOpen, CaseClosed, DoClosed, ApplyClosed, NoAexps, MoreAexps, IsAexp, IsAltBlock, BracedAlts, IsStmtBlock, BracedStmts, IsStmts, GapStmts, IsDeclBlock, BracedDecls}
use Rattle.expr_parts.specs.Expressions.{Forms, is_minus, aexp_begins, after, opened, opened_by, infix_at, arguments_at, guard_type_by, type_at, typed_at, chain_on, block_at, operand_by, apply_of, next_forms}
use Rattle.expr_parts.proofs.SignTests.{typed_is, arrow_is, in_is, of_is, then_is, else_is, semicolon_is, minus_is}
use Rattle.expr_parts.proofs.PartsSound.{PartsSound}
use Rattle.expr_parts.proofs.Derived.{SoundForms, OperandOf, OpenOne, ClosedOne, ChainFrom, AltsFrom, StmtsFrom, ArgsFrom, DeclsFrom, IsRest, GapRest, ItemRest}

-- the type behind ::
guard_type : (q : PartsSound) (n : ℕ) (ts : List Token) (x : QualifiedType) (rest : List Token) → IsQualified ts rest x → (b : Bool)
    → Sound (IsQualified ts) (cond b (Some (x, rest)) (qualified_tail n ts))
guard_type q n ts x rest d true = d
guard_type q n ts x rest d false = q.before_arrow n ts

type_sound : (q : PartsSound) (n : ℕ) (tail : Bool) (ts : List Token) → Sound (IsQualified ts) (type_at n tail ts)
type_sound q n false ts = q.qualified n ts
type_sound q n true ts = sound_or_by (IsQualified ts) (IsQualified ts) (qualified_at n ts) (guard_type_by n ts) (qualified_tail n ts) (q.qualified n ts)
    (λ x rest d. guard_type q n ts x rest d (begins is_comma rest)) (q.before_arrow n ts)

typed_made : (q : PartsSound) (n : ℕ) (tail : Bool) (a ts : List Token) (ms : List LinkTree) (x : LastTree) (o : Bool) → IsLinks o a ts ms x
    → Sound (IsExp a) (typed_at n tail (place a) (record { tree = chain_tree (place a) ms x; is_open = o }) ts)
typed_made q n tail a ts ms x true d = PlainExp (LinkedChain d)
typed_made q n tail a ts ms x false d = sound_behind is_typed (IsExp a) ts _ _
    (λ t more e f. sound_then (IsQualified more) (IsExp a) (type_at n tail more) _ (type_sound q n tail more)
    (λ y end g. TypedExp (LinkedChain (subst (λ z. IsLinks false a z ms x) e d)) (typed_is (sign_of t) f) g))
    (PlainExp (LinkedChain d))

typed_sound : (q : PartsSound) (n : ℕ) (tail : Bool) (a ts : List Token) (c : Chain) → ChainFrom (place a) [] a ts c → Sound (IsExp a) (typed_at n tail (place a) c ts)
typed_sound q n tail a ts c d = subst (λ x. Sound (IsExp a) (typed_at n tail (place a) x ts)) (sym d.3) (typed_made q n tail a ts d.0 d.1 d.2 d.4)

pub typed_from : (q : PartsSound) (n : ℕ) (tail : Bool) (a ts : List Token) (c : Chain) → ChainFrom (place a) [] a ts c → Sound (IsExp a) (typed_at n tail (place a) c ts)
typed_from q n tail a ts c d = typed_sound q n tail a ts c d

pub exp_sound : (q : PartsSound) (n : ℕ) (r : Forms) → SoundForms r → (tail : Bool) (ts : List Token) → Sound (IsExp ts) ((next_forms n r).exp tail ts)
exp_sound q n r s tail ts = sound_then (ChainFrom (place ts) [] ts) (IsExp ts) (r.chain tail (place ts) [] ts) _ (s.chain tail (place ts) [] ts) (λ c rest d. typed_sound q n tail ts rest c d)

-- the sign of an operand
minus_by : (t : Token) (ts : List Token) (b : Bool) → is_minus (sign_of t) ≡ b → IsMinus (t ∷ ts) (cond b ts (t ∷ ts)) b
minus_by t ts true e = AMinus (minus_is (sign_of t) e)
minus_by t ts false e = NoMinus

minus_sound : (ts : List Token) → IsMinus ts (after is_minus ts) (begins is_minus ts)
minus_sound [] = NoMinus
minus_sound (t ∷ ts) = minus_by t ts (is_minus (sign_of t)) refl

gap_by : (t : Token) (ts : List Token) (b : Bool) → is_semicolon (sign_of t) ≡ b → IsGap (t ∷ ts) (cond b ts (t ∷ ts))
gap_by t ts true e = AGap (semicolon_is (sign_of t) e)
gap_by t ts false e = NoGap

gap_sound : (ts : List Token) → IsGap ts (after is_semicolon ts)
gap_sound [] = NoGap
gap_sound (t ∷ ts) = gap_by t ts (is_semicolon (sign_of t)) refl

infix_if : (ts rest : List Token) (x : QopTree) → IsQop ts rest x → (b : Bool) → Sound (IsQop ts) (cond b None (Some (x, rest)))
infix_if ts rest x d true = tt
infix_if ts rest x d false = d

pub infix_sound : (q : PartsSound) (ts : List Token) → Sound (IsQop ts) (infix_at ts)
infix_sound q ts = sound_then (IsQop ts) (IsQop ts) (qop_at ts) _ (q.qop ts) (λ x rest d. infix_if ts rest x d (begins is_close_paren rest))

abbrev chained : Pos → List LinkTree → LastTree → Bool → Chain
chained at ls x o = record { tree = chain_tree at ls x; is_open = o }

pub chain_on_sound : (q : PartsSound) (r : Forms) → SoundForms r → (tail : Bool) (at : Pos) (ls : List LinkTree) (a b : List Token) (m : Bool) → IsMinus a b m → (o : Operand) (rest : List Token) → OperandOf b rest o
    → Sound (ChainFrom at ls a) (chain_on r tail at ls (place a) m o rest)
chain_on_sound q r s tail at ls a b m g o rest (OpenOne {x = x} d) = ([], last.Open (place a) m x, true, ap (λ l. chained at l (last.Open (place a) m x) true) (sym (append-nil ls)), LastOpen g d)
chain_on_sound q r s tail at ls a b m g o rest (ClosedOne {x = x} d) = sound_or_by (IsQop rest) (ChainFrom at ls a) (infix_at rest) _ _ (infix_sound q rest)
    (λ y more e. sound_as (ChainFrom at (ls ++ link_tree (place a) m x y ∷ []) more) (ChainFrom at ls a) _ (s.chain tail at (ls ++ link_tree (place a) m x y ∷ []) more)
    (λ to c h. (
      link_tree (place a) m x y ∷ h.0,
      h.1,
      h.2,
      h.3 ∙ ap (λ l. chained at l h.1 h.2) (append_assoc ls (link_tree (place a) m x y ∷ []) h.0),
      MoreLinks g d e h.4,
    )))
    ([], last.Closed (place a) m x, false, ap (λ l. chained at l (last.Closed (place a) m x) false) (sym (append-nil ls)), LastClosed g d)

pub chain_sound : (q : PartsSound) (n : ℕ) (r : Forms) → SoundForms r → (tail : Bool) (at : Pos) (ls : List LinkTree) (ts : List Token) → Sound (ChainFrom at ls ts) ((next_forms n r).chain tail at ls ts)
chain_sound q n r s tail at ls ts = sound_then (OperandOf (after is_minus ts)) (ChainFrom at ls ts) (r.operand tail (after is_minus ts)) _ (s.operand tail (after is_minus ts))
    (λ o rest d. chain_on_sound q r s tail at ls ts (after is_minus ts) (begins is_minus ts) (minus_sound ts) o rest d)

-- the brace of a block
abbrev pub OpenedAt : List Token → List Token → Bool → Type 0
OpenedAt ts rest put = (t : Token) × (ts ≡ t ∷ rest) × (sign_of t ≡ OpenBrace put)

opened_kind : (t : Token) (ts : List Token) (k : Sign) → sign_of t ≡ k → Sound (OpenedAt (t ∷ ts)) (opened_by t ts k)
opened_kind t ts (OpenBrace put) e = (t, refl, e)
opened_kind t ts _ e = tt

pub opened_sound : (ts : List Token) → Sound (OpenedAt ts) (opened ts)
opened_sound ts = sound_first OpenedAt ts None opened_by tt (λ t rest. opened_kind t rest (sign_of t) refl)

pub block_sound : (r : Forms) → SoundForms r → (ts : List Token) → Sound (IsDeclBlock ts) (block_at r ts)
block_sound r s ts = sound_then (OpenedAt ts) (IsDeclBlock ts) (opened ts) _ (opened_sound ts)
    (λ put rest d. sound_as (DeclsFrom put [] rest) (IsDeclBlock ts) _ (s.decls put [] rest)
    (λ to ds c. subst (λ z. IsDeclBlock z to ds) (sym d.1) (subst (λ z. IsDeclBlock (d.0 ∷ rest) to z) (sym c.1) (BracedDecls d.2 c.2))))

rest_stmts : (put : Bool) {a b : List Token} {us : List StmtTree} → IsRest put false a b us → IsStmts put a b us
rest_stmts put (GapRest e x) = GapStmts e (rest_stmts put x)
rest_stmts put (ItemRest e x) = x

operand_kind : (r : Forms) → SoundForms r → (tail : Bool) (t : Token) (ts : List Token) (k : Sign) → sign_of t ≡ k → Sound (OperandOf (t ∷ ts)) (operand_by r tail t ts k)
operand_kind r s tail t ts Lambda e = s.lambda tail t ts e
operand_kind r s tail t ts Let e = s.let_in tail t ts e
operand_kind r s tail t ts If e = s.if_else tail t ts e
operand_kind r s tail t ts Case e = s.case_of t ts e
operand_kind r s tail t ts Do e = sound_then (OpenedAt ts) (OperandOf (t ∷ ts)) (opened ts) _ (opened_sound ts)
    (λ put rest d. sound_as (StmtsFrom t.at put [] false rest) (OperandOf (t ∷ ts)) _ (s.stmts t.at put [] false rest)
    (λ to o c. subst (OperandOf (t ∷ ts) to) (sym c.1) (ClosedOne (DoClosed e (subst (λ z. IsStmtBlock z to c.0) (sym d.1) (BracedStmts d.2 (rest_stmts put c.2)))))))
operand_kind r s tail t ts _ e = s.apply (t ∷ ts)

pub operand_sound : (n : ℕ) (r : Forms) → SoundForms r → (tail : Bool) (ts : List Token) → Sound (OperandOf ts) ((next_forms n r).operand tail ts)
operand_sound n r s tail ts = sound_first OperandOf ts None (operand_by r tail) tt (λ t rest. operand_kind r s tail t rest (sign_of t) refl)

-- the patterns of a lambda
apat_no_arrow : (k : Sign) → begins_apat k ≡ true → is_arrow k ≡ true → ⊥
apat_no_arrow Arrow e f = cc
apat_no_arrow _ e f = cc

abbrev Arguments : List Token → List Token → List ApatTree → Type 0
Arguments a more ps = (p : ApatTree) × (qs : List ApatTree) × (w : Token) × (ps ≡ p ∷ qs) × IsApats a (w ∷ more) (p ∷ qs) × is_arrow (sign_of w) ≡ true

some_arguments : (a b : List Token) (ps : List ApatTree) → IsApats a b ps → begins begins_apat a ≡ true → (c : Token) (more : List Token) → b ≡ c ∷ more → is_arrow (sign_of c) ≡ true → Arguments a more ps
some_arguments a b ps (NoApats {a = x}) s c more e g = absurd (apat_no_arrow (sign_of c) (sym (ap (begins begins_apat) e) ∙ s) g)
some_arguments a b ps (MoreApats {p = p} {ps = qs} d r) s c more e g = (p, qs, c, refl, subst (λ z. IsApats a z (p ∷ qs)) e (MoreApats d r), g)

abbrev Started : List Token → List Token → List ApatTree → Type 0
Started a rest ps = IsApats a rest ps × (begins begins_apat a ≡ true)

apats_if : (q : PartsSound) (n : ℕ) (a : List Token) (b : Bool) → begins begins_apat a ≡ b → Sound (Started a) (cond b (apats_at n a) None)
apats_if q n a false e = tt
apats_if q n a true e = sound_as (IsApats a) (Started a) (apats_at n a) (q.apats n a) (λ rest ps d. (d, e))

arguments_sound : (q : PartsSound) (n : ℕ) (a : List Token) → Sound (Arguments a) (arguments_at n a)
arguments_sound q n a = sound_then (Started a) (Arguments a) (some_apats n a) _ (apats_if q n a (begins begins_apat a) refl)
    (λ ps rest d. sound_sign is_arrow (Arguments a) rest ps (λ c more e g. some_arguments a rest ps d.0 d.1 c more e g))

pub lambda_sound : (q : PartsSound) (n : ℕ) (r : Forms) → SoundForms r → (tail : Bool) (t : Token) (a : List Token) → sign_of t ≡ Lambda → Sound (OperandOf (t ∷ a)) ((next_forms n r).lambda tail t.at a)
lambda_sound q n r s tail t a g = sound_then (Arguments a) (OperandOf (t ∷ a)) (arguments_at n a) _ (arguments_sound q n a)
    (λ ps rest c. sound_then (IsExp rest) (OperandOf (t ∷ a)) (r.exp tail rest) _ (s.exp tail rest)
    (λ e end d. subst (λ x. OperandOf (t ∷ a) end (operand.Open (open_.Lambda t.at x e))) (sym c.3) (OpenOne (LambdaOpen g c.4 (arrow_is (sign_of c.2) c.5) d))))

pub let_in_sound : (n : ℕ) (r : Forms) → SoundForms r → (tail : Bool) (t : Token) (a : List Token) → sign_of t ≡ Let → Sound (OperandOf (t ∷ a)) ((next_forms n r).let_in tail t.at a)
let_in_sound n r s tail t a g = sound_then (IsDeclBlock a) (OperandOf (t ∷ a)) (block_at r a) _ (block_sound r s a)
    (λ ds rest d. sound_behind is_in (OperandOf (t ∷ a)) rest _ None
    (λ w more e f. sound_then (IsExp more) (OperandOf (t ∷ a)) (r.exp tail more) _ (s.exp tail more)
    (λ x end h. OpenOne (LetOpen g (subst (λ z. IsDeclBlock a z ds) e d) (in_is (sign_of w) f) h)))
    tt)

pub if_sound : (n : ℕ) (r : Forms) → SoundForms r → (tail : Bool) (t : Token) (a : List Token) → sign_of t ≡ If → Sound (OperandOf (t ∷ a)) ((next_forms n r).if_else tail t.at a)
if_sound n r s tail t a g = sound_then (IsExp a) (OperandOf (t ∷ a)) (r.exp false a) _ (s.exp false a)
    (λ x rest d. sound_behind is_then (OperandOf (t ∷ a)) (after is_semicolon rest) _ None
    (λ v more e f. sound_then (IsExp more) (OperandOf (t ∷ a)) (r.exp false more) _ (s.exp false more)
    (λ y next h. sound_behind is_else (OperandOf (t ∷ a)) (after is_semicolon next) _ None
    (λ w other i j. sound_then (IsExp other) (OperandOf (t ∷ a)) (r.exp tail other) _ (s.exp tail other)
    (λ z end k. OpenOne (IfOpen g d (subst (IsGap rest) e (gap_sound rest)) (then_is (sign_of v) f) h (subst (IsGap next) i (gap_sound next)) (else_is (sign_of w) j) k)))
    tt))
    tt)

pub case_sound : (n : ℕ) (r : Forms) → SoundForms r → (t : Token) (a : List Token) → sign_of t ≡ Case → Sound (OperandOf (t ∷ a)) ((next_forms n r).case_of t.at a)
case_sound n r s t a g = sound_then (IsExp a) (OperandOf (t ∷ a)) (r.exp false a) _ (s.exp false a)
    (λ x rest d. sound_behind is_of (OperandOf (t ∷ a)) rest _ None
    (λ w more e f. sound_then (OpenedAt more) (OperandOf (t ∷ a)) (opened more) _ (opened_sound more)
    (λ put next h. sound_as (AltsFrom t.at x put [] next) (OperandOf (t ∷ a)) _ (s.alts t.at x put [] next)
    (λ to o c. subst (OperandOf (t ∷ a) to) (sym c.1) (ClosedOne (CaseClosed g (subst (λ z. IsExp a z x) e d) (of_is (sign_of w) f) (subst (λ z. IsAltBlock z to c.0) (sym h.1) (BracedAlts h.2 c.2)))))))
    tt)

pub apply_sound : (n : ℕ) (r : Forms) → SoundForms r → (ts : List Token) → Sound (OperandOf ts) ((next_forms n r).apply ts)
apply_sound n r s ts = sound_then (IsAexp ts) (OperandOf ts) (r.aexp ts) _ (s.aexp ts)
    (λ x rest d. sound_as (ArgsFrom (place ts) x [] rest) (OperandOf ts) _ (s.args (place ts) x [] rest) (λ to o c. subst (OperandOf ts to) (sym c.1) (ClosedOne (ApplyClosed d c.2))))

args_if : (r : Forms) → SoundForms r → (at : Pos) (h : AexpTree) (xs : List AexpTree) (ts : List Token) (b : Bool)
    → Sound (ArgsFrom at h xs ts) (cond b (and_then (r.aexp ts) (λ x rest. r.args at h (xs ++ x ∷ []) rest)) (Some (operand.Closed (apply_of at h xs), ts)))
args_if r s at h xs ts true = sound_then (IsAexp ts) (ArgsFrom at h xs ts) (r.aexp ts) _ (s.aexp ts)
    (λ x rest d. sound_as (ArgsFrom at h (xs ++ x ∷ []) rest) (ArgsFrom at h xs ts) _ (s.args at h (xs ++ x ∷ []) rest)
    (λ to o c. (x ∷ c.0, c.1 ∙ ap (λ l. operand.Closed (apply_of at h l)) (append_assoc xs (x ∷ []) c.0), MoreAexps d c.2)))
args_if r s at h xs ts false = ([], ap (λ l. operand.Closed (apply_of at h l)) (sym (append-nil xs)), NoAexps)

pub args_sound : (n : ℕ) (r : Forms) → SoundForms r → (at : Pos) (h : AexpTree) (xs : List AexpTree) (ts : List Token) → Sound (ArgsFrom at h xs ts) ((next_forms n r).args at h xs ts)
args_sound n r s at h xs ts = args_if r s at h xs ts (begins aexp_begins ts)
