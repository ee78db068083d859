-- What is read in blocks, and as a qualifier, a guard or a body, is derived as it.
use Rattle.std.proofs.Common.{◌≡◌, ◌⊎◌, inl, inr, ℕ, Bool, true, false, cond, List, [], ◌∷◌, ◌++◌, Some, None, refl, sym, ap, ◌∙◌, append_assoc, subst}
use Rattle.std.proofs.lemmas.List.{append-nil}
use Rattle.mk_base.specs.declared.place.Pos.{Pos}
use Rattle.hs_syntax.specs.declared.token.Token.{Token}
use Rattle.hs_syntax.specs.declared.sign.Sign.{Sign}
use Rattle.hs_syntax.specs.declared.sign.Sign.TheVariants.{CloseBrace, Semicolon, Let, Back}
use Rattle.hs_syntax.specs.declared.pattern_tree.PatTree.{PatTree}
use Rattle.hs_syntax.specs.declared.expr_tree.ExprTree.{ExprTree}
use Rattle.hs_syntax.specs.declared.expr_tree.ClosedTree.TheVariants as closed
use Rattle.hs_syntax.specs.declared.expr_tree.AltTree.{AltTree}
use Rattle.hs_syntax.specs.declared.expr_tree.ArmTree.{ArmTree}
use Rattle.hs_syntax.specs.declared.expr_tree.GuardTree.{GuardTree}
use Rattle.hs_syntax.specs.declared.expr_tree.GuardTree.TheVariants as guard
use Rattle.hs_syntax.specs.declared.expr_tree.QualTree.{QualTree}
use Rattle.hs_syntax.specs.declared.expr_tree.StmtTree.{StmtTree}
use Rattle.hs_syntax.specs.declared.expr_tree.StmtTree.TheVariants as stmt
use Rattle.hs_syntax.specs.declared.expr_tree.DeclTree.{DeclTree}
use Rattle.hs_syntax.specs.Signs.{sign_of}
use Rattle.hs_syntax.specs.Made.{arm_tree}
use Rattle.hs_syntax.specs.Reading.{begins, is_comma, is_back, is_bar, is_in, is_where}
use Rattle.hs_syntax.proofs.Sound.{Sound, sound_then, sound_as, sound_or, sound_or_by, sound_first, sound_behind, sound_sign}
use Rattle.hs_parts.specs.Names.{place}
use Rattle.hs_parts.specs.Grammar.{IsPattern, IsLhs, IsSig, IsFix}
use Rattle.hs_parts.specs.PatternReaders.{pattern_at}
use Rattle.hs_parts.specs.SideReaders.{side_at}
use Rattle.hs_parts.specs.SigReaders.{sig_at, fix_at}
use Rattle.expr_parts.specs.declared.piece.Operand.TheVariants as operand
use Rattle.expr_parts.specs.declared.piece.Part.{Part}
use Rattle.expr_parts.specs.declared.piece.Body.{Body}
use Rattle.expr_parts.specs.declared.piece.Body.TheVariants as body_of
use Rattle.expr_parts.specs.Grammar.{NoMinus, EndsItem, IsGaps, NoGaps, MoreGaps, IsExp, PlainExp, LinkedChain, LastOpen, LetOpen, LastQual, MoreQuals, IsQual, BindQual, LetQual, TestQual, IsGuards, LastGuard, MoreGuards, IsGuard, BindGuard, LetGuard, TestGuard, IsArms, LastArm, MoreArms, IsArm, GuardedArm, IsWhere, NoWhere, AWhere, IsRhs, PlainRhs, GuardedRhs, IsAlt, PlainAlt, GuardedAlt, IsAlts, EndAlts, GapAlts, ItemAlts, IsStmt, ExpStmt, BindStmt, LetStmt, IsStmts, GapStmts, LastStmt, MoreStmts, IsDeclBlock, IsDecls, EndDecls, GapDecls, ItemDecls, IsDecl, SigDecl, FixDecl, ClauseDecl, IsClause, SidesClause}
use Rattle.expr_parts.specs.Expressions.{Forms, is_body, closes, ends_item, End, Neither, between_by, bound_at, block_at, alts_by, stmts_by, decls_by, qual_of, stmt_of, is_test, rhs_of, alt_of, sig_decl_at, plain_decl_at, exp_part_at, chain_guard_at, part_by, guard_by, next_forms}
use Rattle.expr_parts.proofs.SignTests.{comma_is, equals_is, arrow_is, back_is, bar_is, in_is, where_is}
use Rattle.expr_parts.proofs.PartsSound.{PartsSound}
use Rattle.expr_parts.proofs.Derived.{SoundForms, body_sign, PartOf, BindPart, LetPart, TestPart, BodyOf, PlainBody, GuardedBody, IsRest, EndRest, GapRest, ItemRest, ChainFrom, AltsFrom, StmtsFrom, QualsFrom, ArmsFrom, GuardsFrom, DeclsFrom}
use Rattle.expr_parts.proofs.ChainSound.{block_sound}

-- What ends an item

closes_is : (put : Bool) (k : Sign) → closes put k ≡ true → k ≡ CloseBrace put
closes_is true (CloseBrace true) e = refl
closes_is false (CloseBrace false) e = refl
closes_is true (CloseBrace false) e = absurd (let x : ⊥ = cc in x)
closes_is false (CloseBrace true) e = absurd (let x : ⊥ = cc in x)
closes_is true _ e = absurd (let x : ⊥ = cc in x)
closes_is false _ e = absurd (let x : ⊥ = cc in x)

ends_is : (put : Bool) (k : Sign) → ends_item put k ≡ true → EndsItem put k
ends_is put Semicolon e = inl refl
ends_is put k e = inr (closes_is put k e)

abbrev Ended : Bool → List Token → Type 0
Ended put rest = (t : Token) × (b : List Token) × (rest ≡ t ∷ b) × EndsItem put (sign_of t)

ended : (put : Bool) (rest : List Token) → begins (ends_item put) rest ≡ true → Ended put rest
ended put [] e = absurd (let x : ⊥ = cc in x)
ended put (t ∷ b) e = (t, b, refl, ends_is put (sign_of t) e)

neither_item : (put : Bool) (k : Sign) → closes put k ≡ false → (k ≡ Semicolon → ⊥) → ends_item put k ≡ false
neither_item put Semicolon e f = absurd (f refl)
neither_item put k e f = e

-- Alternatives

alts_if : (r : Forms) → SoundForms r → (at : Pos) (e : ExprTree) (put : Bool) (xs : List AltTree) (a rest : List Token) (x : AltTree) → IsAlt a rest x → (b : Bool) → begins (ends_item put) rest ≡ b
    → Sound (AltsFrom at e put xs a) (cond b (r.alts at e put (xs ++ x ∷ []) rest) None)
alts_if r s at e put xs a rest x d true g = let h : Ended put rest = ended put rest g in
    sound_as (AltsFrom at e put (xs ++ x ∷ []) rest) (AltsFrom at e put xs a) _ (s.alts at e put (xs ++ x ∷ []) rest)
    (λ to y c. (
      x ∷ c.0,
      c.1 ∙ ap (λ l. operand.Closed (closed.Case at e l)) (append_assoc xs (x ∷ []) c.0),
      ItemAlts (subst (λ z. IsAlt a z x) h.2 d) h.3 (subst (λ z. IsAlts put z to c.0) h.2 c.2),
    ))
alts_if r s at e put xs a rest x d false g = tt

alt_here : (r : Forms) → SoundForms r → (at : Pos) (e : ExprTree) (put : Bool) (xs : List AltTree) (a : List Token) → Sound (AltsFrom at e put xs a) (alts_by r at e put xs a Neither)
alt_here r s at e put xs a = sound_then (IsAlt a) (AltsFrom at e put xs a) (r.alt a) _ (s.alt a) (λ x rest d. alts_if r s at e put xs a rest x d (begins (ends_item put) rest) refl)

alts_close : (r : Forms) → SoundForms r → (at : Pos) (e : ExprTree) (put : Bool) (xs : List AltTree) (t : Token) (ts : List Token) (b : Bool) → closes put (sign_of t) ≡ b
    → Sound (AltsFrom at e put xs (t ∷ ts)) (alts_by r at e put xs (t ∷ ts) (cond b (End ts) Neither))
alts_close r s at e put xs t ts true g = ([], ap (λ l. operand.Closed (closed.Case at e l)) (sym (append-nil xs)), EndAlts (closes_is put (sign_of t) g))
alts_close r s at e put xs t ts false g = alt_here r s at e put xs (t ∷ ts)

alts_kind : (r : Forms) → SoundForms r → (at : Pos) (e : ExprTree) (put : Bool) (xs : List AltTree) (t : Token) (ts : List Token) (k : Sign) → sign_of t ≡ k
    → Sound (AltsFrom at e put xs (t ∷ ts)) (alts_by r at e put xs (t ∷ ts) (between_by put ts k))
alts_kind r s at e put xs t ts Semicolon g = sound_as (AltsFrom at e put xs ts) (AltsFrom at e put xs (t ∷ ts)) _ (s.alts at e put xs ts) (λ to y c. (c.0, c.1, GapAlts g c.2))
alts_kind r s at e put xs t ts k g = alts_close r s at e put xs t ts (closes put k) (ap (closes put) g)

pub alts_sound : (n : ℕ) (r : Forms) → SoundForms r → (at : Pos) (e : ExprTree) (put : Bool) (xs : List AltTree) (ts : List Token) → Sound (AltsFrom at e put xs ts) ((next_forms n r).alts at e put xs ts)
alts_sound n r s at e put xs [] = alt_here r s at e put xs []
alts_sound n r s at e put xs (t ∷ ts) = alts_kind r s at e put xs t ts (sign_of t) refl

alt_body : (a b c : List Token) (p : PatTree) (x : Body) → IsPattern a b p → BodyOf true b c x → IsAlt a c (alt_of (place a) p x)
alt_body a b c p x d (PlainBody e f w) = PlainAlt d e f w
alt_body a b c p x d (GuardedBody f w) = GuardedAlt d f w

pub alt_sound : (q : PartsSound) (n : ℕ) (r : Forms) → SoundForms r → (ts : List Token) → Sound (IsAlt ts) ((next_forms n r).alt ts)
alt_sound q n r s ts = sound_then (IsPattern ts) (IsAlt ts) (pattern_at n ts) _ (q.pattern n ts)
    (λ p rest d. sound_then (BodyOf true rest) (IsAlt ts) (r.body true rest) _ (s.body true rest) (λ x end e. alt_body ts rest end p x d e))

-- Statements

stmt_part : {a b : List Token} {p : Part} → PartOf a b p → IsStmt a b (stmt_of (place a) p)
stmt_part (BindPart x e y) = BindStmt x e y
stmt_part (LetPart e x) = LetStmt e x
stmt_part (TestPart x) = ExpStmt x

-- behind an expression there may be semicolons alone
abbrev LastOf : Bool → List Token → List Token → List StmtTree → Type 0
LastOf put a b us = ((us ≡ []) × (t : Token) × IsGaps a (t ∷ b) × (sign_of t ≡ CloseBrace put)) ⊎ IsStmts put a b us

last_gap : (put : Bool) (t : Token) (a b : List Token) (us : List StmtTree) → sign_of t ≡ Semicolon → LastOf put a b us → LastOf put (t ∷ a) b us
last_gap put t a b us e (inl h) = inl (h.0, h.1, MoreGaps e h.2, h.3)
last_gap put t a b us e (inr h) = inr (GapStmts e h)

rest_last : (put : Bool) {a b : List Token} {us : List StmtTree} → IsRest put true a b us → LastOf put a b us
rest_last put (EndRest {t = t} e) = inl (refl, t, NoGaps, e)
rest_last put (GapRest {a = a} {b = b} {t = t} {ss = ss} e x) = last_gap put t a b ss e (rest_last put x)
rest_last put (ItemRest e x) = inr x

after_exp : (put : Bool) (a b c : List Token) (t : Token) (e : ExprTree) (us : List StmtTree) → IsExp a (t ∷ b) e → sign_of t ≡ Semicolon → LastOf put b c us → IsStmts put a c (stmt.Exp (place a) e ∷ us)
after_exp put a b c t e us d f (inl h) = subst (λ l. IsStmts put a c (stmt.Exp (place a) e ∷ l)) (sym h.0) (LastStmt d (MoreGaps f h.2) h.3)
after_exp put a b c t e us d f (inr h) = MoreStmts (ExpStmt d) f h

rest_plain : (put : Bool) {a b : List Token} {us : List StmtTree} → IsRest put false a b us → IsStmts put a b us
rest_plain put (GapRest e x) = GapStmts e (rest_plain put x)
rest_plain put (ItemRest e x) = x

part_stmts : (put : Bool) (a b c : List Token) (p : Part) (us : List StmtTree) → PartOf a b p → begins (ends_item put) b ≡ true → IsRest put (is_test p) b c us → IsStmts put a c (stmt_of (place a) p ∷ us)
part_stmts put a b c p us (TestPart d) e (EndRest f) = LastStmt d NoGaps f
part_stmts put a b c p us (TestPart {e = x} d) e (GapRest {a = z} {t = t} {ss = ss} f y) = after_exp put a z c t x ss d f (rest_last put y)
part_stmts put a b c p us (TestPart d) e (ItemRest f y) = absurd (let x : ⊥ = cc in x)
part_stmts put a b c p us (BindPart d g h) e (GapRest f y) = MoreStmts (BindStmt d g h) f (rest_plain put y)
part_stmts put a b c p us (BindPart d g h) e (ItemRest f y) = absurd (let x : ⊥ = cc in x)
part_stmts put a b c p us (LetPart {t = t} g h) e (GapRest f y) = MoreStmts (LetStmt g h) f (rest_plain put y)
part_stmts put a b c p us (LetPart g h) e (ItemRest f y) = absurd (let x : ⊥ = cc in x)

stmts_if : (r : Forms) → SoundForms r → (at : Pos) (put : Bool) (ss : List StmtTree) (whole : Bool) (a rest : List Token) (p : Part) → begins (ends_item put) a ≡ false → PartOf a rest p
    → (b : Bool) → begins (ends_item put) rest ≡ b → Sound (StmtsFrom at put ss whole a) (cond b (r.stmts at put (ss ++ stmt_of (place a) p ∷ []) (is_test p) rest) None)
stmts_if r s at put ss whole a rest p g d true e =
    sound_as (StmtsFrom at put (ss ++ stmt_of (place a) p ∷ []) (is_test p) rest) (StmtsFrom at put ss whole a) _ (s.stmts at put (ss ++ stmt_of (place a) p ∷ []) (is_test p) rest)
    (λ to y c. (
      stmt_of (place a) p ∷ c.0,
      c.1 ∙ ap (λ l. operand.Closed (closed.Do at l)) (append_assoc ss (stmt_of (place a) p ∷ []) c.0),
      ItemRest g (part_stmts put a rest to p c.0 d e c.2),
    ))
stmts_if r s at put ss whole a rest p g d false e = tt

stmt_here : (r : Forms) → SoundForms r → (at : Pos) (put : Bool) (ss : List StmtTree) (whole : Bool) (a : List Token) → begins (ends_item put) a ≡ false
    → Sound (StmtsFrom at put ss whole a) (stmts_by r at put ss whole a Neither)
stmt_here r s at put ss whole a g = sound_then (PartOf a) (StmtsFrom at put ss whole a) (r.part a) _ (s.part a) (λ p rest d. stmts_if r s at put ss whole a rest p g d (begins (ends_item put) rest) refl)

stmts_end : (r : Forms) (at : Pos) (put : Bool) (ss : List StmtTree) (whole : Bool) (t : Token) (ts : List Token) → sign_of t ≡ CloseBrace put
    → Sound (StmtsFrom at put ss whole (t ∷ ts)) (stmts_by r at put ss whole (t ∷ ts) (End ts))
stmts_end r at put ss true t ts e = ([], ap (λ l. operand.Closed (closed.Do at l)) (sym (append-nil ss)), EndRest e)
stmts_end r at put ss false t ts e = tt

stmts_close : (r : Forms) → SoundForms r → (at : Pos) (put : Bool) (ss : List StmtTree) (whole : Bool) (t : Token) (ts : List Token) → (sign_of t ≡ Semicolon → ⊥) → (b : Bool) → closes put (sign_of t) ≡ b
    → Sound (StmtsFrom at put ss whole (t ∷ ts)) (stmts_by r at put ss whole (t ∷ ts) (cond b (End ts) Neither))
stmts_close r s at put ss whole t ts f true g = stmts_end r at put ss whole t ts (closes_is put (sign_of t) g)
stmts_close r s at put ss whole t ts f false g = stmt_here r s at put ss whole (t ∷ ts) (neither_item put (sign_of t) g f)

no_gap : (j : Sign) (k : Sign) → j ≡ k → (k ≡ Semicolon → ⊥) → j ≡ Semicolon → ⊥
no_gap j k e f g = f (sym e ∙ g)

unlike : (k : Sign) → (k ≡ Semicolon) ⊎ (k ≡ Semicolon → ⊥)
unlike Semicolon = inl refl
unlike _ = inr (λ e. cc)

stmts_kind : (r : Forms) → SoundForms r → (at : Pos) (put : Bool) (ss : List StmtTree) (whole : Bool) (t : Token) (ts : List Token) (k : Sign) → sign_of t ≡ k
    → Sound (StmtsFrom at put ss whole (t ∷ ts)) (stmts_by r at put ss whole (t ∷ ts) (between_by put ts k))
stmts_kind r s at put ss whole t ts Semicolon g = sound_as (StmtsFrom at put ss whole ts) (StmtsFrom at put ss whole (t ∷ ts)) _ (s.stmts at put ss whole ts) (λ to y c. (c.0, c.1, GapRest g c.2))
stmts_kind r s at put ss whole t ts k g = stmts_close r s at put ss whole t ts (no_gap (sign_of t) k g (λ e. cc)) (closes put k) (ap (closes put) g)

pub stmts_sound : (n : ℕ) (r : Forms) → SoundForms r → (at : Pos) (put : Bool) (ss : List StmtTree) (whole : Bool) (ts : List Token) → Sound (StmtsFrom at put ss whole ts) ((next_forms n r).stmts at put ss whole ts)
stmts_sound n r s at put ss whole [] = stmt_here r s at put ss whole [] refl
stmts_sound n r s at put ss whole (t ∷ ts) = stmts_kind r s at put ss whole t ts (sign_of t) refl

-- Declarations

decls_if : (r : Forms) → SoundForms r → (put : Bool) (xs : List DeclTree) (a rest : List Token) (x : DeclTree) → IsDecl a rest x → (b : Bool) → begins (ends_item put) rest ≡ b
    → Sound (DeclsFrom put xs a) (cond b (r.decls put (xs ++ x ∷ []) rest) None)
decls_if r s put xs a rest x d true g = let h : Ended put rest = ended put rest g in
    sound_as (DeclsFrom put (xs ++ x ∷ []) rest) (DeclsFrom put xs a) _ (s.decls put (xs ++ x ∷ []) rest)
    (λ to y c. (x ∷ c.0, c.1 ∙ append_assoc xs (x ∷ []) c.0, ItemDecls (subst (λ z. IsDecl a z x) h.2 d) h.3 (subst (λ z. IsDecls put z to c.0) h.2 c.2)))
decls_if r s put xs a rest x d false g = tt

decl_here : (r : Forms) → SoundForms r → (put : Bool) (xs : List DeclTree) (a : List Token) → Sound (DeclsFrom put xs a) (decls_by r put xs a Neither)
decl_here r s put xs a = sound_then (IsDecl a) (DeclsFrom put xs a) (r.decl a) _ (s.decl a) (λ x rest d. decls_if r s put xs a rest x d (begins (ends_item put) rest) refl)

decls_close : (r : Forms) → SoundForms r → (put : Bool) (xs : List DeclTree) (t : Token) (ts : List Token) (b : Bool) → closes put (sign_of t) ≡ b
    → Sound (DeclsFrom put xs (t ∷ ts)) (decls_by r put xs (t ∷ ts) (cond b (End ts) Neither))
decls_close r s put xs t ts true g = ([], sym (append-nil xs), EndDecls (closes_is put (sign_of t) g))
decls_close r s put xs t ts false g = decl_here r s put xs (t ∷ ts)

decls_kind : (r : Forms) → SoundForms r → (put : Bool) (xs : List DeclTree) (t : Token) (ts : List Token) (k : Sign) → sign_of t ≡ k → Sound (DeclsFrom put xs (t ∷ ts)) (decls_by r put xs (t ∷ ts) (between_by put ts k))
decls_kind r s put xs t ts Semicolon g = sound_as (DeclsFrom put xs ts) (DeclsFrom put xs (t ∷ ts)) _ (s.decls put xs ts) (λ to y c. (c.0, c.1, GapDecls g c.2))
decls_kind r s put xs t ts k g = decls_close r s put xs t ts (closes put k) (ap (closes put) g)

pub decls_sound : (n : ℕ) (r : Forms) → SoundForms r → (put : Bool) (xs : List DeclTree) (ts : List Token) → Sound (DeclsFrom put xs ts) ((next_forms n r).decls put xs ts)
decls_sound n r s put xs [] = decl_here r s put xs []
decls_sound n r s put xs (t ∷ ts) = decls_kind r s put xs t ts (sign_of t) refl

pub decl_sound : (q : PartsSound) (n : ℕ) (r : Forms) → SoundForms r → (ts : List Token) → Sound (IsDecl ts) ((next_forms n r).decl ts)
decl_sound q n r s ts = sound_or (IsDecl ts) (plain_decl_at n ts) _
    (sound_or (IsDecl ts) (sig_decl_at n ts) _ (sound_then (IsSig ts) (IsDecl ts) (sig_at n ts) _ (q.sig n ts) (λ x rest d. SigDecl d))
    (sound_then (IsFix ts) (IsDecl ts) (fix_at n ts) _ (q.fix n ts) (λ x rest d. FixDecl d)))
    (sound_then (IsClause ts) (IsDecl ts) (r.clause ts) _ (s.clause ts) (λ x rest d. ClauseDecl d))

rhs_body : (a b : List Token) (x : Body) → BodyOf false a b x → IsRhs a b (rhs_of (place a) x)
rhs_body a b x (PlainBody e f w) = PlainRhs e f w
rhs_body a b x (GuardedBody f w) = GuardedRhs f w

pub clause_sound : (q : PartsSound) (n : ℕ) (r : Forms) → SoundForms r → (ts : List Token) → Sound (IsClause ts) ((next_forms n r).clause ts)
clause_sound q n r s ts = sound_then (IsLhs ts) (IsClause ts) (side_at ts) _ (q.lhs ts)
    (λ l rest d. sound_then (BodyOf false rest) (IsClause ts) (r.body false rest) _ (s.body false rest) (λ x end e. SidesClause d (rhs_body rest end x e)))

pub locals_sound : (n : ℕ) (r : Forms) → SoundForms r → (ts : List Token) → Sound (IsWhere ts) ((next_forms n r).locals ts)
locals_sound n r s ts = sound_behind is_where (IsWhere ts) ts _ _
    (λ t rest e f. sound_then (IsDeclBlock rest) (IsWhere ts) (block_at r rest) _ (block_sound r s rest) (λ ds end d. subst (λ z. IsWhere z end (Some ds)) (sym e) (AWhere (where_is (sign_of t) f) d)))
    NoWhere

-- Qualifiers

qual_part : {a b : List Token} {p : Part} → PartOf a b p → IsQual a b (qual_of (place a) p)
qual_part (BindPart x e y) = BindQual x e y
qual_part (LetPart e x) = LetQual e x
qual_part (TestPart x) = TestQual x

pub quals_sound : (n : ℕ) (r : Forms) → SoundForms r → (xs : List QualTree) (ts : List Token) → Sound (QualsFrom xs ts) ((next_forms n r).quals xs ts)
quals_sound n r s xs ts = sound_then (PartOf ts) (QualsFrom xs ts) (r.part ts) _ (s.part ts)
    (λ p rest d. sound_behind is_comma (QualsFrom xs ts) rest _ _
    (λ m more e f. sound_as (QualsFrom (xs ++ qual_of (place ts) p ∷ []) more) (QualsFrom xs ts) _ (s.quals (xs ++ qual_of (place ts) p ∷ []) more)
    (λ to y c. (qual_of (place ts) p ∷ c.0, c.1 ∙ append_assoc xs (qual_of (place ts) p ∷ []) c.0, MoreQuals (subst (λ z. IsQual ts z (qual_of (place ts) p)) e (qual_part d)) (comma_is (sign_of m) f) c.2)))
    (qual_of (place ts) p ∷ [], refl, LastQual (qual_part d)))

abbrev pub Bound : List Token → List Token → PatTree → Type 0
Bound ts rest p = (w : Token) × IsPattern ts (w ∷ rest) p × (sign_of w ≡ Back)

pub bound_sound : (q : PartsSound) (n : ℕ) (ts : List Token) → Sound (Bound ts) (bound_at n ts)
bound_sound q n ts = sound_then (IsPattern ts) (Bound ts) (pattern_at n ts) _ (q.pattern n ts)
    (λ p rest d. sound_sign is_back (Bound ts) rest p (λ w more e f. (w, subst (λ z. IsPattern ts z p) e d, back_is (sign_of w) f)))

exp_part_sound : (q : PartsSound) (n : ℕ) (r : Forms) → SoundForms r → (ts : List Token) → Sound (PartOf ts) (exp_part_at r n ts)
exp_part_sound q n r s ts = sound_or_by (Bound ts) (PartOf ts) (bound_at n ts) _ _ (bound_sound q n ts)
    (λ p rest c. sound_then (IsExp rest) (PartOf ts) (r.exp false rest) _ (s.exp false rest) (λ e end d. BindPart c.1 c.2 d))
    (sound_then (IsExp ts) (PartOf ts) (r.exp false ts) _ (s.exp false ts) (λ e end d. TestPart d))

part_kind : (q : PartsSound) (n : ℕ) (r : Forms) → SoundForms r → (t : Token) (ts : List Token) (k : Sign) → sign_of t ≡ k → Sound (PartOf (t ∷ ts)) (part_by r n t ts k)
part_kind q n r s t ts Let e = s.let_part t ts e
part_kind q n r s t ts _ e = exp_part_sound q n r s (t ∷ ts)

pub part_sound : (q : PartsSound) (n : ℕ) (r : Forms) → SoundForms r → (ts : List Token) → Sound (PartOf ts) ((next_forms n r).part ts)
part_sound q n r s ts = sound_first PartOf ts None (part_by r n) tt (λ t rest. part_kind q n r s t rest (sign_of t) refl)

pub let_part_sound : (n : ℕ) (r : Forms) → SoundForms r → (t : Token) (a : List Token) → sign_of t ≡ Let → Sound (PartOf (t ∷ a)) ((next_forms n r).let_part t.at a)
let_part_sound n r s t a g = sound_then (IsDeclBlock a) (PartOf (t ∷ a)) (block_at r a) _ (block_sound r s a)
    (λ ds rest d. sound_behind is_in (PartOf (t ∷ a)) rest _ _
    (λ w more e f. sound_then (IsExp more) (PartOf (t ∷ a)) (r.exp false more) _ (s.exp false more)
    (λ x end h. TestPart (PlainExp (LinkedChain (LastOpen NoMinus (LetOpen g (subst (λ z. IsDeclBlock a z ds) e d) (in_is (sign_of w) f) h))))))
    (LetPart g d))

-- Bodies

body_is : (s : Bool) (k : Sign) → is_body s k ≡ true → k ≡ body_sign s
body_is true k e = arrow_is k e
body_is false k e = equals_is k e

pub body_sound : (n : ℕ) (r : Forms) → SoundForms r → (b : Bool) (ts : List Token) → Sound (BodyOf b ts) ((next_forms n r).body b ts)
body_sound n r s b ts = sound_behind (is_body b) (BodyOf b ts) ts _ _
    (λ t rest e f. sound_then (IsExp rest) (BodyOf b ts) (r.exp false rest) _ (s.exp false rest)
    (λ x more d. sound_then (IsWhere more) (BodyOf b ts) (r.locals more) _ (s.locals more) (λ w end h. subst (λ z. BodyOf b z end (body_of.Plain x w)) (sym e) (PlainBody (body_is b (sign_of t) f) d h))))
    (sound_then (ArmsFrom b [] ts) (BodyOf b ts) (r.arms b [] ts) _ (s.arms b [] ts)
    (λ xs more c. sound_then (IsWhere more) (BodyOf b ts) (r.locals more) _ (s.locals more) (λ w end h. GuardedBody (subst (λ l. IsArms (body_sign b) ts more l) (sym c.1) c.2) h)))

arms_if : (r : Forms) → SoundForms r → (b : Bool) (xs : List ArmTree) (ts rest : List Token) (x : ArmTree) → IsArm (body_sign b) ts rest x → (v : Bool)
    → Sound (ArmsFrom b xs ts) (cond v (r.arms b (xs ++ x ∷ []) rest) (Some (xs ++ x ∷ [], rest)))
arms_if r s b xs ts rest x d true = sound_as (ArmsFrom b (xs ++ x ∷ []) rest) (ArmsFrom b xs ts) _ (s.arms b (xs ++ x ∷ []) rest)
    (λ to y c. (x ∷ c.0, c.1 ∙ append_assoc xs (x ∷ []) c.0, MoreArms d c.2))
arms_if r s b xs ts rest x d false = (x ∷ [], refl, LastArm d)

pub arms_sound : (n : ℕ) (r : Forms) → SoundForms r → (b : Bool) (xs : List ArmTree) (ts : List Token) → Sound (ArmsFrom b xs ts) ((next_forms n r).arms b xs ts)
arms_sound n r s b xs ts = sound_then (IsArm (body_sign b) ts) (ArmsFrom b xs ts) (r.arm b ts) _ (s.arm b ts) (λ x rest d. arms_if r s b xs ts rest x d (begins is_bar rest))

pub arm_sound : (n : ℕ) (r : Forms) → SoundForms r → (b : Bool) (ts : List Token) → Sound (IsArm (body_sign b) ts) ((next_forms n r).arm b ts)
arm_sound n r s b ts = sound_behind is_bar (IsArm (body_sign b) ts) ts _ None
    (λ t rest e f. sound_then (GuardsFrom [] rest) (IsArm (body_sign b) ts) (r.guards b [] rest) _ (s.guards b [] rest)
    (λ gs next c. sound_behind (is_body b) (IsArm (body_sign b) ts) next _ None
    (λ w more h i. sound_then (IsExp more) (IsArm (body_sign b) ts) (r.exp false more) _ (s.exp false more)
    (λ x end d. subst (λ z. IsArm (body_sign b) z end (arm_tree (place z) gs x)) (sym e)
    (GuardedArm (bar_is (sign_of t) f) (subst (λ z. IsGuards rest z gs) h (subst (λ l. IsGuards rest next l) (sym c.1) c.2)) (body_is b (sign_of w) i) d)))
    tt))
    tt

-- Guards

pub guards_sound : (n : ℕ) (r : Forms) → SoundForms r → (b : Bool) (xs : List GuardTree) (ts : List Token) → Sound (GuardsFrom xs ts) ((next_forms n r).guards b xs ts)
guards_sound n r s b xs ts = sound_then (IsGuard ts) (GuardsFrom xs ts) (r.guard b ts) _ (s.guard b ts)
    (λ x rest d. sound_behind is_comma (GuardsFrom xs ts) rest _ _
    (λ m more e f. sound_as (GuardsFrom (xs ++ x ∷ []) more) (GuardsFrom xs ts) _ (s.guards b (xs ++ x ∷ []) more)
    (λ to y c. (x ∷ c.0, c.1 ∙ append_assoc xs (x ∷ []) c.0, MoreGuards (subst (λ z. IsGuard ts z x) e d) (comma_is (sign_of m) f) c.2)))
    (x ∷ [], refl, LastGuard d))

chain_guard_sound : (q : PartsSound) (n : ℕ) (r : Forms) → SoundForms r → (b : Bool) (t : Token) (a : List Token) → Sound (IsGuard (t ∷ a)) (chain_guard_at r n b t.at (t ∷ a))
chain_guard_sound q n r s b t a = sound_or_by (Bound (t ∷ a)) (IsGuard (t ∷ a)) (bound_at n (t ∷ a)) _ _ (bound_sound q n (t ∷ a))
    (λ p rest c. sound_then (ChainFrom (place rest) [] rest) (IsGuard (t ∷ a)) (r.chain b (place rest) [] rest) _ (s.chain b (place rest) [] rest)
    (λ x end d. subst (λ y. IsGuard (t ∷ a) end (guard.Bind t.at p y.tree)) (sym d.3) (BindGuard c.1 c.2 (LinkedChain d.4))))
    (sound_then (ChainFrom t.at [] (t ∷ a)) (IsGuard (t ∷ a)) (r.chain b t.at [] (t ∷ a)) _ (s.chain b t.at [] (t ∷ a))
    (λ x end d. subst (λ y. IsGuard (t ∷ a) end (guard.Test t.at y.tree)) (sym d.3) (TestGuard (LinkedChain d.4))))

guard_kind : (q : PartsSound) (n : ℕ) (r : Forms) → SoundForms r → (b : Bool) (t : Token) (ts : List Token) (k : Sign) → sign_of t ≡ k → Sound (IsGuard (t ∷ ts)) (guard_by r n b t ts k)
guard_kind q n r s b t ts Let e = s.let_guard b t ts e
guard_kind q n r s b t ts _ e = chain_guard_sound q n r s b t ts

pub guard_sound : (q : PartsSound) (n : ℕ) (r : Forms) → SoundForms r → (b : Bool) (ts : List Token) → Sound (IsGuard ts) ((next_forms n r).guard b ts)
guard_sound q n r s b ts = sound_first IsGuard ts None (guard_by r n b) tt (λ t rest. guard_kind q n r s b t rest (sign_of t) refl)

pub let_guard_sound : (n : ℕ) (r : Forms) → SoundForms r → (b : Bool) (t : Token) (a : List Token) → sign_of t ≡ Let → Sound (IsGuard (t ∷ a)) ((next_forms n r).let_guard b t.at a)
let_guard_sound n r s b t a g = sound_then (IsDeclBlock a) (IsGuard (t ∷ a)) (block_at r a) _ (block_sound r s a)
    (λ ds rest d. sound_behind is_in (IsGuard (t ∷ a)) rest _ _
    (λ w more e f. sound_then (IsExp more) (IsGuard (t ∷ a)) (r.exp b more) _ (s.exp b more)
    (λ x end h. TestGuard (LinkedChain (LastOpen NoMinus (LetOpen g (subst (λ z. IsDeclBlock a z ds) e d) (in_is (sign_of w) f) h)))))
    (LetGuard g d))
