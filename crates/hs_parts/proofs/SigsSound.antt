-- What is read as a signature or a fixity is derived as one.
use Rattle.std.proofs.Common.{◌≡◌, ℕ, suc, zero, Bool, true, false, cond, List, [], ◌∷◌, ◌++◌, Some, None, refl, sym, ap, ◌∙◌, append_assoc, subst}
use Rattle.std.specs.declared.option.Option.{Option}
use Rattle.hs_syntax.specs.declared.token.Token.{Token}
use Rattle.hs_syntax.specs.declared.sign.Sign.{Sign}
use Rattle.hs_syntax.specs.declared.sign.Sign.TheVariants.{Number, Infix, Infixl, Infixr, Comma, Typed}
use Rattle.hs_syntax.specs.declared.name_ref.NameRef.{NameRef}
use Rattle.hs_syntax.specs.declared.name_ref.QopTree.{QopTree}
use Rattle.hs_syntax.specs.declared.expr_tree.FixWord.{FixWord}
use Rattle.hs_syntax.specs.declared.expr_tree.FixWord.TheVariants as fix
use Rattle.hs_syntax.specs.declared.expr_tree.FixTree.{FixTree}
use Rattle.hs_syntax.specs.declared.expr_tree.SigTree.{SigTree}
use Rattle.hs_syntax.specs.Signs.{sign_of}
use Rattle.hs_syntax.specs.Reading.{Found, and_then, with_first, begins, behind, and_behind, with_sign, is_comma, is_typed}
use Rattle.hs_syntax.proofs.Sound.{Sound, sound_then, sound_as, sound_behind, sound_sign}
use Rattle.hs_parts.specs.Names.{place, IsVar, IsOp}
use Rattle.hs_parts.specs.NameReaders.{var_at, op_at}
use Rattle.hs_parts.specs.TypeReaders.{qualified_at}
use Rattle.hs_parts.specs.SigReaders.{vars_at, typed_vars, signature, sig_of, sig_at, ops_at, digit_or, digit_by, digit_at, fixity, fix_behind, fix_by, fix_at}
use Rattle.hs_parts.specs.Grammar.{IsVars, LastVar, MoreVars, IsQualified, IsSig, TypedSig, word_of, digit_of, IsDigit, NoDigit, OneDigit, IsOps, LastOp, MoreOps, IsFix, WordFix}
use Rattle.hs_parts.proofs.NamesSound.{comma_of, var_sound, op_sound}
use Rattle.hs_parts.proofs.ContextsSound.{qualified_sound}

typed_of : (k : Sign) → is_typed k ≡ true → k ≡ Typed
typed_of Typed e = refl
typed_of _ e = cc

-- variables behind these
abbrev pub Vars : List NameRef → List Token → List Token → List NameRef → Type 0
Vars ns ts to ms = (rs : List NameRef) × (ms ≡ ns ++ rs) × IsVars ts to rs

pub vars_sound : (n : ℕ) (ns : List NameRef) (ts : List Token) → Sound (Vars ns ts) (vars_at n ns ts)
unfolding vars_at
vars_sound zero ns ts = tt
vars_sound (suc n) ns ts = sound_then (IsVar ts) (Vars ns ts) (var_at ts) (λ v rest. and_behind (behind is_comma rest) (vars_at n (ns ++ v ∷ [])) (Some (ns ++ v ∷ [], rest))) (var_sound ts)
    (λ v b d. sound_behind is_comma (Vars ns ts) b (vars_at n (ns ++ v ∷ [])) (Some (ns ++ v ∷ [], b))
    (λ m rest e f. sound_as (Vars (ns ++ v ∷ []) rest) (Vars ns ts) (vars_at n (ns ++ v ∷ []) rest) (vars_sound n (ns ++ v ∷ []) rest)
    (λ to ms c. (v ∷ c.0, c.1 ∙ append_assoc ns (v ∷ []) c.0, MoreVars (subst (λ z. IsVar ts z v) e d) (comma_of (sign_of m) f) c.2)))
    (v ∷ [], refl, LastVar d))

-- variables and the :: behind them
abbrev pub TypedVars : List Token → List Token → List NameRef → Type 0
TypedVars ts to ns = (t : Token) × IsVars ts (t ∷ to) ns × (sign_of t ≡ Typed)

pub typed_vars_sound : (n : ℕ) (ts : List Token) → Sound (TypedVars ts) (typed_vars n ts)
typed_vars_sound n ts = sound_then (Vars [] ts) (TypedVars ts) (vars_at n [] ts) (λ ns rest. with_sign (behind is_typed rest) ns) (vars_sound n [] ts)
    (λ ns b d. sound_sign is_typed (TypedVars ts) b ns (λ t to e f. (t, subst (λ ms. IsVars ts (t ∷ to) ms) (sym d.1) (subst (λ z. IsVars ts z d.0) e d.2), typed_of (sign_of t) f)))

pub sig_sound : (n : ℕ) (ts : List Token) → Sound (IsSig ts) (sig_at n ts)
sig_sound n ts = sound_then (TypedVars ts) (IsSig ts) (typed_vars n ts) (sig_of n (place ts)) (typed_vars_sound n ts)
    (λ ns b c. sound_then (IsQualified b) (IsSig ts) (qualified_at n b) (λ q last. Some (signature (place ts) ns q, last)) (qualified_sound n b) (λ q last d. TypedSig c.1 c.2 d))

abbrev Ops : List QopTree → List Token → List Token → List QopTree → Type 0
Ops qs ts to ps = (rs : List QopTree) × (ps ≡ qs ++ rs) × IsOps ts to rs

ops_sound : (n : ℕ) (qs : List QopTree) (ts : List Token) → Sound (Ops qs ts) (ops_at n qs ts)
unfolding ops_at
ops_sound zero qs ts = tt
ops_sound (suc n) qs ts = sound_then (IsOp ts) (Ops qs ts) (op_at ts) (λ q rest. and_behind (behind is_comma rest) (ops_at n (qs ++ q ∷ [])) (Some (qs ++ q ∷ [], rest))) (op_sound ts)
    (λ q b d. sound_behind is_comma (Ops qs ts) b (ops_at n (qs ++ q ∷ [])) (Some (qs ++ q ∷ [], b))
    (λ m rest e f. sound_as (Ops (qs ++ q ∷ []) rest) (Ops qs ts) (ops_at n (qs ++ q ∷ []) rest) (ops_sound n (qs ++ q ∷ []) rest)
    (λ to ps c. (q ∷ c.0, c.1 ∙ append_assoc qs (q ∷ []) c.0, MoreOps (subst (λ z. IsOp ts z q) e d) (comma_of (sign_of m) f) c.2)))
    (q ∷ [], refl, LastOp d))

digit_or_sound : (t : Token) (ts : List Token) → sign_of t ≡ Number → (m : Option ℕ) → digit_of t.text ≡ m → Sound (IsDigit (t ∷ ts)) (digit_or m ts)
digit_or_sound t ts e None f = tt
digit_or_sound t ts e (Some d) f = OneDigit e f

digit_by_sound : (t : Token) (ts : List Token) (k : Sign) → sign_of t ≡ k → Sound (IsDigit (t ∷ ts)) (digit_by t ts k)
digit_by_sound t ts Number e = digit_or_sound t ts e (digit_of t.text) refl
digit_by_sound t ts _ e = NoDigit

digit_sound : (ts : List Token) → Sound (IsDigit ts) (digit_at ts)
digit_sound [] = NoDigit
digit_sound (t ∷ ts) = digit_by_sound t ts (sign_of t) refl

behind_sound : (n : ℕ) (t : Token) (ts : List Token) (w : FixWord) → word_of (sign_of t) ≡ Some w → Sound (IsFix (t ∷ ts)) (fix_behind n t.at w ts)
behind_sound n t ts w e = sound_then (IsDigit ts) (IsFix (t ∷ ts)) (digit_at ts) (λ d rest. and_then (ops_at n [] rest) (λ qs last. Some (fixity t.at w d qs, last))) (digit_sound ts)
    (λ d b f. sound_then (Ops [] b) (IsFix (t ∷ ts)) (ops_at n [] b) (λ qs last. Some (fixity t.at w d qs, last)) (ops_sound n [] b)
    (λ qs last c. subst (λ ps. IsFix (t ∷ ts) last (fixity t.at w d ps)) (sym c.1) (WordFix e f c.2)))

fix_by_sound : (n : ℕ) (t : Token) (ts : List Token) (k : Sign) → sign_of t ≡ k → Sound (IsFix (t ∷ ts)) (fix_by n t ts k)
fix_by_sound n t ts Infixl e = behind_sound n t ts fix.Infixl (ap word_of e)
fix_by_sound n t ts Infixr e = behind_sound n t ts fix.Infixr (ap word_of e)
fix_by_sound n t ts Infix e = behind_sound n t ts fix.Infix (ap word_of e)
fix_by_sound n t ts _ e = tt

pub fix_sound : (n : ℕ) (ts : List Token) → Sound (IsFix ts) (fix_at n ts)
fix_sound n [] = tt
fix_sound n (t ∷ ts) = fix_by_sound n t ts (sign_of t) refl
