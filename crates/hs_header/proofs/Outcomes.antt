-- What becomes of a source, and the function that tells it.
use Rattle.std.proofs.Common.{◌≡◌, inl, inr, ℕ, List, [], ◌∷◌, Option, Some, None, refl, ap, sym, subst, ◌∙◌, append-nil}
use Rattle.std.specs.Prelude.{Result, Ok, Err, IfOk, MatchResult}
use Rattle.mk_base.specs.declared.place.Pos.{Pos}
use Rattle.mk_base.specs.Places.{first_place}
use Rattle.hs_syntax.specs.declared.header.Header.{Header}
use Rattle.hs_header.specs.declared.expected.Stop.TheVariants.{At, End}
use Rattle.hs_header.specs.declared.extension.Flags.{Flags}
use Rattle.hs_header.specs.Extensions.{Word}
use Rattle.hs_header.specs.Grammar.{IsHeader, IsLeftAt, IsCut}
use Rattle.hs_header.specs.Readers.{Answer, header_at}
use Rattle.hs_header.specs.Reading.{lexemes, bad_place, flags_in, laid_out, flagged, last_of, IsDecided, IsHeaderOf, IsBadAt, IsNoneAt, IsUnknownAt, Fault, Lexeme, Grammar, Unknown, whole, cut, concluded, with_flags, header_of, TellsHeader, IsFault}
use Rattle.hs_header.specs.declared.header_err.HeaderErr.{HeaderErr}
use Rattle.hs_header.specs.declared.header_err.HeaderErr.TheVariants as error
use Rattle.hs_header.proofs.Told.{Tokens}
use Rattle.hs_header.proofs.Exact as exact

-- a header that was read
whole_ok : (bad : Option Pos) (b : Tokens) (g h : Header) → whole bad b g ≡ Ok h → IsDecided bad b × (h ≡ g)
whole_ok None b g h e = (tt, cc)
whole_ok (Some at) [] g h e = absurd (cc)
whole_ok (Some at) (t ∷ b) g h e = ((λ f. cc), cc)

whole_is : (bad : Option Pos) (b : Tokens) (g : Header) → IsDecided bad b → whole bad b g ≡ Ok g
whole_is None b g d = refl
whole_is (Some at) [] g d = absurd (d refl)
whole_is (Some at) (t ∷ b) g d = refl

whole_bad : (bad : Option Pos) (b : Tokens) (g : Header) (at : Pos) → whole bad b g ≡ Err (Lexeme at) → (bad ≡ Some at) × (b ≡ [])
whole_bad None b g at e = absurd (cc)
whole_bad (Some to) [] g at e = (cc, refl)
whole_bad (Some to) (t ∷ b) g at e = absurd (cc)

whole_none : (bad : Option Pos) (b : Tokens) (g : Header) (at : Pos) → whole bad b g ≡ Err (Grammar at) → ⊥
whole_none None b g at e = cc
whole_none (Some to) [] g at e = cc
whole_none (Some to) (t ∷ b) g at e = cc

whole_known : (bad : Option Pos) (b : Tokens) (g : Header) (at : Pos) (name : List ℕ) → whole bad b g ≡ Err (Unknown at name) → ⊥
whole_known None b g at name e = cc
whole_known (Some to) [] g at name e = cc
whole_known (Some to) (t ∷ b) g at name e = cc

-- tokens that end too early
cut_ok : (bad : Option Pos) (last : Pos) (h : Header) → cut bad last ≡ Ok h → ⊥
cut_ok None last h e = cc
cut_ok (Some at) last h e = cc

cut_bad : (bad : Option Pos) (last at : Pos) → cut bad last ≡ Err (Lexeme at) → bad ≡ Some at
cut_bad None last at e = absurd (cc)
cut_bad (Some to) last at e = cc

cut_none : (bad : Option Pos) (last at : Pos) → cut bad last ≡ Err (Grammar at) → (bad ≡ None) × (at ≡ last)
cut_none None last at e = (refl, cc)
cut_none (Some to) last at e = absurd (cc)

cut_known : (bad : Option Pos) (last at : Pos) (name : List ℕ) → cut bad last ≡ Err (Unknown at name) → ⊥
cut_known None last at name e = cc
cut_known (Some to) last at name e = cc

concluded_known : (f : Flags) (bad : Option Pos) (last : Pos) (o : Answer Header) (at : Pos) (name : List ℕ) → concluded f bad last o ≡ Err (Unknown at name) → ⊥
concluded_known f bad last (Ok y) at name e = whole_known bad y.1 (flagged y.0 f) at name e
concluded_known f bad last (Err (At to)) at name e = cc
concluded_known f bad last (Err End) at name e = cut_known bad last at name e

rest_of : Answer Header → Tokens
rest_of (Ok y) = y.1
rest_of (Err s) = []

module _ (source : List ℕ) where
  abbrev a : Tokens
  a = laid_out source

  abbrev bad : Option Pos
  bad = bad_place source

  abbrev last : Pos
  last = last_of first_place (lexemes source)

  abbrev on : Flags → Result Header Fault
  on f = concluded f bad last (header_at a)

  known : (f : Flags) (o : Answer Header) → flags_in source ≡ Ok f → header_at a ≡ o → header_of source ≡ concluded f bad last o
  unfolding header_of
  known f o e d = ap (λ r. with_flags r on) e ∙ ap (concluded f bad last) d

  -- a header
  header_by : (f : Flags) (h : Header) → flags_in source ≡ Ok f → (o : Answer Header) → header_at a ≡ o → concluded f bad last o ≡ Ok h → IsHeaderOf source h
  header_by f h e (Ok y) d x = let w = whole_ok bad y.1 (flagged y.0 f) h x in (f, y.1, y.0, e, exact.read a y.1 y.0 d, w.0, w.1)
  header_by f h e (Err (At at)) d x = absurd (cc)
  header_by f h e (Err End) d x = absurd (cut_ok bad last h x)

  header_from : (h : Header) (r : Result Flags Word) → flags_in source ≡ r → with_flags r on ≡ Ok h → IsHeaderOf source h
  header_from h (Ok f) e x = header_by f h e (header_at a) refl x
  header_from h (Err w) e x = absurd (cc)

  header_is : (h : Header) → IsHeaderOf source h → header_of source ≡ Ok h
  header_is h (f, b, g, e, d, k, i) = known f (Ok (g, b)) e (exact.derived a b g d) ∙ whole_is bad b (flagged g f) k ∙ ap Ok (sym i)

  -- a bad place
  no_header : (at : Pos) (b : Tokens) (g : Header) → bad ≡ Some at → b ≡ [] → header_at a ≡ Ok (g, b) → (h : Header) → IsHeaderOf source h → ⊥
  unfolding rest_of
  no_header at b g i n d h (f, c, k, e, u, j, l) =
      let same : header_at a ≡ Ok (k, c) = exact.derived a c k u in
      let empty : c ≡ [] = ap rest_of (sym same ∙ d) ∙ n in
      subst (λ o. IsDecided o c) i j empty

  bad_by : (f : Flags) (at : Pos) → flags_in source ≡ Ok f → (o : Answer Header) → header_at a ≡ o → concluded f bad last o ≡ Err (Lexeme at) → IsBadAt source at
  bad_by f at e (Ok y) d x =
      let (i, n) : (bad ≡ Some at) × (y.1 ≡ []) = whole_bad bad y.1 (flagged y.0 f) at x in
      (f, e, i, ([], y.1, y.0, subst (λ z. IsHeader z y.1 y.0) (sym (append-nil a)) (exact.read a y.1 y.0 d)), no_header at y.1 y.0 i n d)
  bad_by f at e (Err (At to)) d x = absurd (cc)
  bad_by f at e (Err End) d x =
      let (u, v) : IsCut a = exact.cut a d in
      (f, e, cut_bad bad last at x, u, λ h (k : IsHeaderOf source h). v k.1 k.2 k.4)

  bad_from : (at : Pos) (r : Result Flags Word) → flags_in source ≡ r → with_flags r on ≡ Err (Lexeme at) → IsBadAt source at
  bad_from at (Ok f) e x = bad_by f at e (header_at a) refl x
  bad_from at (Err w) e x = absurd (cc)

  bad_whole : (f : Flags) (at : Pos) (g : Header) → flags_in source ≡ Ok f → bad ≡ Some at → ((h : Header) → IsHeaderOf source h → ⊥) → (b : Tokens) → header_at a ≡ Ok (g, b) → whole bad b (flagged g f) ≡ Err (Lexeme at)
  bad_whole f at g e i never [] d = ap (λ o. whole o [] (flagged g f)) i
  bad_whole f at g e i never (t ∷ b) d = absurd (never (flagged g f) (f, t ∷ b, g, e, exact.read a (t ∷ b) g d, subst (λ o. IsDecided o (t ∷ b)) (sym i) (λ k. cc), refl))

  bad_is : (at : Pos) → IsBadAt source at → (o : Answer Header) → header_at a ≡ o → header_of source ≡ Err (Lexeme at)
  bad_is at (f, e, i, u, never) (Ok y) d = known f (Ok y) e d ∙ bad_whole f at y.0 e i never y.1 d
  bad_is at (f, e, i, u, never) (Err (At to)) d = absurd (exact.left_begins_not a to (exact.left a to d) u)
  bad_is at (f, e, i, u, never) (Err End) d = known f (Err End) e d ∙ ap (λ o. cut o last) i

  -- the grammar is left
  none_by : (f : Flags) (at : Pos) → flags_in source ≡ Ok f → (o : Answer Header) → header_at a ≡ o → concluded f bad last o ≡ Err (Grammar at) → IsNoneAt source at
  none_by f at e (Ok y) d x = absurd (whole_none bad y.1 (flagged y.0 f) at x)
  none_by f at e (Err (At to)) d x = let i : to ≡ at = cc in (f, e, inl (subst (IsLeftAt a) i (exact.left a to d)))
  none_by f at e (Err End) d x = let (i, k) : (bad ≡ None) × (at ≡ last) = cut_none bad last at x in (f, e, inr (i, exact.cut a d, k))

  none_from : (at : Pos) (r : Result Flags Word) → flags_in source ≡ r → with_flags r on ≡ Err (Grammar at) → IsNoneAt source at
  none_from at (Ok f) e x = none_by f at e (header_at a) refl x
  none_from at (Err w) e x = absurd (cc)

  none_is : (at : Pos) → IsNoneAt source at → header_of source ≡ Err (Grammar at)
  none_is at (f, e, inl x) = known f (Err (At at)) e (exact.left_is a at x)
  none_is at (f, e, inr (i, x, k)) = known f (Err End) e (exact.cut_is a x) ∙ ap (λ o. cut o last) i ∙ ap (λ p. Err (Grammar p)) (sym k)

  -- an extension isn't known
  unknown_from : (at : Pos) (name : List ℕ) (r : Result Flags Word) → flags_in source ≡ r → with_flags r on ≡ Err (Unknown at name) → flags_in source ≡ Err (at, name)
  unknown_from at name (Ok f) e x = absurd (concluded_known f bad last (header_at a) at name x)
  unknown_from at name (Err (p, w)) e x = let i : p ≡ at = cc in let j : w ≡ name = cc in e ∙ ap (λ q. Err (q, w)) i ∙ ap (λ v. Err (at, v)) j

  unknown_is : (at : Pos) (name : List ℕ) → flags_in source ≡ Err (at, name) → header_of source ≡ Err (Unknown at name)
  unfolding header_of
  unknown_is at name e = ap (λ r. with_flags r on) e

pub tells_header : (source : List ℕ) → TellsHeader source
unfolding header_of
tells_header source = record {
  header = λ h. ((λ x. header_from source h (flags_in source) refl x), header_is source h);
  bad = λ at. ((λ x. bad_from source at (flags_in source) refl x), (λ x. bad_is source at x (header_at (laid_out source)) refl));
  none = λ at. ((λ x. none_from source at (flags_in source) refl x), none_is source at);
  unknown = λ at name. ((λ x. unknown_from source at name (flags_in source) refl x), unknown_is source at name);
}

-- from what becomes of a source to what the function answers
pub header_told : (source : List ℕ) (h : Header) → IsHeaderOf source h → header_of source ≡ Ok h
header_told source h x = ((tells_header source).header h).1 x

pub bad_told : (source : List ℕ) (at : Pos) → IsBadAt source at → header_of source ≡ Err (Lexeme at)
bad_told source at x = ((tells_header source).bad at).1 x

pub none_told : (source : List ℕ) (at : Pos) → IsNoneAt source at → header_of source ≡ Err (Grammar at)
none_told source at x = ((tells_header source).none at).1 x

pub unknown_told : (source : List ℕ) (at : Pos) (name : List ℕ) → IsUnknownAt source at name → header_of source ≡ Err (Unknown at name)
unknown_told source at name x = ((tells_header source).unknown at name).1 x

-- The code's answers

abbrev Code : Type 0
Code = Result Header HeaderErr

abbrev Tells : List ℕ → Code → Type 0
Tells source r = MatchResult r (λ h. header_of source ≡ Ok h) (λ e. IsFault (header_of source) e)

pub ok_of : (source : List ℕ) (r : Code) → Tells source r → IfOk r (λ h. IsHeaderOf source h)
ok_of source (Ok h) x = ((tells_header source).header h).0 x
ok_of source (Err e) x = tt

fault_of : (source : List ℕ) (r : Code) (e : HeaderErr) → Tells source r → r ≡ Err e → IsFault (header_of source) e
fault_of source (Ok h) e x d = absurd (cc)
fault_of source (Err f) e x d = subst (IsFault (header_of source)) (let i : f ≡ e = cc in i) x

pub lexeme_of : (source : List ℕ) (r : Code) → Tells source r → (at : Pos) → r ≡ Err (error.Lexeme at) → IsBadAt source at
lexeme_of source r x at d = ((tells_header source).bad at).0 (fault_of source r (error.Lexeme at) x d)

pub grammar_of : (source : List ℕ) (r : Code) → Tells source r → (at : Pos) → r ≡ Err (error.Grammar at) → IsNoneAt source at
grammar_of source r x at d = ((tells_header source).none at).0 (fault_of source r (error.Grammar at) x d)

pub unknown_of : (source : List ℕ) (r : Code) → Tells source r → (at : Pos) (name : List ℕ) → r ≡ Err (error.Extension at name) → IsUnknownAt source at name
unknown_of source r x at name d = ((tells_header source).unknown at name).0 (fault_of source r (error.Extension at name) x d)
