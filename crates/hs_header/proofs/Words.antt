-- The words of a pragma, one after another.
use Rattle.std.specs.Prelude.{encode_utf8_all, Result, Ok, MatchResult}
use Rattle.std.proofs.Common.{◌≡◌, ℕ, ◌<◌, true, false, List, [], ◌∷◌, ◌++◌, length, Some, None, refl, sym, ap, subst, ◌∙◌, arith, append_assoc}
use Rattle.std.proofs.lemmas.Bool.{false≢true, cond-true, cond-false}
use Rattle.std.proofs.lemmas.List.{append-nil}
use Rattle.source_text.specs.Characters.{characters, AllCharacters, no_character}
use Rattle.source_text.specs.Places.{step, after}
use Rattle.source_text.specs.declared.place.Place.{Place}
use Rattle.hs_lex.specs.declared.class.Part.TheVariants as part
use Rattle.hs_lex.specs.Classes.{in_part, class_of}
use Rattle.hs_lex.specs.Reading.{AllIn, Ends, Runs}
use Rattle.hs_lex.specs.Tokens.{position}
use Rattle.source_text.proofs.Widths.{span_between}
use Rattle.hs_syntax.specs.declared.token.Token.{Token}
use Rattle.hs_lex.proofs.Reached.{span_some}
use Rattle.hs_lex.proofs.Runs.{run_begins}
use Rattle.hs_header.specs.declared.extension.Flags.{Flags}
use Rattle.hs_header.specs.declared.header_err.HeaderErr.{HeaderErr}
use Rattle.hs_header.specs.Extensions.{Run, Word, words, behind_keyword, with_words, place_of, flags_of, IsUnknown}

pub passes : (p : Place) (c : ℕ) (cs : List ℕ) → in_part part.Name c ≡ false → words None p (c ∷ cs) ≡ words None (step p c) cs
unfolding words
passes p c cs h = cond-false _ _ _ h

goes_on : (r : Run) (p : Place) (l m : List ℕ) → AllIn part.Name l → words (Some r) p (l ++ m) ≡ words (Some (r.0, r.1 ++ l)) (after p l) m
unfolding words after
goes_on r p [] m h = ap (λ t. words (Some (r.0, t)) p m) (sym (append-nil r.1))
goes_on r p (c ∷ l) m h =
    cond-true _ _ _ h.0 ∙ goes_on (r.0, r.1 ++ c ∷ []) (step p c) l m h.1 ∙ ap (λ t. words (Some (r.0, t)) (after (step p c) l) m) (append_assoc r.1 (c ∷ []) l)

ends : (r : Run) (p : Place) (m : List ℕ) → Ends part.Name m → words (Some r) p m ≡ (position r.0, encode_utf8_all r.1) ∷ words None p m
unfolding words
ends r p [] h = refl
ends r p (c ∷ m) h = cond-false _ _ _ h ∙ ap (λ t. (position r.0, encode_utf8_all r.1) ∷ t) (sym (cond-false _ _ _ h))

name_is_character : in_part part.Name no_character ≡ false
unfolding in_part class_of
name_is_character = refl

pub all_characters : (l : List ℕ) → AllIn part.Name l → AllCharacters l
all_characters [] h = tt
all_characters (c ∷ l) h = ((λ e. false≢true (sym name_is_character ∙ ap (in_part part.Name) (sym e) ∙ h.0)), all_characters l h.1)

pub first_of : (p : Place) (l m next : List ℕ) (c : ℕ) → l ++ m ≡ c ∷ next → in_part part.Name c ≡ true → AllIn part.Name l → Ends part.Name m → words None p (l ++ m) ≡ (position p, encode_utf8_all l) ∷ words None (after p l) m
unfolding words after
first_of p [] m next c e h a n = absurd (false≢true (sym (let k : in_part part.Name c ≡ false = subst (Ends part.Name) e n in k) ∙ h))
first_of p (d ∷ l) m next c e h a n = cond-true _ _ _ a.0 ∙ goes_on (p, d ∷ []) (step p d) l m a.1 ∙ ends (p, d ∷ l) (after (step p d) l) m n

pub found : (p : Place) (cs rest next text : List ℕ) (c : ℕ) (run : Runs part.Name cs rest) → cs ≡ c ∷ next → in_part part.Name c ≡ true → (AllCharacters run.0 → text ≡ encode_utf8_all run.0) → words None p cs ≡ (position p, text) ∷ words None (after p run.0) rest
found p cs rest next text c run e h spelled =
    ap (words None p) run.1 ∙ first_of p run.0 rest next c (sym run.1 ∙ e) h run.2 run.3 ∙ ap (λ t. (position p, t) ∷ words None (after p run.0) rest) (sym (spelled (all_characters run.0 run.2)))

-- a word takes bytes
pub takes : (from to : List ℕ) (next : List ℕ) (c : ℕ) (run : Runs part.Name (characters from) (characters to)) → characters from ≡ c ∷ next → in_part part.Name c ≡ true → length to < length from
takes from to next c run e h =
    let b = run_begins part.Name (characters from) (characters to) next c run e h in
    omega (arith, span_between run.0 from to run.1, span_some run.0 (omega (arith, ap length b.1)))

-- the words behind the keyword
pub all_told : (f : Flags) (t : Token) (text : List ℕ) (w : Word) (ws : List Word) → text ≡ t.text → words None (place_of t) (characters text) ≡ w ∷ ws → with_words f ws ≡ flags_of f t
unfolding flags_of
all_told f t text w ws s e = ap (λ x. with_words f (behind_keyword x)) (sym e) ∙ ap (λ x. with_words f (behind_keyword (words None (place_of t) (characters x)))) s

pub none_told : (f : Flags) (t : Token) (text : List ℕ) → text ≡ t.text → words None (place_of t) (characters text) ≡ [] → flags_of f t ≡ Ok f
unfolding flags_of
none_told f t text s e = ap (λ x. with_words f (behind_keyword (words None (place_of t) (characters x)))) (sym s) ∙ ap (λ x. with_words f (behind_keyword x)) e

pub told_by : (r : Result Flags HeaderErr) (a b : Result Flags Word) → a ≡ b → MatchResult r (λ f. a ≡ Ok f) (λ e. IsUnknown a e) → MatchResult r (λ f. b ≡ Ok f) (λ e. IsUnknown b e)
told_by r a b e h = subst (λ z. MatchResult r (λ f. z ≡ Ok f) (λ e. IsUnknown z e)) e h

pub passed : (p : Place) (cs next : List ℕ) (c : ℕ) (q : Place) → cs ≡ c ∷ next → in_part part.Name c ≡ false → q ≡ step p c → words None p cs ≡ words None q next
passed p cs next c q e h s = ap (words None p) e ∙ passes p c next h ∙ ap (λ z. words None z next) (sym s)

pub no_words : (p : Place) (cs : List ℕ) → cs ≡ [] → words None p cs ≡ []
unfolding words
no_words p cs e = ap (words None p) e

pub behind_text : (p q : Place) (text l : List ℕ) → characters text ≡ l → q ≡ after p (characters text) → q ≡ after p l
behind_text p q text l e h = h ∙ ap (after p) e
