-- The words of a pragma for LANGUAGE are the names that the lexer finds in it.
use Rattle.std.specs.Prelude.{codes, map, encode_utf8_all}
use Rattle.std.proofs.Common.{◌≡◌, ⊎_elim, ℕ, false, List, [], ◌∷◌, ◌++◌, None, refl, ap, ◌∙◌}
use Rattle.mk_base.specs.Classes.{class_of as class_of_char}
use Rattle.source_text.specs.Places.{step, after}
use Rattle.source_text.specs.declared.place.Place.{Place}
use Rattle.hs_lex.specs.declared.class.Part.TheVariants as part
use Rattle.hs_lex.specs.Classes.{class_of, in_part}
use Rattle.hs_lex.specs.Reading.{AllIn, Ends}
use Rattle.hs_lex.specs.Pragmas.{IsKeyword, IsGap, IsIdentifier, IsList, IsNames, IsLanguage}
use Rattle.hs_lex.specs.Tokens.{position}
use Rattle.hs_lex.proofs.Parts.{language_names, white_no_name, comma_name, sign_name, list_ends, gap_ends}
use Rattle.hs_header.specs.Extensions.{Word, words, behind_keyword, IsNaming, WordsAreNames, text_of}
use Rattle.hs_header.proofs.Words.{passes, first_of}

texts : List Word → List (List ℕ)
texts ws = map text_of ws

dash_name : in_part part.Name 45 ≡ false
unfolding in_part class_of class_of_char
dash_name = refl

open_name : in_part part.Name 123 ≡ false
unfolding in_part class_of class_of_char
open_name = refl

close_name : in_part part.Name 125 ≡ false
unfolding in_part class_of class_of_char
close_name = refl

none_left : (p : Place) → words None p [] ≡ []
unfolding words
none_left p = refl

-- white space has no words
over_white : (p : Place) (v r : List ℕ) → AllIn part.White v → words None p (v ++ r) ≡ words None (after p v) r
unfolding after
over_white p [] r h = refl
over_white p (c ∷ v) r h = passes p c (v ++ r) (white_no_name c h.0) ∙ over_white (step p c) v r h.1

closing : (p : Place) → words None p (codes "#-}") ≡ []
closing p = passes p 35 (45 ∷ 125 ∷ []) sign_name ∙ passes (step p 35) 45 (125 ∷ []) dash_name ∙ passes (step (step p 35) 45) 125 [] close_name ∙ none_left (step (step (step p 35) 45) 125)

one_name : (p : Place) (n m : List ℕ) → IsIdentifier n → Ends part.Name m → words None p (n ++ m) ≡ (position p, encode_utf8_all n) ∷ words None (after p n) m
one_name p [] m h e = absurd (⊎_elim (λ x. x) (λ x. x) h.0)
one_name p (c ∷ n) m h e = first_of p (c ∷ n) m (n ++ m) c refl h.1.0 h.1 e

-- a name and what is behind it
with_name : (p : Place) (n m : List ℕ) (ns : List (List ℕ)) → IsIdentifier n → Ends part.Name m → texts (words None (after p n) m) ≡ map encode_utf8_all ns → texts (words None p (n ++ m)) ≡ map encode_utf8_all (n ∷ ns)
unfolding texts
with_name p n m ns h e k = ap texts (one_name p n m h e) ∙ ap (λ z. encode_utf8_all n ∷ z) k

listed : (p : Place) (ns : List (List ℕ)) (m : List ℕ) → IsList ns m → texts (words None p m) ≡ map encode_utf8_all ns
unfolding texts
listed p [] m h = ap (λ z. texts (words None p z)) h.1 ∙ ap texts (over_white p h.0 (codes "#-}") h.2 ∙ closing (after p h.0))
listed p (n ∷ ns) m h =
    let q : Place = step (after p h.0) 44 in
    let r : Place = after q h.1 in
    ap (λ z. texts (words None p z)) h.3 ∙ ap texts (over_white p h.0 (44 ∷ (h.1 ++ (n ++ h.2))) h.4 ∙ passes (after p h.0) 44 (h.1 ++ (n ++ h.2)) comma_name ∙ over_white q h.1 (n ++ h.2) h.5) ∙ with_name r n h.2 ns h.6 (list_ends ns h.2 h.7) (listed (after r n) ns h.2 h.7)

-- behind the keyword
over_keyword : (p : Place) (k m : List ℕ) → IsKeyword (codes "language") k → Ends part.Name m → behind_keyword (words None p (k ++ m)) ≡ words None (after p k) m
over_keyword p [] m h e = absurd (let x : [] ≡ codes "language" = h in cc)
over_keyword p (c ∷ k) m h e =
    let names : AllIn part.Name (c ∷ k) = language_names (c ∷ k) h in
    ap behind_keyword (first_of p (c ∷ k) m (k ++ m) c refl names.0 names e)

gap_white : (w : List ℕ) → IsGap w → AllIn part.White w
gap_white w h = h.1

over_opening : (p : Place) (l : List ℕ) → words None p (codes "{-#" ++ l) ≡ words None (step (step (step p 123) 45) 35) l
over_opening p l = passes p 123 (45 ∷ 35 ∷ l) open_name ∙ passes (step p 123) 45 (35 ∷ l) dash_name ∙ passes (step (step p 123) 45) 35 l sign_name

named : (p : Place) (n : List ℕ) (ns : List (List ℕ)) (l : List ℕ) → IsNaming (n ∷ ns) l → texts (behind_keyword (words None p l)) ≡ map encode_utf8_all (n ∷ ns)
named p n ns l (v, k, w, m, e, white, keyword, gap, name, list) =
    let a : Place = step (step (step p 123) 45) 35 in
    let b : Place = after a v in
    let c : Place = after b k in
    ap (λ z. texts (behind_keyword (words None p z))) e ∙ ap (λ z. texts (behind_keyword z)) (over_opening p (v ++ (k ++ (w ++ (n ++ m)))) ∙ over_white a v (k ++ (w ++ (n ++ m))) white)
    ∙ ap texts (over_keyword b k (w ++ (n ++ m)) keyword (gap_ends w (n ++ m) gap) ∙ over_white c w (n ++ m) (gap_white w gap)) ∙ with_name (after c w) n m ns name (list_ends ns m list) (listed (after (after c w) n) ns m list)

naming : (l : List ℕ) → IsLanguage l → (n : List ℕ) × (ns : List (List ℕ)) × IsNaming (n ∷ ns) l
unfolding IsLanguage IsNames
naming l (v, k, w, m, e, white, keyword, gap, (n, r, ns, f, name, list)) =
    (n, ns, (v, k, w, r, e ∙ ap (λ z. codes "{-#" ++ (v ++ (k ++ (w ++ z)))) f, white, keyword, gap, name, list))

pub words_are_names : WordsAreNames
unfolding texts
words_are_names p l h = let x = naming l h in (x.0 ∷ x.1, x.2, named p x.0 x.1 l x.2)
