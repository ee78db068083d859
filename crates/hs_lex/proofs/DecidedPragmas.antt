-- The tests of pragmas, and so those of items and lexemes, decide their languages.
use Rattle.std.specs.Bool.{Decides}
use Rattle.std.specs.Char.{to_ascii_lowercase}
use Rattle.std.specs.Str.{bytes_eq}
use Rattle.std.specs.Prelude.{codes, map}
use Rattle.std.proofs.Common.{◌≡◌, ◌⊎◌, inl, inr, ⊎_elim, ℕ, zero, suc, ◌<◌, Bool, ◌==◌, ◌||◌, ◌&&◌, List, [], ◌∷◌, ◌++◌, length, refl, ap, ◌∙◌, subst, arith, length-append}
use Rattle.std.proofs.lemmas.Bool.{false≢true}
use Rattle.std.proofs.lemmas.Slice.Eq.{bytes_eq-Decides}
use Rattle.hs_lex.specs.declared.class.Class.TheVariants as class
use Rattle.hs_lex.specs.declared.class.Part.TheVariants as part
use Rattle.hs_lex.specs.declared.item.Kind.{Kind}
use Rattle.hs_lex.specs.declared.item.Kind.TheVariants.{Blank, LineComment, NestedComment, SmallName, LargeName, Operator, Number, Fraction, Quoted, Char, Special}
use Rattle.hs_lex.specs.declared.cursor.Stage.{Stage}
use Rattle.hs_lex.specs.declared.cursor.Stage.TheVariants.{Front, Import, Later}
use Rattle.hs_lex.specs.Reading.{AllIn}
use Rattle.hs_lex.specs.Items.{Is, is_lexeme}
use Rattle.hs_lex.specs.Pragmas.{IsKeyword, IsIdentifier, IsGap, IsList, IsNames, IsLanguage, IsSource}
use Rattle.hs_lex.specs.Tokens.{IsPragma, IsToken}
use Rattle.hs_lex.specs.Deciding.{in_two, all_in, begins_as, is, is_keyword, is_identifier, is_gap, behind_white, behind_comma, is_close, is_list, is_names, behind_opening, is_language, is_source, is_pragma, is_token}
use Rattle.hs_lex.proofs.Decided.{never, itself, equal, via, both, either, Parted, parted, all_decides, begins_decides, one_decides, name_decides, operator_decides, comment_decides, nested_decides, special_decides, large_decides, float_decides, integer_decides}
use Rattle.hs_lex.proofs.DecidedQuotes.{text_decides, char_decides}

-- items
pub is_decides : (k : Kind) (l rest : List ℕ) → Decides (is k l rest) (Is k l rest)
is_decides Blank l rest = one_decides class.White l
is_decides LineComment l rest = comment_decides l rest
is_decides NestedComment l rest = nested_decides l
is_decides SmallName l rest = name_decides class.Small l rest
is_decides LargeName l rest = large_decides l rest
is_decides Operator l rest = operator_decides l rest
is_decides Number l rest = integer_decides l
is_decides Fraction l rest = float_decides l
is_decides Quoted l rest = text_decides l
is_decides Char l rest = char_decides l
is_decides Special l rest = special_decides l rest

-- the parts of pragmas
keyword_decides : (word l : List ℕ) → Decides (is_keyword word l) (IsKeyword word l)
keyword_decides word l = bytes_eq-Decides (map to_ascii_lowercase l) word

identifier_decides : (l : List ℕ) → Decides (is_identifier l) (IsIdentifier l)
identifier_decides l =
    both (begins_as class.Small l || begins_as class.Large l) (all_in part.Name l)
    (either (begins_as class.Small l) (begins_as class.Large l) (begins_decides class.Small l) (begins_decides class.Large l)) (all_decides part.Name l)

gap_decides : (l : List ℕ) → Decides (is_gap l) (IsGap l)
gap_decides l = both (begins_as class.White l) (all_in part.White l) (begins_decides class.White l) (all_decides part.White l)

close_decides : (l : List ℕ) → Decides (is_close l) (l ≡ codes "#-}")
close_decides l = bytes_eq-Decides l (codes "#-}")

abbrev White : (List ℕ → Type 0) → List ℕ → Type 0
White P l = Parted (λ v m. AllIn part.White v × P m) l

white_decides : (f : List ℕ → Bool) (P : List ℕ → Type 0) (l : List ℕ) → ((m : List ℕ) → length m < suc (length l) → Decides (f m) (P m)) → Decides (behind_white f l) (White P l)
white_decides f P l each =
    parted (λ v m. all_in part.White v && f m) (λ v m. AllIn part.White v × P m) l
    (λ v m e. both (all_in part.White v) (f m) (all_decides part.White v) (each m (omega (arith, ap length e, length-append v m))))

Comma : (List ℕ → Type 0) → List ℕ → Type 0
Comma P l = (m : List ℕ) × (l ≡ 44 ∷ m) × P m

comma_decides : (f : List ℕ → Bool) (P : List ℕ → Type 0) (l : List ℕ) → ((m : List ℕ) → length m < length l → Decides (f m) (P m)) → Decides (behind_comma f l) (Comma P l)
unfolding Comma
comma_decides f P [] each = ((λ h. absurd (false≢true h)), (λ x. absurd (let e : [] ≡ 44 ∷ x.0 = x.1 in let k : ⊥ = cc in k)))
comma_decides f P (c ∷ l) each =
    via (behind_comma f (c ∷ l)) (both (c == 44) (f l) (equal c 44) (each l (omega arith))) (λ h. (l, ap (λ z. z ∷ l) h.0, h.1)) (λ x. back x.0 x.1 x.2)
  where
    back : (m : List ℕ) → c ∷ l ≡ 44 ∷ m → P m → (c ≡ 44) × P l
    back m e p =
        let k : c ≡ 44 = cc in
        let t : m ≡ l = cc in
        (k, subst P t p)

-- lists of names
AnyList : List ℕ → Type 0
AnyList l = (ns : List (List ℕ)) × IsList ns l

abbrev Named : List ℕ → List ℕ → Type 0
Named name m = IsIdentifier name × AnyList m

abbrev Further : List ℕ → Type 0
Further l = White (Comma (White (Parted Named))) l

list_of : (l : List ℕ) → White (λ m. m ≡ codes "#-}") l ⊎ Further l → AnyList l
unfolding AnyList Comma
list_of l h = ⊎_elim
    (λ x. ([], (x.0, x.2 ∙ ap (λ z. x.0 ++ z) x.3.1, x.3.0)))
    (λ x.
    let c = x.3.1 in
    let w = c.2 in
    let n = w.3.1 in
    (n.0 ∷ n.3.1.0, (x.0, w.0, n.1, x.2 ∙ ap (λ z. x.0 ++ z) (c.1 ∙ ap (λ z. 44 ∷ z) (w.2 ∙ ap (λ z. w.0 ++ z) n.2)), x.3.0, w.3.0, n.3.0, n.3.1.1))) h

of_list : (l : List ℕ) (ns : List (List ℕ)) → IsList ns l → White (λ m. m ≡ codes "#-}") l ⊎ Further l
unfolding AnyList Comma
of_list l [] x = inl (x.0, codes "#-}", x.1, (x.2, refl))
of_list l (n ∷ ns) x = inr (x.0, 44 ∷ (x.1 ++ (n ++ x.2)), x.3, (x.4, (x.1 ++ (n ++ x.2), refl, (x.1, n ++ x.2, refl, (x.5, (n, x.2, refl, (x.6, (ns, x.7))))))))

list_decides : (n : ℕ) (l : List ℕ) → length l < n → Decides (is_list n l) (AnyList l)
unfolding is_list AnyList
list_decides zero l b = absurd (omega arith)
list_decides (suc n) l b =
    via (is_list (suc n) l)
    (either (behind_white is_close l) _ (white_decides is_close (λ m. m ≡ codes "#-}") l (λ m k. close_decides m))
    (white_decides (behind_comma (behind_white (in_two (λ name m. is_identifier name && is_list n m)))) (Comma (White (Parted Named))) l
    (λ m k. comma_decides (behind_white (in_two (λ name m. is_identifier name && is_list n m))) (White (Parted Named)) m
    (λ w q. white_decides (in_two (λ name m. is_identifier name && is_list n m)) (Parted Named) w
    (λ v j. parted (λ name m. is_identifier name && is_list n m) Named v
    (λ name t e. both (is_identifier name) (is_list n t) (identifier_decides name) (list_decides n t (omega (arith, k, q, j, b, ap length e, length-append name t)))))))))
    (list_of l) (λ x. of_list l x.0 x.1)

names_decides : (l : List ℕ) → Decides (is_names l) (IsNames l)
unfolding IsNames AnyList
names_decides l =
    via (is_names l)
    (parted (λ n m. is_identifier n && is_list (suc (length m)) m) Named l
    (λ n m e. both (is_identifier n) (is_list (suc (length m)) m) (identifier_decides n) (list_decides (suc (length m)) m (omega arith))))
    (λ x. (x.0, x.1, x.3.1.0, x.2, x.3.0, x.3.1.1)) (λ x. (x.0, x.1, x.3, (x.4, (x.2, x.5))))

-- pragmas
abbrev Opened : (List ℕ → Type 0) → List ℕ → Type 0
Opened P l = Parted (λ sign m. (sign ≡ codes "{-#") × White P m) l

opening_decides : (f : List ℕ → Bool) (P : List ℕ → Type 0) (l : List ℕ) → ((m : List ℕ) → Decides (f m) (P m)) → Decides (behind_opening f l) (Opened P l)
opening_decides f P l each =
    parted (λ sign m. bytes_eq sign (codes "{-#") && behind_white f m) (λ sign m. (sign ≡ codes "{-#") × White P m) l
    (λ sign m e. both (bytes_eq sign (codes "{-#")) (behind_white f m) (bytes_eq-Decides sign (codes "{-#")) (white_decides f P m (λ t k. each t)))

abbrev Spaced : List ℕ → List ℕ → Type 0
Spaced w n = IsGap w × IsNames n

abbrev Language : List ℕ → List ℕ → Type 0
Language k m = IsKeyword (codes "language") k × Parted Spaced m

language_decides : (l : List ℕ) → Decides (is_language l) (IsLanguage l)
unfolding is_language IsLanguage
language_decides l =
    via (is_language l)
    (opening_decides (in_two (λ k m. is_keyword (codes "language") k && in_two (λ w n. is_gap w && is_names n) m)) (Parted Language) l
    (λ t. parted (λ k m. is_keyword (codes "language") k && in_two (λ w n. is_gap w && is_names n) m) Language t
    (λ k m e. both (is_keyword (codes "language") k) (in_two (λ w n. is_gap w && is_names n) m) (keyword_decides (codes "language") k)
    (parted (λ w n. is_gap w && is_names n) Spaced m (λ w n g. both (is_gap w) (is_names n) (gap_decides w) (names_decides n))))))
    (λ x.
    let v = x.3.1 in
    let k = v.3.1 in
    let w = k.3.1 in
    (v.0, k.0, w.0, w.1, x.2 ∙ ap (λ z. z ++ x.1) x.3.0 ∙ ap (λ z. codes "{-#" ++ z) (v.2 ∙ ap (λ z. v.0 ++ z) (k.2 ∙ ap (λ z. k.0 ++ z) w.2)), v.3.0, k.3.0, w.3.0, w.3.1))
    (λ x. (codes "{-#", x.0 ++ (x.1 ++ (x.2 ++ x.3)), x.4, (refl, (x.0, x.1 ++ (x.2 ++ x.3), refl, (x.5, (x.1, x.2 ++ x.3, refl, (x.6, (x.2, x.3, refl, (x.7, x.8)))))))))

abbrev Source : List ℕ → List ℕ → Type 0
Source k m = IsKeyword (codes "source") k × White (λ t. t ≡ codes "#-}") m

source_decides : (l : List ℕ) → Decides (is_source l) (IsSource l)
unfolding is_source IsSource
source_decides l =
    via (is_source l)
    (opening_decides (in_two (λ k m. is_keyword (codes "source") k && behind_white is_close m)) (Parted Source) l
    (λ t. parted (λ k m. is_keyword (codes "source") k && behind_white is_close m) Source t
    (λ k m e. both (is_keyword (codes "source") k) (behind_white is_close m) (keyword_decides (codes "source") k) (white_decides is_close (λ t. t ≡ codes "#-}") m (λ t q. close_decides t)))))
    (λ x.
    let v = x.3.1 in
    let k = v.3.1 in
    let w = k.3.1 in
    (v.0, k.0, w.0, x.2 ∙ ap (λ z. z ++ x.1) x.3.0 ∙ ap (λ z. codes "{-#" ++ z) (v.2 ∙ ap (λ z. v.0 ++ z) (k.2 ∙ ap (λ z. k.0 ++ z) (w.2 ∙ ap (λ z. w.0 ++ z) w.3.1))), v.3.0, k.3.0, w.3.0))
    (λ x. (codes "{-#", x.0 ++ (x.1 ++ (x.2 ++ codes "#-}")), x.3, (refl, (x.0, x.1 ++ (x.2 ++ codes "#-}"), refl, (x.4, (x.1, x.2 ++ codes "#-}", refl, (x.5, (x.2, codes "#-}", refl, (x.6, refl)))))))))

pragma_decides : (s : Stage) (l : List ℕ) → Decides (is_pragma s l) (IsPragma s l)
pragma_decides Front l = language_decides l
pragma_decides Import l = source_decides l
pragma_decides Later l = never

pub token_decides : (s : Stage) (k : Kind) (l : List ℕ) → Decides (is_token s k l) (IsToken s k l)
token_decides s NestedComment l = pragma_decides s l
token_decides s k l = itself (is_lexeme k)
