-- The parts of pragmas.
use Rattle.std.specs.Prelude.{codes, map, nat_lt, ◌&&◌, cond}
use Rattle.std.specs.Char.{to_ascii_lowercase}
use Rattle.std.specs.Str.{bytes_eq}
use Rattle.std.specs.Bool.{Decides}
use Rattle.std.proofs.Common.{◌≡◌, ◌⊎◌, inl, inr, ⊎_elim, ℕ, ◌+◌, ◌<◌, ◌≤◌, Bool, true, false, List, [], ◌∷◌, ◌++◌, length, refl, ap, sym, ◌∙◌, subst, arith, length-append}
use Rattle.std.proofs.lemmas.Bool.{false≢true, and_parts}
use Rattle.std.proofs.lemmas.Bool.Decides.{nat_tests}
use Rattle.std.proofs.lemmas.Slice.Eq.{bytes_eq-Decides}
use Rattle.source_text.specs.Characters.{characters}
use Rattle.mk_base.specs.Classes.{class_of as class_of_char}
use Rattle.hs_lex.specs.declared.class.Class.{Class}
use Rattle.hs_lex.specs.declared.class.Class.TheVariants as class
use Rattle.hs_lex.specs.declared.class.Part.TheVariants as part
use Rattle.hs_lex.specs.Classes.{class_of, in_part, in_name, in_white, between}
use Rattle.hs_lex.specs.Reading.{AllIn, Ends, Runs}
use Rattle.hs_lex.specs.Lexemes.{BeginsWith}
use Rattle.hs_lex.specs.Pragmas.{IsKeyword, IsIdentifier, IsGap, IsList, IsNames, IsLanguage, IsSource}
use Rattle.hs_lex.proofs.Runs.{same_run, run_begins}
use Rattle.hs_lex.proofs.Reserved.{is_ascii, ascii_reads, spelled}

-- letters
is_letters : List ℕ → Bool
is_letters [] = true
is_letters (c ∷ cs) = between 97 122 c && is_letters cs

small_letter : (c : ℕ) → 97 ≤ c → c ≤ 122 → class_of c ≡ class.Small
unfolding class_of class_of_char
small_letter c h k = grind (arith, nat_tests)

large_letter : (c : ℕ) → 65 ≤ c → c ≤ 90 → class_of c ≡ class.Large
unfolding class_of class_of_char
large_letter c h k = grind (arith, nat_tests)

lowered : (a b : Bool) (c d : ℕ) → cond a c (cond b (c + 32) c) ≡ d → 97 ≤ d → d ≤ 122 → ((65 ≤ c) × (c ≤ 90)) ⊎ ((97 ≤ c) × (c ≤ 122))
lowered true b c d e h k = inr (omega arith, omega arith)
lowered false true c d e h k = inl (omega arith, omega arith)
lowered false false c d e h k = inr (omega arith, omega arith)

letter_range : (c d : ℕ) → to_ascii_lowercase c ≡ d → between 97 122 d ≡ true → ((65 ≤ c) × (c ≤ 90)) ⊎ ((97 ≤ c) × (c ≤ 122))
letter_range c d e h = lowered (nat_lt c 65) (nat_lt c 91) c d e (let k : 97 ≤ d = grind (arith, nat_tests) in k) (let k : d ≤ 122 = grind (arith, nat_tests) in k)

letter_class : (c d : ℕ) → to_ascii_lowercase c ≡ d → between 97 122 d ≡ true → (class_of c ≡ class.Small) ⊎ (class_of c ≡ class.Large)
letter_class c d e h = ⊎_elim (λ r. inr (large_letter c r.0 r.1)) (λ r. inl (small_letter c r.0 r.1)) (letter_range c d e h)

either_in : (k : Class) → (k ≡ class.Small) ⊎ (k ≡ class.Large) → (in_name k ≡ true) × (in_white k ≡ false)
either_in k h = ⊎_elim (λ e. (ap in_name e, ap in_white e)) (λ e. (ap in_name e, ap in_white e)) h

letter_parts : (c : ℕ) → (class_of c ≡ class.Small) ⊎ (class_of c ≡ class.Large) → (in_part part.Name c ≡ true) × (in_part part.White c ≡ false)
unfolding in_part
letter_parts c h = either_in (class_of c) h

-- a keyword is of letters
keyword_ascii : (w l : List ℕ) → is_letters w ≡ true → IsKeyword w l → is_ascii l ≡ true
unfolding is_letters is_ascii
keyword_ascii w [] h e = refl
keyword_ascii [] (c ∷ l) h e = cc
keyword_ascii (d ∷ w) (c ∷ l) h e =
    let p = and_parts (between 97 122 d) (is_letters w) h in
    let a : to_ascii_lowercase c ≡ d = cc in
    let b : map to_ascii_lowercase l ≡ w = cc in
    let low : nat_lt c 128 ≡ true = ⊎_elim (λ r. let k : c < 128 = omega (arith, r.1) in grind (arith, nat_tests)) (λ r. let k : c < 128 = omega (arith, r.1) in grind (arith, nat_tests)) (letter_range c d a p.0) in
    ap (λ x. x && is_ascii l) low ∙ keyword_ascii w l p.1 b

keyword_names : (w l : List ℕ) → is_letters w ≡ true → IsKeyword w l → AllIn part.Name l
unfolding is_letters
keyword_names w [] h e = tt
keyword_names [] (c ∷ l) h e = cc
keyword_names (d ∷ w) (c ∷ l) h e =
    let p = and_parts (between 97 122 d) (is_letters w) h in
    let a : to_ascii_lowercase c ≡ d = cc in
    let b : map to_ascii_lowercase l ≡ w = cc in
    ((letter_parts c (letter_class c d a p.0)).0, keyword_names w l p.1 b)

pub language_names : (l : List ℕ) → IsKeyword (codes "language") l → AllIn part.Name l
unfolding is_letters
language_names l e = keyword_names (codes "language") l refl e

keyword_ends : (d : ℕ) (w l r : List ℕ) → is_letters (d ∷ w) ≡ true → IsKeyword (d ∷ w) l → Ends part.White (l ++ r)
unfolding is_letters
keyword_ends d w [] r h e = cc
keyword_ends d w (c ∷ l) r h e =
    let p = and_parts (between 97 122 d) (is_letters w) h in
    let a : to_ascii_lowercase c ≡ d = cc in
    (letter_parts c (letter_class c d a p.0)).1

-- the bytes of a keyword are its characters
keyword_out : (w bs : List ℕ) → is_letters w ≡ true → IsKeyword w bs → IsKeyword w (characters bs)
keyword_out w bs h e = subst (IsKeyword w) (sym (ascii_reads bs (keyword_ascii w bs h e))) e

keyword_in : (w bs : List ℕ) → is_letters w ≡ true → IsKeyword w (characters bs) → IsKeyword w bs
keyword_in w bs h e = subst (IsKeyword w) (sym (spelled bs (characters bs) (keyword_ascii w (characters bs) h e) refl)) e

-- identifiers
identifier_ends : (n m : List ℕ) → IsIdentifier n → Ends part.White (n ++ m)
identifier_ends [] m h = absurd (⊎_elim (λ e. e) (λ e. e) h.0)
identifier_ends (c ∷ n) m h = (letter_parts c h.0).1

-- what begins with white space goes on with no name
pub white_no_name : (c : ℕ) → in_part part.White c ≡ true → in_part part.Name c ≡ false
unfolding in_part
white_no_name c h = by_class (class_of c) h
  where
    by_class : (k : Class) → in_white k ≡ true → in_name k ≡ false
    by_class class.White h = refl
    by_class class.Small h = absurd (false≢true h)
    by_class class.Large h = absurd (false≢true h)
    by_class class.Digit h = absurd (false≢true h)
    by_class class.Symbol h = absurd (false≢true h)
    by_class class.Special h = absurd (false≢true h)
    by_class class.Quote h = absurd (false≢true h)
    by_class class.Tick h = absurd (false≢true h)
    by_class class.Other h = absurd (false≢true h)

white_ends : (v r : List ℕ) → AllIn part.White v → Ends part.Name r → Ends part.Name (v ++ r)
white_ends [] r h e = e
white_ends (c ∷ v) r h e = white_no_name c h.0

pub comma_name : in_part part.Name 44 ≡ false
unfolding in_part class_of class_of_char
comma_name = refl

comma_white : in_part part.White 44 ≡ false
unfolding in_part class_of class_of_char
comma_white = refl

pub sign_name : in_part part.Name 35 ≡ false
unfolding in_part class_of class_of_char
sign_name = refl

sign_white : in_part part.White 35 ≡ false
unfolding in_part class_of class_of_char
sign_white = refl

pub list_ends : (ns : List (List ℕ)) (m : List ℕ) → IsList ns m → Ends part.Name m
list_ends [] m h = subst (Ends part.Name) (sym h.1) (white_ends h.0 (codes "#-}") h.2 sign_name)
list_ends (n ∷ ns) m h = subst (Ends part.Name) (sym h.3) (white_ends h.0 (44 ∷ (h.1 ++ (n ++ h.2))) h.4 comma_name)

keyword_test : (w bs text : List ℕ) (b : Bool) → is_letters w ≡ true → characters bs ≡ text → Decides b (IsKeyword w bs) → Decides b (IsKeyword w text)
keyword_test w bs text b h e d = ((λ t. subst (IsKeyword w) e (keyword_out w bs h (d.0 t))), (λ k. d.1 (keyword_in w bs h (subst (IsKeyword w) (sym e) k))))

pub language_test : (bs text : List ℕ) (b : Bool) → characters bs ≡ text → Decides b (IsKeyword (codes "language") bs) → Decides b (IsKeyword (codes "language") text)
unfolding is_letters
language_test bs text b = keyword_test (codes "language") bs text b refl

pub source_test : (bs text : List ℕ) (b : Bool) → characters bs ≡ text → Decides b (IsKeyword (codes "source") bs) → Decides b (IsKeyword (codes "source") text)
unfolding is_letters
source_test bs text b = keyword_test (codes "source") bs text b refl

pub identifier_some : (cs next rest : List ℕ) (c : ℕ) → cs ≡ c ∷ next → (class_of c ≡ class.Small) ⊎ (class_of c ≡ class.Large) → Runs part.Name cs rest
    → (n : List ℕ) × IsIdentifier n × (cs ≡ n ++ rest) × Ends part.Name rest
identifier_some cs next rest c e h run =
    let b = run_begins part.Name cs rest next c run e (letter_parts c h).0 in
    (run.0, (subst (λ z. BeginsWith class.Small z ⊎ BeginsWith class.Large z) (sym b.1) h, run.2), run.1, run.3)

-- names
pub no_names : (cs : List ℕ) → ((n m : List ℕ) → IsIdentifier n → cs ≡ n ++ m → ⊥) → IsNames cs → ⊥
unfolding IsNames
no_names cs never x = never x.0 x.1 x.4 x.3

module _ (cs behind : List ℕ) (h : (n : List ℕ) × IsIdentifier n × (cs ≡ n ++ behind) × Ends part.Name behind) where
  names_split : IsNames cs → (ns : List (List ℕ)) × IsList ns behind
  unfolding IsNames
  names_split x =
      let s = same_run part.Name h.0 behind x.0 x.1 h.1.1 h.3 x.4.1 (list_ends x.2 x.1 x.5) (sym h.2 ∙ x.3) in
      (x.2, subst (IsList x.2) (sym s.1) x.5)

  names_join : (ns : List (List ℕ)) → IsList ns behind → IsNames cs
  unfolding IsNames
  names_join ns l = (h.0, behind, ns, h.2, h.1, l)

apart : (a b : ℕ) (l m : List ℕ) → a ≡ 44 → b ≡ 35 → a ∷ l ≡ b ∷ m → ⊥
apart a b l m e f h = let k : a ≡ b = cc in omega arith

module _ (behind end : List ℕ) (run : Runs part.White behind end) where
  list_close : (ns : List (List ℕ)) → IsList ns behind → ((m : List ℕ) → end ≡ 44 ∷ m → ⊥) → end ≡ codes "#-}"
  list_close [] x never = (same_run part.White run.0 end x.0 (codes "#-}") run.2 run.3 x.2 sign_white (sym run.1 ∙ x.1)).1
  list_close (n ∷ ns) x never = absurd (never (x.1 ++ (n ++ x.2)) (same_run part.White run.0 end x.0 (44 ∷ (x.1 ++ (n ++ x.2))) run.2 run.3 x.4 comma_white (sym run.1 ∙ x.3)).1)

  list_closed : end ≡ codes "#-}" → IsList [] behind
  list_closed e = (run.0, run.1 ∙ ap (λ t. run.0 ++ t) e, run.2)

  list_step : (next rest : List ℕ) → end ≡ 44 ∷ next → Runs part.White next rest → (ns : List (List ℕ)) → IsList ns behind → IsNames rest
  unfolding IsNames
  list_step next rest e more [] x =
      let s = (same_run part.White run.0 end x.0 (codes "#-}") run.2 run.3 x.2 sign_white (sym run.1 ∙ x.1)).1 in
      let q : 44 ∷ next ≡ codes "#-}" = sym e ∙ s in
      absurd (apart 44 35 next (45 ∷ 125 ∷ []) refl refl q)
  list_step next rest e more (n ∷ ns) x =
      let s = (same_run part.White run.0 end x.0 (44 ∷ (x.1 ++ (n ++ x.2))) run.2 run.3 x.4 comma_white (sym run.1 ∙ x.3)).1 in
      let q : 44 ∷ next ≡ 44 ∷ (x.1 ++ (n ++ x.2)) = sym e ∙ s in
      let k : next ≡ x.1 ++ (n ++ x.2) = cc in
      let t = same_run part.White more.0 rest x.1 (n ++ x.2) more.2 more.3 x.5 (identifier_ends n x.2 x.6) (sym more.1 ∙ k) in
      (n, x.2, ns, t.1, x.6, x.7)

  list_back : (next rest : List ℕ) → end ≡ 44 ∷ next → Runs part.White next rest → IsNames rest → (ns : List (List ℕ)) × IsList ns behind
  unfolding IsNames
  list_back next rest e more x =
      (x.0 ∷ x.2, (run.0, more.0, x.1, run.1 ∙ ap (λ t. run.0 ++ t) (e ∙ ap (λ t. 44 ∷ t) (more.1 ∙ ap (λ t. more.0 ++ t) x.3)), run.2, more.2, x.4, x.5))

-- the loop over the names
pub record Same (cs here : List ℕ) : Type 0 where
  pub on : IsNames here → IsNames cs
  pub back : IsNames cs → IsNames here

pub same_start : (cs : List ℕ) → Same cs cs
same_start cs = record { on = λ h. h; back = λ h. h }

pub same_more : (cs here behind end next rest : List ℕ) → Same cs here → ((n : List ℕ) × IsIdentifier n × (here ≡ n ++ behind) × Ends part.Name behind) → Runs part.White behind end → end ≡ 44 ∷ next → Runs part.White next rest
    → Same cs rest
same_more cs here behind end next rest g h run e more = record {
  on = λ x. let l = list_back behind end run next rest e more x in g.on (names_join here behind h l.0 l.1);
  back = λ x. let l = names_split here behind h (g.back x) in list_step behind end run next rest e more l.0 l.1;
}

pub same_none : (cs here : List ℕ) → Same cs here → ((n m : List ℕ) → IsIdentifier n → here ≡ n ++ m → ⊥) → (false ≡ true → IsNames cs) × (IsNames cs → false ≡ true)
same_none cs here g never = ((λ h. absurd (false≢true h)), (λ h. absurd (no_names here never (g.back h))))

pub same_end : (cs here behind end : List ℕ) (b : Bool) → Same cs here → ((n : List ℕ) × IsIdentifier n × (here ≡ n ++ behind) × Ends part.Name behind) → Runs part.White behind end → ((m : List ℕ) → end ≡ 44 ∷ m → ⊥)
    → b ≡ bytes_eq end (codes "#-}") → (b ≡ true → IsNames cs) × (IsNames cs → b ≡ true)
same_end cs here behind end b g h run never e =
    let d = bytes_eq-Decides end (codes "#-}") in (
      (λ t. g.on (names_join here behind h [] (list_closed behind end run (d.0 (sym e ∙ t))))),
      (λ x. let l = names_split here behind h (g.back x) in e ∙ d.1 (list_close behind end run l.0 l.1 never)),
    )

white_class : (c : ℕ) → in_part part.White c ≡ true → class_of c ≡ class.White
unfolding in_part
white_class c h = by_class (class_of c) h
  where
    by_class : (k : Class) → in_white k ≡ true → k ≡ class.White
    by_class class.White h = refl
    by_class class.Small h = absurd (false≢true h)
    by_class class.Large h = absurd (false≢true h)
    by_class class.Digit h = absurd (false≢true h)
    by_class class.Symbol h = absurd (false≢true h)
    by_class class.Special h = absurd (false≢true h)
    by_class class.Quote h = absurd (false≢true h)
    by_class class.Tick h = absurd (false≢true h)
    by_class class.Other h = absurd (false≢true h)

pub gap_ends : (w m : List ℕ) → IsGap w → Ends part.Name (w ++ m)
gap_ends [] m h = absurd h.0
gap_ends (c ∷ w) m h = white_no_name c h.1.0

gap_white : (w m : List ℕ) → IsGap w → Ends part.White (w ++ m) → ⊥
gap_white [] m h e = h.0
gap_white (c ∷ w) m h e = false≢true (sym e ∙ h.1.0)

gap_of : (l rest : List ℕ) → AllIn part.White l → Ends part.White rest → (Ends part.White (l ++ rest) → ⊥) → IsGap l
gap_of [] rest h e never = absurd (never e)
gap_of (c ∷ l) rest h e never = (white_class c h.0, h)

names_white : (m : List ℕ) → IsNames m → Ends part.White m
unfolding IsNames
names_white m x = subst (Ends part.White) (sym x.3) (identifier_ends x.0 x.1 x.4)

-- LANGUAGE
pub no_language : (cs : List ℕ) → ((m : List ℕ) → cs ≡ 123 ∷ 45 ∷ 35 ∷ m → ⊥) → (false ≡ true → IsLanguage cs) × (IsLanguage cs → false ≡ true)
unfolding IsLanguage
no_language cs never = ((λ h. absurd (false≢true h)), (λ x. absurd (never (x.0 ++ (x.1 ++ (x.2 ++ x.3))) x.4)))

pub no_source : (cs : List ℕ) → ((m : List ℕ) → cs ≡ 123 ∷ 45 ∷ 35 ∷ m → ⊥) → (false ≡ true → IsSource cs) × (IsSource cs → false ≡ true)
unfolding IsSource
no_source cs never = ((λ h. absurd (false≢true h)), (λ x. absurd (never (x.0 ++ (x.1 ++ (x.2 ++ codes "#-}"))) x.3)))

module _ (cs inside word behind : List ℕ) (e : cs ≡ 123 ∷ 45 ∷ 35 ∷ inside) (blanks : Runs part.White inside word) (letters : Runs part.Name word behind) where
  language_split : IsLanguage cs → IsKeyword (codes "language") letters.0 × ((w m : List ℕ) × (behind ≡ w ++ m) × IsGap w × IsNames m)
  unfolding IsLanguage is_letters
  language_split x =
      let q : 123 ∷ 45 ∷ 35 ∷ inside ≡ 123 ∷ 45 ∷ 35 ∷ (x.0 ++ (x.1 ++ (x.2 ++ x.3))) = sym e ∙ x.4 in
      let i : inside ≡ x.0 ++ (x.1 ++ (x.2 ++ x.3)) = cc in
      let s = same_run part.White blanks.0 word x.0 (x.1 ++ (x.2 ++ x.3)) blanks.2 blanks.3 x.5 (keyword_ends 108 (codes "anguage") x.1 (x.2 ++ x.3) refl x.6) (sym blanks.1 ∙ i) in
      let t = same_run part.Name letters.0 behind x.1 (x.2 ++ x.3) letters.2 letters.3 (keyword_names (codes "language") x.1 refl x.6) (gap_ends x.2 x.3 x.7) (sym letters.1 ∙ s.1) in
      (subst (IsKeyword (codes "language")) (sym t.0) x.6, (x.2, x.3, t.1, x.7, x.8))

  language_join : IsKeyword (codes "language") letters.0 → (w m : List ℕ) → behind ≡ w ++ m → IsGap w → IsNames m → IsLanguage cs
  unfolding IsLanguage
  language_join k w m f g n =
      (blanks.0, letters.0, w, m, e ∙ ap (λ t. 123 ∷ 45 ∷ 35 ∷ t) (blanks.1 ∙ ap (λ t. blanks.0 ++ t) (letters.1 ∙ ap (λ t. letters.0 ++ t) f)), blanks.2, k, g, n)

  pub other_language : (IsKeyword (codes "language") letters.0 → ⊥) → (false ≡ true → IsLanguage cs) × (IsLanguage cs → false ≡ true)
  other_language never = ((λ h. absurd (false≢true h)), (λ x. absurd (never (language_split x).0)))

  pub gapless : Ends part.White behind → (false ≡ true → IsLanguage cs) × (IsLanguage cs → false ≡ true)
  gapless never = ((λ h. absurd (false≢true h)), (λ x. let s = (language_split x).1 in absurd (gap_white s.0 s.1 s.3 (subst (Ends part.White) s.2 never))))

  pub language_told : (rest : List ℕ) (b : Bool) → IsKeyword (codes "language") letters.0 → (Ends part.White behind → ⊥) → Runs part.White behind rest → (b ≡ true → IsNames rest) × (IsNames rest → b ≡ true)
      → (b ≡ true → IsLanguage cs) × (IsLanguage cs → b ≡ true)
  language_told rest b k some run d = (
    (λ t. language_join k run.0 rest run.1 (gap_of run.0 rest run.2 run.3 (λ h. some (subst (Ends part.White) (sym run.1) h))) (d.0 t)),
    (λ x.
        let s = (language_split x).1 in
        let r = same_run part.White run.0 rest s.0 s.1 run.2 run.3 s.3.1 (names_white s.1 s.4) (sym run.1 ∙ s.2) in
        d.1 (subst IsNames (sym r.1) s.4)),
  )

  source_split : IsSource cs → IsKeyword (codes "source") letters.0 × ((w : List ℕ) × (behind ≡ w ++ codes "#-}") × AllIn part.White w)
  unfolding IsSource is_letters
  source_split x =
      let q : 123 ∷ 45 ∷ 35 ∷ inside ≡ 123 ∷ 45 ∷ 35 ∷ (x.0 ++ (x.1 ++ (x.2 ++ codes "#-}"))) = sym e ∙ x.3 in
      let i : inside ≡ x.0 ++ (x.1 ++ (x.2 ++ codes "#-}")) = cc in
      let s = same_run part.White blanks.0 word x.0 (x.1 ++ (x.2 ++ codes "#-}")) blanks.2 blanks.3 x.4 (keyword_ends 115 (codes "ource") x.1 (x.2 ++ codes "#-}") refl x.5) (sym blanks.1 ∙ i) in
      let t = same_run part.Name letters.0 behind x.1 (x.2 ++ codes "#-}") letters.2 letters.3 (keyword_names (codes "source") x.1 refl x.5) (white_ends x.2 (codes "#-}") x.6 sign_name) (sym letters.1 ∙ s.1) in
      (subst (IsKeyword (codes "source")) (sym t.0) x.5, (x.2, t.1, x.6))

  pub other_source : (IsKeyword (codes "source") letters.0 → ⊥) → (false ≡ true → IsSource cs) × (IsSource cs → false ≡ true)
  other_source never = ((λ h. absurd (false≢true h)), (λ x. absurd (never (source_split x).0)))

  pub source_told : (rest : List ℕ) (b : Bool) → IsKeyword (codes "source") letters.0 → Runs part.White behind rest → b ≡ bytes_eq rest (codes "#-}") → (b ≡ true → IsSource cs) × (IsSource cs → b ≡ true)
  unfolding IsSource
  source_told rest b k run f =
      let d = bytes_eq-Decides rest (codes "#-}") in (
        (λ t. (blanks.0, letters.0, run.0, e ∙ ap (λ t. 123 ∷ 45 ∷ 35 ∷ t) (blanks.1 ∙ ap (λ t. blanks.0 ++ t) (letters.1 ∙ ap (λ t. letters.0 ++ t) (run.1 ∙ ap (λ t. run.0 ++ t) (d.0 (sym f ∙ t))))), blanks.2, k, run.2)),
        (λ x.
            let s = (source_split x).1 in
            let r = same_run part.White run.0 rest s.0 (codes "#-}") run.2 run.3 s.2 sign_white (sym run.1 ∙ s.1) in
            f ∙ d.1 r.1),
      )

pub smaller : (here behind end next rest : List ℕ) → ((n : List ℕ) × IsIdentifier n × (here ≡ n ++ behind) × Ends part.Name behind) → Runs part.White behind end → end ≡ 44 ∷ next → Runs part.White next rest → length rest < length here
smaller here behind end next rest h run e more =
    omega (arith, ap length h.2, length-append h.0 behind, ap length run.1, length-append run.0 end, ap length e, ap length more.1, length-append more.0 rest)
