-- The tests of escapes, characters and strings decide their languages.
use Rattle.std.specs.Bool.{Decides}
use Rattle.std.specs.List.{flat_map}
use Rattle.std.specs.Str.{bytes_eq}
use Rattle.std.proofs.Common.{◌≡◌, ◌⊎◌, inl, inr, ⊎_elim, ℕ, zero, suc, ◌<◌, ◌≤◌, true, not, ◌==◌, ◌||◌, ◌&&◌, nat_lt, List, [], ◌∷◌, ◌++◌, length, refl, ap, sym, ◌∙◌, subst, arith, length-append}
use Rattle.std.proofs.lemmas.Bool.{false≢true}
use Rattle.std.proofs.lemmas.Bool.Decides.{Decides-not, Decides-ltb}
use Rattle.std.proofs.lemmas.Slice.Eq.{bytes_eq-Decides}
use Rattle.hs_lex.specs.declared.class.Part.TheVariants as part
use Rattle.hs_lex.specs.declared.number.Base.{Base}
use Rattle.hs_lex.specs.declared.number.Base.TheVariants.{Decimal, Octal, Hexadecimal}
use Rattle.hs_lex.specs.Classes.{class_of, between, is_character, is_control}
use Rattle.hs_lex.specs.Numbers.{IsMany, digits_of}
use Rattle.hs_lex.specs.Reading.{AllIn}
use Rattle.hs_lex.specs.Quoted.{value_from, IsNumeral, is_char_escape, IsControl, pairs, triples, one_of_two, one_of_three, Differs, IsAscii, Shape, Char, Control, Ascii, InDecimal, InOctal, InHexadecimal, IsEscapeOf, IsEscape, Piece, Plain, Escape, Gap, piece, IsPlain, IsPiece, IsPieceText, ArePieces, IsText, is_graphic, IsGraphic, IsInside, IsChar}
use Rattle.hs_lex.specs.Lexemes.{is_nil}
use Rattle.hs_lex.specs.Deciding.{in_two, is_whole, is_many, is_numeral, is_control_escape, differs, is_ascii_name, is_escape_of, is_any_escape, is_escape, is_plain_character, is_gap_tail, is_piece, are_pieces, is_text, is_in_quotes, is_char}
use Rattle.hs_lex.proofs.Decided.{never, always, itself, negated, equal, via, both, all_three, either, implies, Parted, parted, whole_decides, many_decides, nil_decides}
use Rattle.hs_lex.proofs.Numbers.{many_all}

-- escapes
numeral_decides : (b : Base) (l rest : List ℕ) → Decides (is_numeral b l rest) (IsNumeral b l rest)
numeral_decides b l rest =
    via (is_numeral b l rest)
    (both (is_whole (digits_of b) l rest) (not (is_nil l) && not (nat_lt 0x10ffff (value_from b 0 l))) (whole_decides (digits_of b) l rest)
    (both (not (is_nil l)) (not (nat_lt 0x10ffff (value_from b 0 l))) (Decides-not (is_nil l) (nil_decides l)) (Decides-not (nat_lt 0x10ffff (value_from b 0 l)) (Decides-ltb 0x10ffff (value_from b 0 l)))))
    (λ h. (some l h.0.0 h.1.0, h.0.1, small (value_from b 0 l) h.1.1))
    (λ h. ((many_all (digits_of b) l rest h.0, h.1), ((λ e. subst (IsMany (digits_of b)) e h.0), (λ k. omega (arith, h.2, k)))))
  where
    some : (l : List ℕ) → AllIn (digits_of b) l → (l ≡ [] → ⊥) → IsMany (digits_of b) l
    some [] a n = n refl
    some (c ∷ l) a n = a

    small : (v : ℕ) → (0x10ffff < v → ⊥) → v ≤ 0x10ffff
    small v n = omega (arith, n)

control_decides : (l : List ℕ) → Decides (is_control_escape l) (IsControl l)
control_decides [] = ((λ h. absurd (false≢true h)), (λ x. absurd (let e : [] ≡ x.0 ∷ [] = x.1 in let k : ⊥ = cc in k)))
control_decides (c ∷ []) = ((λ h. (c, refl, h)), (λ x. let e : c ∷ [] ≡ x.0 ∷ [] = x.1 in let k : x.0 ≡ c = cc in subst (λ z. between 64 95 z ≡ true) k x.2))
control_decides (c ∷ d ∷ l) = ((λ h. absurd (false≢true h)), (λ x. absurd (let e : c ∷ d ∷ l ≡ x.0 ∷ [] = x.1 in let k : ⊥ = cc in k)))

differs_decides : (d : ℕ) (l : List ℕ) → Decides (differs d l) (Differs d l)
differs_decides d [] = always
differs_decides d (c ∷ l) = Decides-not (c == d) (equal c d)

ascii_decides : (l rest : List ℕ) → Decides (is_ascii_name l rest) (IsAscii l rest)
ascii_decides [] rest = never
ascii_decides (a ∷ []) rest = never
ascii_decides (a ∷ b ∷ []) rest =
    both (one_of_two pairs a b) (not (a == 83) || (not (b == 79) || differs 72 rest)) (itself (one_of_two pairs a b))
    (implies (a == 83) (not (b == 79) || differs 72 rest) (equal a 83) (implies (b == 79) (differs 72 rest) (equal b 79) (differs_decides 72 rest)))
ascii_decides (a ∷ b ∷ c ∷ []) rest = itself (one_of_three triples a b c)
ascii_decides (a ∷ b ∷ c ∷ d ∷ l) rest = never

of_decides : (s : Shape) (c : ℕ) (l rest : List ℕ) → Decides (is_escape_of s c l rest) (IsEscapeOf s c l rest)
of_decides Char c l rest = both (is_char_escape c) (is_nil l) (itself (is_char_escape c)) (nil_decides l)
of_decides Control c l rest = both (c == 94) (is_control_escape l) (equal c 94) (control_decides l)
of_decides Ascii c l rest = ascii_decides (c ∷ l) rest
of_decides InDecimal c l rest = numeral_decides Decimal (c ∷ l) rest
of_decides InOctal c l rest = both (c == 111) (is_numeral Octal l rest) (equal c 111) (numeral_decides Octal l rest)
of_decides InHexadecimal c l rest = both (c == 120) (is_numeral Hexadecimal l rest) (equal c 120) (numeral_decides Hexadecimal l rest)

abbrev Any : ℕ → List ℕ → List ℕ → Type 0
Any c l rest = IsEscapeOf Char c l rest ⊎ (IsEscapeOf Control c l rest ⊎ (IsEscapeOf Ascii c l rest ⊎ (IsEscapeOf InDecimal c l rest ⊎ (IsEscapeOf InOctal c l rest ⊎ IsEscapeOf InHexadecimal c l rest))))

any_decides : (c : ℕ) (l rest : List ℕ) → Decides (is_any_escape c l rest) (Any c l rest)
any_decides c l rest =
    either (is_escape_of Char c l rest) _ (of_decides Char c l rest)
    (either (is_escape_of Control c l rest) _ (of_decides Control c l rest)
    (either (is_escape_of Ascii c l rest) _ (of_decides Ascii c l rest)
    (either (is_escape_of InDecimal c l rest) _ (of_decides InDecimal c l rest)
    (either (is_escape_of InOctal c l rest) (is_escape_of InHexadecimal c l rest) (of_decides InOctal c l rest) (of_decides InHexadecimal c l rest)))))

with_shape : (c : ℕ) (l rest : List ℕ) → Any c l rest → (s : Shape) × IsEscapeOf s c l rest
with_shape c l rest h =
    ⊎_elim (λ x. (Char, x)) (λ h. ⊎_elim (λ x. (Control, x)) (λ h. ⊎_elim (λ x. (Ascii, x)) (λ h. ⊎_elim (λ x. (InDecimal, x)) (λ h. ⊎_elim (λ x. (InOctal, x)) (λ x. (InHexadecimal, x)) h) h) h) h) h

by_shape : (s : Shape) (c : ℕ) (l rest : List ℕ) → IsEscapeOf s c l rest → Any c l rest
by_shape Char c l rest x = inl x
by_shape Control c l rest x = inr (inl x)
by_shape Ascii c l rest x = inr (inr (inl x))
by_shape InDecimal c l rest x = inr (inr (inr (inl x)))
by_shape InOctal c l rest x = inr (inr (inr (inr (inl x))))
by_shape InHexadecimal c l rest x = inr (inr (inr (inr (inr x))))

pub escape_decides : (l rest : List ℕ) → Decides (is_escape l rest) (IsEscape l rest)
unfolding is_escape
escape_decides [] rest = ((λ h. absurd (false≢true h)), (λ x. absurd (let e : [] ≡ x.0 ∷ x.1 = x.2 in let k : ⊥ = cc in k)))
escape_decides (c ∷ l) rest =
    via (is_any_escape c l rest) (any_decides c l rest) (λ h. let s = with_shape c l rest h in (c, l, refl, s.0, s.1)) (λ x. back x.0 x.1 x.2 x.3 x.4)
  where
    back : (d : ℕ) (m : List ℕ) → c ∷ l ≡ d ∷ m → (s : Shape) → IsEscapeOf s d m rest → Any c l rest
    back d m e s x =
        let k : d ≡ c = cc in
        let t : m ≡ l = cc in
        subst (λ z. Any z l rest) k (subst (λ z. Any d z rest) t (by_shape s d m rest x))

-- pieces
plain_decides : (c : ℕ) → Decides (is_plain_character c) (IsPlain c)
plain_decides c =
    via (is_plain_character c)
    (both (is_character c && not (is_control c)) (not (c == 34) && not (c == 92)) (both (is_character c) (not (is_control c)) (itself (is_character c)) (negated (is_control c)))
    (both (not (c == 34)) (not (c == 92)) (Decides-not (c == 34) (equal c 34)) (Decides-not (c == 92) (equal c 92))))
    (λ h. (h.0.0, h.0.1, h.1.0, h.1.1)) (λ h. ((h.0, h.1), (h.2, h.3)))

abbrev GapTail : List ℕ → List ℕ → Type 0
GapTail blanks end = IsMany part.White blanks × (end ≡ 92 ∷ [])

gap_decides : (l : List ℕ) → Decides (in_two is_gap_tail l) (Parted GapTail l)
gap_decides l = parted is_gap_tail GapTail l (λ b e g. both (is_many part.White b) (bytes_eq e (92 ∷ [])) (many_decides part.White b) (bytes_eq-Decides e (92 ∷ [])))

abbrev Front : ℕ → List ℕ → List ℕ → Type 0
Front c l rest = ((l ≡ []) × IsPlain c) ⊎ ((c ≡ 92) × (IsEscape l rest ⊎ Parted GapTail l))

piece_of : (c : ℕ) (l rest : List ℕ) → Front c l rest → IsPieceText (c ∷ l) rest
piece_of c l rest h = ⊎_elim
    (λ p. (Plain c, p.1, ap (λ z. c ∷ z) p.0))
    (λ p. ⊎_elim
    (λ e. (Escape l, e, ap (λ z. z ∷ l) p.0))
    (λ g. (Gap g.0, g.3.0, ap (λ z. z ∷ l) p.0 ∙ ap (λ z. 92 ∷ z) (g.2 ∙ ap (λ z. g.0 ++ z) g.3.1))) p.1) h

of_piece : (c : ℕ) (l rest : List ℕ) (p : Piece) → IsPiece p rest → c ∷ l ≡ piece p → Front c l rest
of_piece c l rest (Plain d) h e =
    let k : d ≡ c = cc in
    let t : l ≡ [] = cc in
    inl (t, subst IsPlain k h)
of_piece c l rest (Escape d) h e =
    let k : c ≡ 92 = cc in
    let t : d ≡ l = cc in
    inr (k, inl (subst (λ z. IsEscape z rest) t h))
of_piece c l rest (Gap b) h e =
    let k : c ≡ 92 = cc in
    let t : l ≡ b ++ 92 ∷ [] = cc in
    inr (k, inr (b, 92 ∷ [], t, (h, refl)))

no_piece : (p : Piece) → [] ≡ piece p → ⊥
no_piece (Plain c) e = cc
no_piece (Escape l) e = cc
no_piece (Gap b) e = cc

piece_decides : (l rest : List ℕ) → Decides (is_piece l rest) (IsPieceText l rest)
piece_decides [] rest = ((λ h. absurd (false≢true h)), (λ x. absurd (no_piece x.0 x.2)))
piece_decides (c ∷ l) rest =
    via (is_piece (c ∷ l) rest)
    (either (is_nil l && is_plain_character c) _ (both (is_nil l) (is_plain_character c) (nil_decides l) (plain_decides c))
    (both (c == 92) _ (equal c 92) (either (is_escape l rest) (in_two is_gap_tail l) (escape_decides l rest) (gap_decides l))))
    (piece_of c l rest) (λ x. of_piece c l rest x.0 x.1 x.2)

-- strings
abbrev Pieces : List ℕ → List ℕ → Type 0
Pieces l rest = (ps : List Piece) × ArePieces ps rest × (l ≡ flat_map piece ps)

abbrev Turn : ℕ → List ℕ → List ℕ → List ℕ → Type 0
Turn c rest a b = IsPieceText (c ∷ a) (b ++ rest) × Pieces b rest

pieces_of : (c : ℕ) (l rest : List ℕ) → Parted (Turn c rest) l → Pieces (c ∷ l) rest
pieces_of c l rest x =
    let p = x.3.0 in
    let q = x.3.1 in
    (p.0 ∷ q.0, (subst (λ z. IsPiece p.0 (z ++ rest)) q.2 p.1, q.1), ap (λ z. c ∷ z) x.2 ∙ ap (λ z. z ++ x.1) p.2 ∙ ap (λ z. piece p.0 ++ z) q.2)

front_of : (p : Piece) → (d : ℕ) × (a : List ℕ) × (piece p ≡ d ∷ a)
front_of (Plain c) = (c, [], refl)
front_of (Escape e) = (92, e, refl)
front_of (Gap b) = (92, b ++ 92 ∷ [], refl)

of_pieces : (c : ℕ) (l rest : List ℕ) (ps : List Piece) → ArePieces ps rest → c ∷ l ≡ flat_map piece ps → Parted (Turn c rest) l
of_pieces c l rest [] h e = absurd (let k : ⊥ = cc in k)
of_pieces c l rest (p ∷ ps) h e =
    let f = front_of p in
    let w : c ∷ l ≡ f.0 ∷ (f.1 ++ flat_map piece ps) = e ∙ ap (λ z. z ++ flat_map piece ps) f.2 in
    let k : f.0 ≡ c = cc in
    let t : l ≡ f.1 ++ flat_map piece ps = cc in
    (f.1, flat_map piece ps, t, ((p, h.0, ap (λ z. z ∷ f.1) (sym k) ∙ sym f.2), (ps, h.1, refl)))

pieces_decides : (n : ℕ) (l rest : List ℕ) → length l < n → Decides (are_pieces n l rest) (Pieces l rest)
unfolding are_pieces
pieces_decides zero l rest b = absurd (omega arith)
pieces_decides (suc n) [] rest b = ((λ h. ([], tt, refl)), (λ h. refl))
pieces_decides (suc n) (c ∷ l) rest b =
    via (are_pieces (suc n) (c ∷ l) rest)
    (parted (λ a b. is_piece (c ∷ a) (b ++ rest) && are_pieces n b rest) (Turn c rest) l
    (λ a m e. both (is_piece (c ∷ a) (m ++ rest)) (are_pieces n m rest) (piece_decides (c ∷ a) (m ++ rest)) (pieces_decides n m rest (omega (arith, ap length e, length-append a m)))))
    (pieces_of c l rest) (λ x. of_pieces c l rest x.0 x.1 x.2)

abbrev Closed : List ℕ → List ℕ → Type 0
Closed m end = Pieces m (34 ∷ []) × (end ≡ 34 ∷ [])

of_text : (c : ℕ) (l : List ℕ) → IsText (c ∷ l) → (c ≡ 34) × Parted Closed l
of_text c l x =
    let e : c ∷ l ≡ 34 ∷ (flat_map piece x.0 ++ 34 ∷ []) = x.2 in
    let k : c ≡ 34 = cc in
    let t : l ≡ flat_map piece x.0 ++ 34 ∷ [] = cc in
    (k, (flat_map piece x.0, 34 ∷ [], t, ((x.0, x.1, refl), refl)))

pub text_decides : (l : List ℕ) → Decides (is_text l) (IsText l)
text_decides [] = ((λ h. absurd (false≢true h)), (λ x. absurd (let e : [] ≡ 34 ∷ (flat_map piece x.0 ++ 34 ∷ []) = x.2 in let k : ⊥ = cc in k)))
text_decides (c ∷ l) =
    via (is_text (c ∷ l))
    (both (c == 34) _ (equal c 34)
    (parted (λ m end. are_pieces (suc (length m)) m (34 ∷ []) && bytes_eq end (34 ∷ [])) Closed l
    (λ m e g. both (are_pieces (suc (length m)) m (34 ∷ [])) (bytes_eq e (34 ∷ [])) (pieces_decides (suc (length m)) m (34 ∷ []) (omega arith)) (bytes_eq-Decides e (34 ∷ [])))))
    (λ h. let x = h.1 in let p = x.3.0 in (p.0, p.1, ap (λ z. z ∷ l) h.0 ∙ ap (λ z. 34 ∷ z) (x.2 ∙ ap (λ z. z ++ x.1) p.2 ∙ ap (λ z. flat_map piece p.0 ++ z) x.3.1)))
    (of_text c l)

-- characters
graphic_decides : (c : ℕ) → Decides ((is_graphic (class_of c) || c == 32) && (not (c == 39) && not (c == 92))) (IsGraphic c)
graphic_decides c =
    all_three (is_graphic (class_of c) || c == 32) (not (c == 39)) (not (c == 92)) (itself (is_graphic (class_of c) || c == 32)) (Decides-not (c == 39) (equal c 39)) (Decides-not (c == 92) (equal c 92))

abbrev InQuotes : ℕ → List ℕ → List ℕ → Type 0
InQuotes c l rest = ((l ≡ []) × IsGraphic c) ⊎ ((c ≡ 92) × (IsEscape l rest × (l ≡ 38 ∷ [] → ⊥)))

inside_of : (c : ℕ) (l rest : List ℕ) → InQuotes c l rest → IsInside (c ∷ l) rest
inside_of c l rest h = ⊎_elim (λ p. inl (c, ap (λ z. c ∷ z) p.0, p.1)) (λ p. inr (l, ap (λ z. z ∷ l) p.0, p.1.0, p.1.1)) h

of_inside : (c : ℕ) (l rest : List ℕ) → IsInside (c ∷ l) rest → InQuotes c l rest
of_inside c l rest h = ⊎_elim
    (λ x. let e : c ∷ l ≡ x.0 ∷ [] = x.1 in let k : x.0 ≡ c = cc in let t : l ≡ [] = cc in inl (t, subst IsGraphic k x.2))
    (λ x. let e : c ∷ l ≡ 92 ∷ x.0 = x.1 in let k : c ≡ 92 = cc in let t : x.0 ≡ l = cc in inr (k, (subst (λ z. IsEscape z rest) t x.2, λ q. x.3 (t ∙ q)))) h

inside_decides : (l rest : List ℕ) → Decides (is_in_quotes l rest) (IsInside l rest)
inside_decides [] rest = (
  (λ h. absurd (false≢true h)),
  (λ h. absurd (⊎_elim (λ x. let e : [] ≡ x.0 ∷ [] = x.1 in let k : ⊥ = cc in k) (λ x. let e : [] ≡ 92 ∷ x.0 = x.1 in let k : ⊥ = cc in k) h)),
)
inside_decides (c ∷ l) rest =
    via (is_in_quotes (c ∷ l) rest)
    (either (is_nil l && ((is_graphic (class_of c) || c == 32) && (not (c == 39) && not (c == 92)))) _ (both (is_nil l) _ (nil_decides l) (graphic_decides c))
    (both (c == 92) _ (equal c 92) (both (is_escape l rest) (not (bytes_eq l (38 ∷ []))) (escape_decides l rest) (Decides-not (bytes_eq l (38 ∷ [])) (bytes_eq-Decides l (38 ∷ []))))))
    (inside_of c l rest) (of_inside c l rest)

abbrev Ticked : List ℕ → List ℕ → Type 0
Ticked m end = IsInside m (39 ∷ []) × (end ≡ 39 ∷ [])

of_char : (c : ℕ) (l : List ℕ) → IsChar (c ∷ l) → (c ≡ 39) × Parted Ticked l
of_char c l x =
    let e : c ∷ l ≡ 39 ∷ (x.0 ++ 39 ∷ []) = x.1 in
    let k : c ≡ 39 = cc in
    let t : l ≡ x.0 ++ 39 ∷ [] = cc in
    (k, (x.0, 39 ∷ [], t, (x.2, refl)))

pub char_decides : (l : List ℕ) → Decides (is_char l) (IsChar l)
char_decides [] = ((λ h. absurd (false≢true h)), (λ x. absurd (let e : [] ≡ 39 ∷ (x.0 ++ 39 ∷ []) = x.1 in let k : ⊥ = cc in k)))
char_decides (c ∷ l) =
    via (is_char (c ∷ l))
    (both (c == 39) _ (equal c 39)
    (parted (λ m end. is_in_quotes m (39 ∷ []) && bytes_eq end (39 ∷ [])) Ticked l
    (λ m e g. both (is_in_quotes m (39 ∷ [])) (bytes_eq e (39 ∷ [])) (inside_decides m (39 ∷ [])) (bytes_eq-Decides e (39 ∷ [])))))
    (λ h. let x = h.1 in (x.0, ap (λ z. z ∷ l) h.0 ∙ ap (λ z. 39 ∷ z) (x.2 ∙ ap (λ z. x.0 ++ z) x.3.1), x.3.0))
    (of_char c l)
