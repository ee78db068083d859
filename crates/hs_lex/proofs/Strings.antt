-- Strings.
use Rattle.std.specs.List.{flat_map}
use Rattle.std.proofs.Common.{◌≡◌, ◌⊎◌, inl, inr, ⊎_elim, ℕ, ◌<◌, true, List, [], ◌∷◌, ◌++◌, length, refl, ap, sym, ◌∙◌, subst, arith, append_assoc, length-append}
use Rattle.std.specs.Prelude.{not, ◌&&◌, Option, Some, None}
use Rattle.std.specs.Borrow.{Bor}
use Rattle.std.proofs.lemmas.Bool.{false≢true, agree_below_at, both_ways, not-true, and_from}
use Rattle.std.proofs.lemmas.Bool.Decides.{nat_tests}
use Rattle.std.proofs.lemmas.List.{append_cancel_left, append-nil}
use Rattle.mk_base.specs.Classes.{class_of as class_of_char}
use Rattle.source_text.specs.Characters.{characters}
use Rattle.hs_lex.specs.declared.class.Part.{Part}
use Rattle.hs_lex.specs.declared.class.Part.TheVariants as part
use Rattle.hs_lex.specs.declared.number.Base.{Base}
use Rattle.hs_lex.specs.declared.number.Base.TheVariants.{Decimal, Octal, Hexadecimal}
use Rattle.hs_lex.specs.Classes.{in_part, class_of, between}
use Rattle.hs_lex.specs.Reading.{AllIn, Ends, Runs, IsLongest, Nothing, Reads}
use Rattle.hs_lex.specs.Numbers.{IsMany, digits_of}
use Rattle.hs_lex.specs.Quoted.{is_char_escape, IsAscii, IsNumeral, Differs, Shape, Char, Control, Ascii, InDecimal, InOctal, InHexadecimal, IsEscapeOf, IsEscape, Piece, Plain, Escape, Gap, piece, IsPlain, IsPiece, IsPieceText, IsGapTail, ArePieces, IsPieces, IsText}
use Rattle.hs_lex.proofs.Runs.{same_run}
use Rattle.hs_lex.proofs.Numbers.{many_all}
use Rattle.hs_lex.proofs.Escapes.{escape_same, many_of, ascii_large}

-- no white space begins an escape
no_white_below : (c : ℕ) → c < 127 → not (between 33 126 c && in_part part.White c) ≡ true
unfolding in_part class_of class_of_char
no_white_below c h = agree_below_at (λ x. not (between 33 126 x && in_part part.White x)) (λ _. true) 127 c refl h

visible : (c : ℕ) → between 33 126 c ≡ true → in_part part.White c ≡ true → ⊥
visible c h k =
    let low : c < 127 = grind (arith, nat_tests) in
    both_ways (between 33 126 c && in_part part.White c) (not-true _ (no_white_below c low)) (and_from _ _ h k)

-- an escape begins with a visible character
visible_front : (s : Shape) (c : ℕ) (m r : List ℕ) → IsEscapeOf s c m r → between 33 126 c ≡ true
unfolding in_part
visible_front Char c m r h = let k : is_char_escape c ≡ true = h.0 in grind (arith, nat_tests)
visible_front Control c m r h = let k : c ≡ 94 = h.0 in grind (arith, nat_tests)
visible_front Ascii c m r h = let k : between 65 90 c ≡ true = ascii_large c m r h in grind (arith, nat_tests)
visible_front InDecimal c m r h = let k : in_part part.Digit c ≡ true = h.0.0 in grind (arith, nat_tests)
visible_front InOctal c m r h = let k : c ≡ 111 = h.0 in grind (arith, nat_tests)
visible_front InHexadecimal c m r h = let k : c ≡ 120 = h.0 in grind (arith, nat_tests)

backslash_ends : (r : List ℕ) → Ends part.White (92 ∷ r)
unfolding in_part class_of class_of_char
backslash_ends r = refl

-- blanks up to a backslash are the run
same_blanks : (b c x y : List ℕ) → IsMany part.White b → IsMany part.White c → (b ++ 92 ∷ []) ++ x ≡ (c ++ 92 ∷ []) ++ y → b ≡ c
same_blanks b c x y p q e =
    (same_run part.White b (92 ∷ x) c (92 ∷ y) (many_all part.White b x p) (backslash_ends x) (many_all part.White c y q) (backslash_ends y) (sym (append_assoc b (92 ∷ []) x) ∙ e ∙ append_assoc c (92 ∷ []) y)).0

first_white : (b r next : List ℕ) (c : ℕ) → IsMany part.White b → b ++ r ≡ c ∷ next → in_part part.White c ≡ true
first_white [] r next c h e = absurd h
first_white (d ∷ b) r next c h e = let k : c ≡ d = cc in ap (in_part part.White) k ∙ h.0

escape_no_gap : (l r b y : List ℕ) → IsEscape l r → IsMany part.White b → l ++ r ≡ (b ++ 92 ∷ []) ++ y → ⊥
escape_no_gap l r b y x w e =
    let f : b ++ 92 ∷ y ≡ x.0 ∷ (x.1 ++ r) = sym (append_assoc b (92 ∷ []) y) ∙ sym e ∙ ap (λ z. z ++ r) x.2 in
    visible x.0 (visible_front x.3 x.0 x.1 r x.4) (first_white b (92 ∷ y) (x.1 ++ r) x.0 w f)

-- no piece begins another
pub piece_same : (p q : Piece) (x y : List ℕ) → IsPiece p x → IsPiece q y → piece p ++ x ≡ piece q ++ y → piece p ≡ piece q
piece_same (Plain c) (Plain d) x y h k e = let f : c ≡ d = cc in ap (λ z. z ∷ []) f
piece_same (Plain c) (Escape d) x y h k e = absurd (h.3 (let f : c ≡ 92 = cc in f))
piece_same (Plain c) (Gap b) x y h k e = absurd (h.3 (let f : c ≡ 92 = cc in f))
piece_same (Escape c) (Plain d) x y h k e = absurd (k.3 (let f : d ≡ 92 = cc in f))
piece_same (Escape c) (Escape d) x y h k e = ap (λ z. 92 ∷ z) (escape_same c x d y h k (let f : c ++ x ≡ d ++ y = cc in f))
piece_same (Escape c) (Gap b) x y h k e = absurd (escape_no_gap c x b y h k (let f : c ++ x ≡ (b ++ 92 ∷ []) ++ y = cc in f))
piece_same (Gap b) (Plain d) x y h k e = absurd (k.3 (let f : d ≡ 92 = cc in f))
piece_same (Gap b) (Escape c) x y h k e = absurd (escape_no_gap c y b x k h (let f : c ++ y ≡ (b ++ 92 ∷ []) ++ x = cc in f))
piece_same (Gap b) (Gap c) x y h k e = ap (λ z. 92 ∷ (z ++ 92 ∷ [])) (same_blanks b c x y h k (let f : (b ++ 92 ∷ []) ++ x ≡ (c ++ 92 ∷ []) ++ y = cc in f))

pub piece_some : (cs rest : List ℕ) (p : Piece) → IsPiece p rest → cs ≡ piece p ++ rest → IsLongest IsPieceText cs rest
piece_some cs rest p h e = record {
  text = piece p;
  front = e;
  is = (p, h, refl);
  longest = λ l r k f. omega (arith, ap length (piece_same p k.0 rest r h k.1 (sym e ∙ f ∙ ap (λ z. z ++ r) k.2)), ap length k.2);
}

-- what stands at the front of a piece
by_front : (cs next : List ℕ) (c : ℕ) → cs ≡ c ∷ next → (p : Piece) (r : List ℕ) → IsPiece p r → cs ≡ piece p ++ r → IsPlain c ⊎ ((c ≡ 92) × ((l : List ℕ) × (next ≡ l ++ r) × (IsEscape l r ⊎ IsGapTail l)))
by_front cs next c e (Plain d) r h f = let k : d ≡ c = cc in inl (subst IsPlain k h)
by_front cs next c e (Escape d) r h f = inr ((let k : c ≡ 92 = cc in k), (d, (let k : next ≡ d ++ r = cc in k), inl h))
by_front cs next c e (Gap b) r h f = inr ((let k : c ≡ 92 = cc in k), (b ++ 92 ∷ [], (let k : next ≡ (b ++ 92 ∷ []) ++ r = cc in k), inr (b, h, refl)))

no_piece : (p : Piece) (r : List ℕ) → piece p ++ r ≡ [] → ⊥
no_piece (Plain c) r e = cc
no_piece (Escape c) r e = cc
no_piece (Gap b) r e = cc

pub piece_end : (cs : List ℕ) → cs ≡ [] → Nothing IsPieceText cs
piece_end cs e l r h f = no_piece h.0 r (sym (ap (λ z. z ++ r) h.2) ∙ sym f ∙ e)

module _ (cs next : List ℕ) (c : ℕ) (e : cs ≡ c ∷ next) where
  pub piece_other : (IsPlain c → ⊥) → (c ≡ 92 → ⊥) → Nothing IsPieceText cs
  piece_other a b l r h f = ⊎_elim a (λ k. b k.0) (by_front cs next c e h.0 r h.1 (f ∙ ap (λ z. z ++ r) h.2))

  pub piece_escape : c ≡ 92 → (rest : List ℕ) → IsLongest IsEscape next rest → IsLongest IsPieceText cs rest
  piece_escape k rest h = piece_some cs rest (Escape h.text) h.is (e ∙ ap (λ z. z ∷ next) k ∙ ap (λ z. 92 ∷ z) h.front)

  pub piece_by_gap : (IsPlain c → ⊥) → c ≡ 92 → Nothing IsEscape next → (answer : Option (Bor (List ℕ))) → Reads (λ l r. IsGapTail l) next answer → Reads IsPieceText cs answer
  piece_by_gap a k n (Some rest) h =
      piece_some cs (characters rest.now) (Gap h.is.0) h.is.1 (e ∙ ap (λ z. z ∷ next) k ∙ ap (λ z. 92 ∷ z) (h.front ∙ ap (λ z. z ++ characters rest.now) h.is.2))
  piece_by_gap a k n None never = λ l r h f. ⊎_elim a (λ y. ⊎_elim (λ x. n y.1.0 r x y.1.1) (λ x. never y.1.0 r x y.1.1) y.1.2) (by_front cs next c e h.0 r h.1 (f ∙ ap (λ z. z ++ r) h.2))

-- gaps
gap_run : (b rest l r : List ℕ) → AllIn part.White b → Ends part.White rest → (g : IsGapTail l) → b ++ rest ≡ l ++ r → (b ≡ g.0) × (rest ≡ 92 ∷ r)
gap_run b rest l r p q g e =
    same_run part.White b rest g.0 (92 ∷ r) p q (many_all part.White g.0 r g.1) (backslash_ends r) (e ∙ ap (λ z. z ++ r) g.2 ∙ append_assoc g.0 (92 ∷ []) r)

no_white : (b r : List ℕ) → IsMany part.White b → Ends part.White (b ++ r) → ⊥
no_white [] r h e = h
no_white (c ∷ b) r h e = false≢true (sym e ∙ h.0)

pub gap_none : (cs : List ℕ) → Ends part.White cs → Nothing (λ l r. IsGapTail l) cs
gap_none cs ends l r g e = no_white g.0 (92 ∷ r) g.1 (subst (Ends part.White) (e ∙ ap (λ z. z ++ r) g.2 ∙ append_assoc g.0 (92 ∷ []) r) ends)

pub gap_open : (cs rest : List ℕ) → Runs part.White cs rest → ((r : List ℕ) → rest ≡ 92 ∷ r → ⊥) → Nothing (λ l r. IsGapTail l) cs
gap_open cs rest run never l r g e = never r (gap_run run.0 rest l r run.2 run.3 g (sym run.1 ∙ e)).1

pub gap_some : (cs rest after : List ℕ) (c : ℕ) → (Ends part.White cs → ⊥) → Runs part.White cs rest → rest ≡ c ∷ after → c ≡ 92 → IsLongest (λ l r. IsGapTail l) cs after
gap_some cs rest after c never run e k =
    let back : rest ≡ 92 ∷ after = e ∙ ap (λ z. z ∷ after) k in
    record {
      text = run.0 ++ 92 ∷ [];
      front = run.1 ∙ ap (λ z. run.0 ++ z) back ∙ sym (append_assoc run.0 (92 ∷ []) after);
      is = (run.0, many_of part.White run.0 rest run.2 run.3 (λ x. never (subst (Ends part.White) (sym run.1) x)), refl);
      longest = λ l r g f. omega (arith, ap length g.2, ap length (gap_run run.0 rest l r run.2 run.3 g (sym run.1 ∙ f)).0, length-append {A = ℕ} g.0 (92 ∷ []), length-append {A = ℕ} run.0 (92 ∷ []));
    }

-- pieces in turn
pub pieces_same : (ps qs : List Piece) (a b : List ℕ) → ArePieces ps a → ArePieces qs b → flat_map piece ps ++ a ≡ flat_map piece qs ++ b
    → Nothing IsPieceText a → Nothing IsPieceText b → (flat_map piece ps ≡ flat_map piece qs) × (a ≡ b)
pieces_same [] [] a b h k e n m = (refl, e)
pieces_same [] (q ∷ qs) a b h k e n m = absurd (n (piece q) (flat_map piece qs ++ b) (q, k.0, refl) (e ∙ append_assoc (piece q) (flat_map piece qs) b))
pieces_same (p ∷ ps) [] a b h k e n m = absurd (m (piece p) (flat_map piece ps ++ a) (p, h.0, refl) (sym e ∙ append_assoc (piece p) (flat_map piece ps) a))
pieces_same (p ∷ ps) (q ∷ qs) a b h k e n m =
    let f : piece p ++ (flat_map piece ps ++ a) ≡ piece q ++ (flat_map piece qs ++ b) = sym (append_assoc (piece p) (flat_map piece ps) a) ∙ e ∙ append_assoc (piece q) (flat_map piece qs) b in
    let g = piece_same p q (flat_map piece ps ++ a) (flat_map piece qs ++ b) h.0 k.0 f in
    let t = pieces_same ps qs a b h.1 k.1 (append_cancel_left (piece q) _ _ (ap (λ z. z ++ (flat_map piece ps ++ a)) (sym g) ∙ f)) n m in
    (ap (λ z. z ++ flat_map piece ps) g ∙ ap (λ z. piece q ++ z) t.0, t.1)

-- the state of the loop
abbrev pub Turns : List ℕ → List ℕ → Type 0
Turns cs rest = (ps : List Piece) × ArePieces ps rest × (cs ≡ flat_map piece ps ++ rest)

map_push : (ps : List Piece) (p : Piece) → flat_map piece (ps ++ p ∷ []) ≡ flat_map piece ps ++ piece p
map_push [] p = append-nil (piece p)
map_push (x ∷ ps) p = ap (λ z. piece x ++ z) (map_push ps p) ∙ sym (append_assoc (piece x) (flat_map piece ps) (piece p))

all_push : (ps : List Piece) (p : Piece) (next : List ℕ) → ArePieces ps (piece p ++ next) → IsPiece p next → ArePieces (ps ++ p ∷ []) next
all_push [] p next h k = (k, tt)
all_push (x ∷ ps) p next h k =
    (subst (IsPiece x) (sym (append_assoc (flat_map piece ps) (piece p) next) ∙ ap (λ z. z ++ next) (sym (map_push ps p))) h.0, all_push ps p next h.1 k)

pub turn : (cs rest next : List ℕ) → Turns cs rest → IsLongest IsPieceText rest next → Turns cs next
turn cs rest next g h =
    let p = h.is.0 in
    let f : rest ≡ piece p ++ next = h.front ∙ ap (λ z. z ++ next) h.is.2 in (
      g.0 ++ p ∷ [],
      all_push g.0 p next (subst (ArePieces g.0) f g.1) h.is.1,
      g.2 ∙ ap (λ z. flat_map piece g.0 ++ z) f ∙ sym (append_assoc (flat_map piece g.0) (piece p) next) ∙ ap (λ z. z ++ next) (sym (map_push g.0 p)),
    )

long : (p : Piece) → 0 < length (piece p)
long (Plain c) = omega arith
long (Escape c) = omega arith
long (Gap b) = omega arith

pub shrinks : (rest next : List ℕ) → IsLongest IsPieceText rest next → length next < length rest
shrinks rest next h = omega (arith, ap length h.front, length-append h.text next, ap length h.is.2, long h.is.0)

-- of what follows an escape the first character alone counts
ends_alike : (p : Part) (m s t : List ℕ) (d : ℕ) → Ends p (m ++ d ∷ s) → Ends p (m ++ d ∷ t)
ends_alike p [] s t d h = h
ends_alike p (c ∷ m) s t d h = h

differs_alike : (x : ℕ) (m s t : List ℕ) (d : ℕ) → Differs x (m ++ d ∷ s) → Differs x (m ++ d ∷ t)
differs_alike x [] s t d h = h
differs_alike x (c ∷ m) s t d h = h

numeral_alike : (b : Base) (l m s t : List ℕ) (d : ℕ) → IsNumeral b l (m ++ d ∷ s) → IsNumeral b l (m ++ d ∷ t)
numeral_alike b l m s t d h = (h.0, ends_alike (digits_of b) m s t d h.1, h.2)

ascii_alike : (l m s t : List ℕ) (d : ℕ) → IsAscii l (m ++ d ∷ s) → IsAscii l (m ++ d ∷ t)
ascii_alike [] m s t d h = h
ascii_alike (a ∷ []) m s t d h = h
ascii_alike (a ∷ b ∷ []) m s t d h = (h.0, λ p q. differs_alike 72 m s t d (h.1 p q))
ascii_alike (a ∷ b ∷ c ∷ []) m s t d h = h
ascii_alike (a ∷ b ∷ c ∷ e ∷ l) m s t d h = h

shape_alike : (k : Shape) (c : ℕ) (l m s t : List ℕ) (d : ℕ) → IsEscapeOf k c l (m ++ d ∷ s) → IsEscapeOf k c l (m ++ d ∷ t)
shape_alike Char c l m s t d h = h
shape_alike Control c l m s t d h = h
shape_alike Ascii c l m s t d h = ascii_alike (c ∷ l) m s t d h
shape_alike InDecimal c l m s t d h = numeral_alike Decimal (c ∷ l) m s t d h
shape_alike InOctal c l m s t d h = (h.0, numeral_alike Octal l m s t d h.1)
shape_alike InHexadecimal c l m s t d h = (h.0, numeral_alike Hexadecimal l m s t d h.1)

pub escape_alike : (l m s t : List ℕ) (d : ℕ) → IsEscape l (m ++ d ∷ s) → IsEscape l (m ++ d ∷ t)
escape_alike l m s t d h = (h.0, h.1, h.2, h.3, shape_alike h.3 h.0 h.1 m s t d h.4)

piece_alike : (p : Piece) (m s t : List ℕ) (d : ℕ) → IsPiece p (m ++ d ∷ s) → IsPiece p (m ++ d ∷ t)
piece_alike (Plain c) m s t d h = h
piece_alike (Escape e) m s t d h = escape_alike e m s t d h
piece_alike (Gap b) m s t d h = h

pieces_alike : (ps : List Piece) (s t : List ℕ) (d : ℕ) → ArePieces ps (d ∷ s) → ArePieces ps (d ∷ t)
pieces_alike [] s t d h = tt
pieces_alike (p ∷ ps) s t d h = (piece_alike p (flat_map piece ps) s t d h.0, pieces_alike ps s t d h.1)

-- a string
quote_stuck : (r : List ℕ) → Nothing IsPieceText (34 ∷ r)
quote_stuck r l s h e = ⊎_elim (λ k. k.2 refl) (λ k. omega (arith, k.0)) (by_front (34 ∷ r) r 34 refl h.0 s h.1 (e ∙ ap (λ z. z ++ s) h.2))

text_inside : (cs inside rest l r : List ℕ) (c : ℕ) → cs ≡ c ∷ inside → (g : IsPieces inside rest) → (t : IsText l) → cs ≡ l ++ r → (c ≡ 34) × (flat_map piece g.0 ≡ flat_map piece t.0) × (rest ≡ 34 ∷ r)
text_inside cs inside rest l r c e g t f =
    let w : c ∷ inside ≡ (34 ∷ (flat_map piece t.0 ++ 34 ∷ [])) ++ r = sym e ∙ f ∙ ap (λ z. z ++ r) t.2 in
    let i : inside ≡ (flat_map piece t.0 ++ 34 ∷ []) ++ r = cc in
    let s = pieces_same g.0 t.0 rest (34 ∷ r) g.1 (pieces_alike t.0 [] r 34 t.1) (sym g.2 ∙ i ∙ append_assoc (flat_map piece t.0) (34 ∷ []) r) g.3 (quote_stuck r) in
    ((let k : c ≡ 34 = cc in k), s.0, s.1)

pub text_end : (cs : List ℕ) → cs ≡ [] → Nothing (λ l r. IsText l) cs
text_end cs e l r t f = let w : [] ≡ (34 ∷ (flat_map piece t.0 ++ 34 ∷ [])) ++ r = sym e ∙ f ∙ ap (λ z. z ++ r) t.2 in cc

module _ (cs inside : List ℕ) (c : ℕ) (e : cs ≡ c ∷ inside) where
  pub text_other : (c ≡ 34 → ⊥) → Nothing (λ l r. IsText l) cs
  text_other never l r t f = never (let w : c ∷ inside ≡ (34 ∷ (flat_map piece t.0 ++ 34 ∷ [])) ++ r = sym e ∙ f ∙ ap (λ z. z ++ r) t.2 in let k : c ≡ 34 = cc in k)

  pub text_open : (rest : List ℕ) → IsPieces inside rest → ((r : List ℕ) → rest ≡ 34 ∷ r → ⊥) → Nothing (λ l r. IsText l) cs
  text_open rest g never l r t f = never r (text_inside cs inside rest l r c e g t f).2

  pub text_some : (rest after : List ℕ) (d : ℕ) → c ≡ 34 → IsPieces inside rest → rest ≡ d ∷ after → d ≡ 34 → IsLongest (λ l r. IsText l) cs after
  text_some rest after d k g f q = record {
    text = 34 ∷ (flat_map piece g.0 ++ 34 ∷ []);
    front = e ∙ ap (λ z. z ∷ inside) k ∙ ap (λ z. 34 ∷ z) (g.2 ∙ ap (λ z. flat_map piece g.0 ++ z) (f ∙ ap (λ z. z ∷ after) q) ∙ sym (append_assoc (flat_map piece g.0) (34 ∷ []) after));
    is = (g.0, pieces_alike g.0 after [] 34 (subst (ArePieces g.0) (f ∙ ap (λ z. z ∷ after) q) g.1), refl);
    longest = λ l r t h. omega (arith, ap length t.2, ap length (text_inside cs inside rest l r c e g t h).1, length-append {A = ℕ} (flat_map piece g.0) (34 ∷ []), length-append {A = ℕ} (flat_map piece t.0) (34 ∷ []));
  }

-- the next character isn't b
pub not_empty : (b : ℕ) (rest : List ℕ) → rest ≡ [] → (r : List ℕ) → rest ≡ b ∷ r → ⊥
not_empty b rest e r f = let k = sym e ∙ f in cc

pub not_other : (b : ℕ) (rest after : List ℕ) (c : ℕ) → rest ≡ c ∷ after → (c ≡ b → ⊥) → (r : List ℕ) → rest ≡ b ∷ r → ⊥
not_other b rest after c e never r f = never (let k : c ≡ b = cc in k)
