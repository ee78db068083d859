-- Tokens are read as a header exactly where they begin with one, a reading stops exactly at the first token with which
-- they begin none, and exactly where they end too early.
use Rattle.std.proofs.Common.{◌≡◌, ◌⊎◌, inl, inr, ℕ, suc, ◌<◌, [], ◌∷◌, ◌++◌, length, length-append, refl, ap, sym, subst, ◌∙◌, arith, append_assoc}
use Rattle.std.specs.Prelude.{Result, Ok, Err, IfOk}
use Rattle.std.specs.Borrow.{Bor}
use Rattle.mk_base.specs.declared.memory.NoMemory.{NoMemory}
use Rattle.mk_base.specs.declared.place.Pos.{Pos}
use Rattle.hs_syntax.specs.declared.header.Header.{Header}
use Rattle.hs_syntax.specs.declared.token.Token.{Token}
use Rattle.hs_header.specs.declared.expected.Stop.{Stop}
use Rattle.hs_header.specs.declared.expected.Stop.TheVariants.{At, End}
use Rattle.hs_header.specs.Grammar.{IsHeader, Begins, IsLeftAt, IsCut}
use Rattle.hs_header.specs.Readers.{Answer, seen, header_within, header_at}
use Rattle.hs_header.proofs.Told.{Tokens, Told, ToldOk, ToldAt}
use Rattle.hs_header.proofs.HeadersTold.{Wh, Fr, header_tells}
use Rattle.hs_header.proofs.Complete.{header_ok}

abbrev Tellings : Tokens → Answer Header → Type 0
Tellings a o = Told (Wh IsHeader) (Fr IsHeader) header_within a o

tells : (a : Tokens) → Tellings a (header_at a)
unfolding header_at
tells a = header_tells (suc (length a)) a (omega arith)

tells_of : (a : Tokens) (o : Answer Header) → header_at a ≡ o → Tellings a o
tells_of a o e = subst (Tellings a) e (tells a)

-- read
pub derived : (a b : Tokens) (h : Header) → IsHeader a b h → header_at a ≡ Ok (h, b)
unfolding header_at
derived a b h d = header_ok a b h d (suc (length a)) (omega arith)

pub read : (a b : Tokens) (h : Header) → header_at a ≡ Ok (h, b) → IsHeader a b h
read a b h e = let u : ToldOk (Wh IsHeader) header_within a h b = tells_of a (Ok (h, b)) e in subst (λ z. IsHeader z b h) (sym u.1) u.2

pub shorter_begins : (x y : Tokens) → Begins (x ++ y) → Begins x
shorter_begins x y (rest, b, h, d) = (y ++ rest, b, h, subst (λ z. IsHeader z b h) (append_assoc x y rest) d)

front_begins : (p : Tokens) → Fr IsHeader p → Begins p
front_begins p (c, h, d) = (c, [], h, d)

-- where a reading stops, no header begins with that token
stopped : (p : Tokens) (t : Token) (at : Pos) → ((m : ℕ) (z : Tokens) → length p < m → header_within m (p ++ t ∷ z) ≡ Err (At at)) → Begins (p ++ t ∷ []) → ⊥
stopped p t at k (rest, b, h, d) =
    let same : p ++ t ∷ [] ++ rest ≡ p ++ t ∷ rest = append_assoc p (t ∷ []) rest in
    let l : length p < suc (length (p ++ t ∷ rest)) = omega (arith, length-append p (t ∷ rest)) in
    let one : header_within (suc (length (p ++ t ∷ rest))) (p ++ t ∷ rest) ≡ Ok (h, b) = header_ok (p ++ t ∷ rest) b h (subst (λ z. IsHeader z b h) same d) (suc (length (p ++ t ∷ rest))) (omega arith) in
    let two : header_within (suc (length (p ++ t ∷ rest))) (p ++ t ∷ rest) ≡ Err (At at) = k (suc (length (p ++ t ∷ rest))) rest l in
    cc

pub left : (a : Tokens) (at : Pos) → header_at a ≡ Err (At at) → IsLeftAt a at
left a at e =
    let u : ToldAt (Fr IsHeader) header_within a at = tells_of a (Err (At at)) e in
    (u.0, u.2, u.1, u.3, u.4, front_begins u.0 u.5, stopped u.0 u.1 at u.6)

pub cut : (a : Tokens) → header_at a ≡ Err End → IsCut a
cut a e = (front_begins a (tells_of a (Err End) e), λ b h d. let f : header_at a ≡ Ok (h, b) = derived a b h d in cc)

-- what one header excludes
header_begins : (p s b : Tokens) (t : Token) (a : Tokens) (h : Header) → a ≡ p ++ t ∷ s → IsHeader a b h → Begins (p ++ t ∷ [])
header_begins p s b t a h e d = (s, b, h, subst (λ z. IsHeader z b h) (e ∙ sym (append_assoc p (t ∷ []) s)) d)

all_begin : (p s : Tokens) (t : Token) (a : Tokens) → a ≡ p ++ t ∷ s → Begins a → Begins (p ++ t ∷ [])
all_begin p s t a e d = shorter_begins (p ++ t ∷ []) s (subst Begins (e ∙ sym (append_assoc p (t ∷ []) s)) d)

pub left_no_header : (a b : Tokens) (h : Header) (at : Pos) → IsLeftAt a at → IsHeader a b h → ⊥
left_no_header a b h at (p, s, t, e, i, f, g) d = g (header_begins p s b t a h e d)

pub left_begins_not : (a : Tokens) (at : Pos) → IsLeftAt a at → Begins a → ⊥
left_begins_not a at (p, s, t, e, i, f, g) d = g (all_begin p s t a e d)

-- of two places in a list one stands first, or they are the same
abbrev Order : Tokens → Token → Tokens → Token → Type 0
Order p t q u = (t ≡ u) ⊎ (((w : Tokens) × (q ≡ p ++ t ∷ w)) ⊎ ((w : Tokens) × (p ≡ q ++ u ∷ w)))

order_more : (x y : Token) (p q : Tokens) (t u : Token) → x ≡ y → Order p t q u → Order (x ∷ p) t (y ∷ q) u
order_more x y p q t u e (inl f) = inl f
order_more x y p q t u e (inr (inl (w, f))) = inr (inl (w, ap (λ z. y ∷ z) f ∙ ap (λ v. v ∷ (p ++ t ∷ w)) (sym e)))
order_more x y p q t u e (inr (inr (w, f))) = inr (inr (w, ap (λ z. x ∷ z) f ∙ ap (λ v. v ∷ (q ++ u ∷ w)) e))

order : (p q s r : Tokens) (t u : Token) → p ++ t ∷ s ≡ q ++ u ∷ r → Order p t q u
order [] [] s r t u e = inl (let f : t ≡ u = cc in f)
order [] (y ∷ q) s r t u e = inr (inl (q, let f : t ≡ y = cc in ap (λ v. v ∷ q) (sym f)))
order (x ∷ p) [] s r t u e = inr (inr (p, let f : x ≡ u = cc in ap (λ v. v ∷ p) f))
order (x ∷ p) (y ∷ q) s r t u e = order_more x y p q t u (let f : x ≡ y = cc in f) (order p q s r t u (let f : p ++ t ∷ s ≡ q ++ u ∷ r = cc in f))

first_of : (p q w : Tokens) (t : Token) → q ≡ p ++ t ∷ w → Begins q → Begins (p ++ t ∷ [])
first_of p q w t e d = all_begin p w t q e d

-- there is one such place
pub left_once : (a : Tokens) (at to : Pos) → IsLeftAt a at → IsLeftAt a to → at ≡ to
left_once a at to (p, s, t, e, i, f, g) (q, r, u, d, j, h, k) =
    elim (order p q s r t u (sym e ∙ d)) [
      | inl x ↦ sym i ∙ ap (λ (v : Token). v.at) x ∙ j
      | inr o ↦ elim o [ inl x ↦ absurd (g (first_of p q x.0 t x.1 h)) | inr x ↦ absurd (k (first_of q p x.0 u x.1 f)) ]
    ]

-- the other way round
left_by : (a : Tokens) (at : Pos) → IsLeftAt a at → (o : Answer Header) → header_at a ≡ o → header_at a ≡ Err (At at)
left_by a at x (Ok y) e = absurd (left_no_header a y.1 y.0 at x (read a y.1 y.0 e))
left_by a at x (Err (At to)) e = e ∙ ap (λ p. Err (At p)) (left_once a to at (left a to e) x)
left_by a at x (Err End) e = absurd (left_begins_not a at x (cut a e).0)

pub left_is : (a : Tokens) (at : Pos) → IsLeftAt a at → header_at a ≡ Err (At at)
left_is a at x = left_by a at x (header_at a) refl

cut_by : (a : Tokens) → IsCut a → (o : Answer Header) → header_at a ≡ o → header_at a ≡ Err End
cut_by a x (Ok y) e = absurd (x.1 y.1 y.0 (read a y.1 y.0 e))
cut_by a x (Err (At to)) e = absurd (left_begins_not a to (left a to e) x.0)
cut_by a x (Err End) e = e

pub cut_is : (a : Tokens) → IsCut a → header_at a ≡ Err End
cut_is a x = cut_by a x (header_at a) refl

-- more tokens behind those that decide it
pub goes_on : (a : Tokens) (more : Tokens) (h : Header) (t : Token) (b : Tokens) → header_at a ≡ Ok (h, t ∷ b) → header_at (a ++ more) ≡ Ok (h, t ∷ (b ++ more))
unfolding header_at
goes_on a more h t b e =
    let (p, d, g, k) : ToldOk (Wh IsHeader) header_within a h (t ∷ b) = tells_of a (Ok (h, t ∷ b)) e in
    let same : a ++ more ≡ p ++ t ∷ (b ++ more) = ap (λ z. z ++ more) d ∙ append_assoc p (t ∷ b) more in
    let l : length p < suc (length (a ++ more)) = omega (arith, ap length same, length-append p (t ∷ (b ++ more))) in
    ap (header_within (suc (length (a ++ more)))) same ∙ k (suc (length (a ++ more))) [] t b (b ++ more) refl l

pub stops_on : (a more : Tokens) (at : Pos) → header_at a ≡ Err (At at) → header_at (a ++ more) ≡ Err (At at)
unfolding header_at
stops_on a more at e =
    let (p, t, s, d, i, g, k) : ToldAt (Fr IsHeader) header_within a at = tells_of a (Err (At at)) e in
    let same : a ++ more ≡ p ++ t ∷ (s ++ more) = ap (λ z. z ++ more) d ∙ append_assoc p (t ∷ s) more in
    let l : length p < suc (length (a ++ more)) = omega (arith, ap length same, length-append p (t ∷ (s ++ more))) in
    ap (header_within (suc (length (a ++ more)))) same ∙ k (suc (length (a ++ more))) (s ++ more) l

-- and some tokens make them whole, up to the end
pub cut_front : (a : Tokens) → header_at a ≡ Err End → Fr IsHeader a
cut_front a e = tells_of a (Err End) e

-- The code's answers

abbrev Code : Type 0
Code = Result (Result (Header × Bor Tokens) Stop) NoMemory

pub header_of : (a : Tokens) (r : Code) → IfOk r (λ o. seen o ≡ header_at a) → IfOk r (λ o. IfOk o (λ p. IsHeader a p.1.now p.0))
header_of a (Ok (Ok p)) e = read a p.1.now p.0 (sym e)
header_of a (Ok (Err s)) e = tt
header_of a (Err x) e = tt

pub left_of : (a : Tokens) (r : Code) → IfOk r (λ o. seen o ≡ header_at a) → (at : Pos) → r ≡ Ok (Err (At at)) → IsLeftAt a at
left_of a (Ok (Ok p)) e at d = absurd (cc)
left_of a (Ok (Err s)) e at d = left a at (sym e ∙ ap Err (let f : s ≡ At at = cc in f))
left_of a (Err x) e at d = absurd (cc)

pub cut_of : (a : Tokens) (r : Code) → IfOk r (λ o. seen o ≡ header_at a) → r ≡ Ok (Err End) → IsCut a
cut_of a (Ok (Ok p)) e d = absurd (cc)
cut_of a (Ok (Err s)) e d = cut a (sym e ∙ ap Err (let f : s ≡ End = cc in f))
cut_of a (Err x) e d = absurd (cc)
