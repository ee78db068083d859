-- Escapes.
use Rattle.std.proofs.Common.{◌≡◌, ⊎_elim, ℕ, ◌+◌, ◌≤◌, ◌<◌, Bool, true, false, List, [], ◌∷◌, ◌++◌, length, refl, ap, sym, ◌∙◌, subst, arith, append_assoc}
use Rattle.std.specs.Prelude.{min, not, ◌==◌, ◌||◌, ◌&&◌, Option, Some, None, if◌then◌else◌}
use Rattle.std.specs.Borrow.{Bor}
use Rattle.std.proofs.lemmas.Bool.{false≢true, cond-true, eqb-true, and_parts, or_cases}
use Rattle.std.proofs.lemmas.Bool.Decides.{nat_tests}
use Rattle.source_text.specs.Characters.{characters}
use Rattle.hs_lex.specs.declared.class.Part.{Part}
use Rattle.hs_lex.specs.declared.class.Part.TheVariants as part
use Rattle.hs_lex.specs.declared.number.Base.{Base}
use Rattle.hs_lex.specs.declared.number.Base.TheVariants.{Decimal, Octal, Hexadecimal}
use Rattle.hs_lex.specs.Classes.{in_part, between}
use Rattle.hs_lex.specs.Reading.{AllIn, Ends, IsLongest, Nothing, Reads}
use Rattle.hs_lex.specs.Numbers.{IsMany, digits_of}
use Rattle.hs_lex.specs.Quoted.{times, digit_value, value_from, IsNumeral, HasValue, is_char_escape, IsControl, IsAscii, pairs, triples, is_two, one_of_two, is_three, one_of_three, Differs, Shape, Char, Control, Ascii, InDecimal, InOctal, InHexadecimal, IsEscapeOf, IsEscape}
use Rattle.hs_lex.proofs.Runs.{all_push, same_run}
use Rattle.hs_lex.proofs.Numbers.{many_all}

-- values
value_push : (b : Base) (v : ℕ) (t : List ℕ) (y : ℕ) → value_from b v (t ++ y ∷ []) ≡ times b (value_from b v t) + digit_value y
unfolding value_from
value_push b v [] y = refl
value_push b v (x ∷ t) y = value_push b (times b v + digit_value x) t y

capped : (b : Base) (v x d : ℕ) → v ≡ min 0x110000 x → min 0x110000 (times b v + d) ≡ min 0x110000 (times b x + d)
capped Decimal v x d e = omega arith
capped Octal v x d e = omega arith
capped Hexadecimal v x d e = omega arith

-- the state of the loop
abbrev pub Valued : Base → List ℕ → List ℕ → ℕ → Type 0
Valued b cs rest v = (t : List ℕ) × (cs ≡ t ++ rest) × AllIn (digits_of b) t × (v ≡ min 0x110000 (value_from b 0 t))

pub value_start : (b : Base) (cs : List ℕ) → Valued b cs cs 0
unfolding value_from
value_start b cs = ([], refl, tt, refl)

pub value_small : (b : Base) (cs rest : List ℕ) (v : ℕ) → Valued b cs rest v → v ≤ 0x110000
value_small b cs rest v g = omega (arith, g.3)

pub value_more : (b : Base) (p : Part) (cs rest next : List ℕ) (y v w : ℕ) → p ≡ digits_of b → Valued b cs rest v → rest ≡ y ∷ next → in_part p y ≡ true → w ≡ min 0x110000 (times b v + digit_value y) → Valued b cs next w
value_more b p cs rest next y v w q g e k h = (
  g.0 ++ y ∷ [],
  g.1 ∙ ap (λ r. g.0 ++ r) e ∙ sym (append_assoc g.0 (y ∷ []) next),
  all_push (digits_of b) g.0 y g.2 (subst (λ x. in_part x y ≡ true) q k),
  h ∙ capped b v (value_from b 0 g.0) (digit_value y) g.3 ∙ ap (min 0x110000) (sym (value_push b 0 g.0 y)),
)

pub value_stops : (b : Base) (p : Part) (cs rest next : List ℕ) (y v : ℕ) → p ≡ digits_of b → Valued b cs rest v → rest ≡ y ∷ next → in_part p y ≡ false → HasValue b cs rest v
value_stops b p cs rest next y v q g e k = (g.0, g.1, g.2, subst (Ends (digits_of b)) (sym e) (subst (λ x. in_part x y ≡ false) q k), g.3)

pub value_end : (b : Base) (cs rest : List ℕ) (v : ℕ) → Valued b cs rest v → rest ≡ [] → HasValue b cs rest v
value_end b cs rest v g e = (g.0, g.1, g.2, subst (Ends (digits_of b)) (sym e) tt, g.3)

-- numerals
pub numeral_same : (b : Base) (l r m s : List ℕ) → IsNumeral b l r → IsNumeral b m s → l ++ r ≡ m ++ s → l ≡ m
numeral_same b l r m s x y e = (same_run (digits_of b) l r m s (many_all (digits_of b) l r x.0) x.1 (many_all (digits_of b) m s y.0) y.1 e).0

no_front : (p : Part) (l r : List ℕ) → IsMany p l → Ends p (l ++ r) → ⊥
no_front p [] r h e = h
no_front p (c ∷ l) r h e = false≢true (sym e ∙ h.0)

pub many_of : (p : Part) (t rest : List ℕ) → AllIn p t → Ends p rest → (Ends p (t ++ rest) → ⊥) → IsMany p t
many_of p [] rest h e never = never e
many_of p (c ∷ t) rest h e never = h

pub numeral_other : (b : Base) (p : Part) (cs : List ℕ) → p ≡ digits_of b → Ends p cs → Nothing (IsNumeral b) cs
numeral_other b p cs q e l r x f = no_front (digits_of b) l r x.0 (subst (Ends (digits_of b)) f (subst (λ z. Ends z cs) q e))

value_of : (b : Base) (cs rest l r : List ℕ) (v : ℕ) (g : HasValue b cs rest v) → IsNumeral b l r → cs ≡ l ++ r → g.0 ≡ l
value_of b cs rest l r v g x f = (same_run (digits_of b) g.0 rest l r g.2 g.3 (many_all (digits_of b) l r x.0) x.1 (sym g.1 ∙ f)).0

pub numeral_over : (b : Base) (cs rest : List ℕ) (v : ℕ) → HasValue b cs rest v → 0x10ffff < v → Nothing (IsNumeral b) cs
numeral_over b cs rest v g over l r x f = omega (arith, g.4, x.2, ap (value_from b 0) (value_of b cs rest l r v g x f))

pub numeral_some : (b : Base) (p : Part) (cs rest : List ℕ) (v : ℕ) → p ≡ digits_of b → (Ends p cs → ⊥) → HasValue b cs rest v → v ≤ 0x10ffff → IsLongest (IsNumeral b) cs rest
numeral_some b p cs rest v q never g within = record {
  text = g.0;
  front = g.1;
  is = (many_of (digits_of b) g.0 rest g.2 g.3 (λ e. never (subst (λ z. Ends z cs) (sym q) (subst (Ends (digits_of b)) (sym g.1) e))), g.3, omega (arith, g.4));
  longest = λ l r x f. omega (arith, ap length (value_of b cs rest l r v g x f));
}

-- control escapes
pub control_end : (cs : List ℕ) → cs ≡ [] → Nothing (λ l r. IsControl l) cs
control_end cs e l r h f = let w : [] ≡ (h.0 ∷ []) ++ r = sym e ∙ f ∙ ap (λ z. z ++ r) h.1 in cc

module _ (cs next : List ℕ) (c : ℕ) (e : cs ≡ c ∷ next) where
  control_is : (l r : List ℕ) (h : IsControl l) → cs ≡ l ++ r → c ≡ h.0
  control_is l r h f = let w : c ∷ next ≡ (h.0 ∷ []) ++ r = sym e ∙ f ∙ ap (λ z. z ++ r) h.1 in let k : c ≡ h.0 = cc in k

  pub control_other : between 64 95 c ≡ false → Nothing (λ l r. IsControl l) cs
  control_other n l r h f = false≢true (sym n ∙ ap (between 64 95) (control_is l r h f) ∙ h.2)

  pub control_some : between 64 95 c ≡ true → IsLongest (λ l r. IsControl l) cs next
  control_some y = record { text = c ∷ []; front = e; is = (c, refl, y); longest = λ l r h f. omega (arith, ap length h.1) }

-- what holds of all names holds of each
on_two : (ℕ → ℕ → Bool) → List ℕ → Bool
on_two f [] = true
on_two f (x ∷ []) = true
on_two f (x ∷ y ∷ []) = f x y
on_two f (x ∷ y ∷ z ∷ t) = true

all_two : (ℕ → ℕ → Bool) → List (List ℕ) → Bool
all_two f [] = true
all_two f (t ∷ ts) = on_two f t && all_two f ts

one_two : (f : ℕ → ℕ → Bool) (t : List ℕ) (a b : ℕ) → is_two t a b ≡ true → on_two f t ≡ true → f a b ≡ true
unfolding on_two
one_two f [] a b h k = absurd (false≢true h)
one_two f (x ∷ []) a b h k = absurd (false≢true h)
one_two f (x ∷ y ∷ []) a b h k =
    let p = and_parts (a == x) (b == y) h in
    let ea : a ≡ x = eqb-true a x p.0 in
    let eb : b ≡ y = eqb-true b y p.1 in
    ap (λ z. f z b) ea ∙ ap (f x) eb ∙ k
one_two f (x ∷ y ∷ z ∷ t) a b h k = absurd (false≢true h)

from_two : (f : ℕ → ℕ → Bool) (ts : List (List ℕ)) (a b : ℕ) → all_two f ts ≡ true → one_of_two ts a b ≡ true → f a b ≡ true
unfolding all_two
from_two f [] a b k h = absurd (false≢true h)
from_two f (t ∷ []) a b k h = one_two f t a b h (and_parts (on_two f t) true k).0
from_two f (t ∷ u ∷ ts) a b k h =
    let p = and_parts (on_two f t) (all_two f (u ∷ ts)) k in
    ⊎_elim (λ x. one_two f t a b x p.0) (λ x. from_two f (u ∷ ts) a b p.1 x) (or_cases (is_two t a b) (one_of_two (u ∷ ts) a b) h)

on_three : (ℕ → ℕ → ℕ → Bool) → List ℕ → Bool
on_three f [] = true
on_three f (x ∷ []) = true
on_three f (x ∷ y ∷ []) = true
on_three f (x ∷ y ∷ z ∷ []) = f x y z
on_three f (x ∷ y ∷ z ∷ w ∷ t) = true

all_three : (ℕ → ℕ → ℕ → Bool) → List (List ℕ) → Bool
all_three f [] = true
all_three f (t ∷ ts) = on_three f t && all_three f ts

one_three : (f : ℕ → ℕ → ℕ → Bool) (t : List ℕ) (a b c : ℕ) → is_three t a b c ≡ true → on_three f t ≡ true → f a b c ≡ true
unfolding on_three
one_three f [] a b c h k = absurd (false≢true h)
one_three f (x ∷ []) a b c h k = absurd (false≢true h)
one_three f (x ∷ y ∷ []) a b c h k = absurd (false≢true h)
one_three f (x ∷ y ∷ z ∷ []) a b c h k =
    let p = and_parts (a == x) (b == y && c == z) h in
    let q = and_parts (b == y) (c == z) p.1 in
    let ea : a ≡ x = eqb-true a x p.0 in
    let eb : b ≡ y = eqb-true b y q.0 in
    let ec : c ≡ z = eqb-true c z q.1 in
    ap (λ w. f w b c) ea ∙ ap (λ w. f x w c) eb ∙ ap (f x y) ec ∙ k
one_three f (x ∷ y ∷ z ∷ w ∷ t) a b c h k = absurd (false≢true h)

from_three : (f : ℕ → ℕ → ℕ → Bool) (ts : List (List ℕ)) (a b c : ℕ) → all_three f ts ≡ true → one_of_three ts a b c ≡ true → f a b c ≡ true
unfolding all_three
from_three f [] a b c k h = absurd (false≢true h)
from_three f (t ∷ []) a b c k h = one_three f t a b c h (and_parts (on_three f t) true k).0
from_three f (t ∷ u ∷ ts) a b c k h =
    let p = and_parts (on_three f t) (all_three f (u ∷ ts)) k in
    ⊎_elim (λ x. one_three f t a b c x p.0) (λ x. from_three f (u ∷ ts) a b c p.1 x) (or_cases (is_three t a b c) (one_of_three (u ∷ ts) a b c) h)

large_two : (a b : ℕ) → one_of_two pairs a b ≡ true → between 65 90 a ≡ true
unfolding all_two on_two
large_two a b h = from_two (λ a b. between 65 90 a) pairs a b refl h

large_three : (a b c : ℕ) → one_of_three triples a b c ≡ true → between 65 90 a ≡ true
unfolding all_three on_three
large_three a b c h = from_three (λ a b c. between 65 90 a) triples a b c refl h

-- of the names one alone begins another
soh : ℕ → ℕ → ℕ → Bool
soh a b c = not (one_of_two pairs a b) || (a == 83 && (b == 79 && c == 72))

goes_on : (a b c : ℕ) → one_of_three triples a b c ≡ true → soh a b c ≡ true
unfolding all_three on_three soh
goes_on a b c h = from_three soh triples a b c refl h

is_soh : (a b c : ℕ) → one_of_two pairs a b ≡ true → one_of_three triples a b c ≡ true → (a ≡ 83) × (b ≡ 79) × (c ≡ 72)
unfolding soh
is_soh a b c h k = ⊎_elim
    (λ n. absurd (false≢true (sym (ap not h) ∙ n)))
    (λ y. let p = and_parts (a == 83) (b == 79 && c == 72) y in let q = and_parts (b == 79) (c == 72) p.1 in (eqb-true a 83 p.0, eqb-true b 79 q.0, eqb-true c 72 q.1))
    (or_cases (not (one_of_two pairs a b)) (a == 83 && (b == 79 && c == 72)) (goes_on a b c k))

-- names
one_follows : (d : ℕ) (r next : List ℕ) (c : ℕ) → r ≡ c ∷ next → Differs d r → c ≡ d → ⊥
one_follows d [] next c e h k = cc
one_follows d (x ∷ r) next c e h k = h (let q : x ≡ c = cc in q ∙ k)

not_soh : (a b c : ℕ) (l r : List ℕ) → IsAscii (a ∷ b ∷ []) r → one_of_three triples a b c ≡ true → r ≡ c ∷ l → ⊥
not_soh a b c l r x k e = let s = is_soh a b c x.0 k in one_follows 72 r l c e (x.1 s.0 s.1) s.2

pub ascii_same : (l r m s : List ℕ) → IsAscii l r → IsAscii m s → l ++ r ≡ m ++ s → l ≡ m
ascii_same [] r m s x y e = absurd x
ascii_same (a ∷ []) r m s x y e = absurd x
ascii_same (a ∷ b ∷ c ∷ d ∷ l) r m s x y e = absurd x
ascii_same (a ∷ b ∷ []) r [] s x y e = absurd y
ascii_same (a ∷ b ∷ []) r (u ∷ []) s x y e = absurd y
ascii_same (a ∷ b ∷ []) r (u ∷ v ∷ w ∷ z ∷ m) s x y e = absurd y
ascii_same (a ∷ b ∷ c ∷ []) r [] s x y e = absurd y
ascii_same (a ∷ b ∷ c ∷ []) r (u ∷ []) s x y e = absurd y
ascii_same (a ∷ b ∷ c ∷ []) r (u ∷ v ∷ w ∷ z ∷ m) s x y e = absurd y
ascii_same (a ∷ b ∷ []) r (u ∷ v ∷ []) s x y e =
    let p : a ≡ u = cc in let q : b ≡ v = cc in ap (λ z. z ∷ b ∷ []) p ∙ ap (λ z. u ∷ z ∷ []) q
ascii_same (a ∷ b ∷ c ∷ []) r (u ∷ v ∷ w ∷ []) s x y e =
    let p : a ≡ u = cc in let q : b ≡ v = cc in let t : c ≡ w = cc in ap (λ z. z ∷ b ∷ c ∷ []) p ∙ ap (λ z. u ∷ z ∷ c ∷ []) q ∙ ap (λ z. u ∷ v ∷ z ∷ []) t
ascii_same (a ∷ b ∷ []) r (u ∷ v ∷ w ∷ []) s x y e =
    let p : u ≡ a = cc in let q : v ≡ b = cc in let t : r ≡ w ∷ s = cc in
    absurd (not_soh a b w s r x (subst (λ z. one_of_three triples a z w ≡ true) q (subst (λ z. one_of_three triples z v w ≡ true) p y)) t)
ascii_same (a ∷ b ∷ c ∷ []) r (u ∷ v ∷ []) s x y e =
    let p : a ≡ u = cc in let q : b ≡ v = cc in let t : s ≡ c ∷ r = cc in
    absurd (not_soh u v c r s y (subst (λ z. one_of_three triples u z c ≡ true) q (subst (λ z. one_of_three triples z b c ≡ true) p x)) t)

ascii_longest : (cs rest t : List ℕ) → IsAscii t rest → cs ≡ t ++ rest → IsLongest IsAscii cs rest
ascii_longest cs rest t h e = record { text = t; front = e; is = h; longest = λ l r x f. omega (arith, ap length (ascii_same t rest l r h x (sym e ∙ f))) }

pub ascii_end : (cs : List ℕ) → cs ≡ [] → Nothing IsAscii cs
ascii_end cs e l r x f = no_name l r x (sym f ∙ e)
  where
    no_name : (l r : List ℕ) → IsAscii l r → l ++ r ≡ [] → ⊥
    no_name [] r h e = h
    no_name (a ∷ l) r h e = cc

pub ascii_lone : (cs next : List ℕ) (a : ℕ) → cs ≡ a ∷ next → next ≡ [] → Nothing IsAscii cs
ascii_lone cs next a e z l r x f = no_name l r x (sym f ∙ e ∙ ap (λ t. a ∷ t) z)
  where
    no_name : (l r : List ℕ) → IsAscii l r → l ++ r ≡ a ∷ [] → ⊥
    no_name [] r h e = h
    no_name (x ∷ []) r h e = h
    no_name (x ∷ y ∷ l) r h e = cc

module _ (cs next after : List ℕ) (a b : ℕ) (e : cs ≡ a ∷ next) (g : next ≡ b ∷ after) where
  whole : cs ≡ a ∷ b ∷ after
  whole = e ∙ ap (λ t. a ∷ t) g

  pub three_some : (rest : List ℕ) (c : ℕ) → after ≡ c ∷ rest → one_of_three triples a b c ≡ true → IsLongest IsAscii cs rest
  three_some rest c f h = ascii_longest cs rest (a ∷ b ∷ c ∷ []) h (whole ∙ ap (λ t. a ∷ b ∷ t) f)

  pub two_some : one_of_two pairs a b ≡ true → (a ≡ 83 → b ≡ 79 → Differs 72 after) → IsLongest IsAscii cs after
  two_some h k = ascii_longest cs after (a ∷ b ∷ []) (h, k) whole

  no_name : one_of_two pairs a b ≡ false → ((c : ℕ) (rest : List ℕ) → after ≡ c ∷ rest → one_of_three triples a b c ≡ true → ⊥) → (l r : List ℕ) → IsAscii l r → a ∷ b ∷ after ≡ l ++ r → ⊥
  no_name two three [] r x f = x
  no_name two three (u ∷ []) r x f = x
  no_name two three (u ∷ v ∷ []) r x f =
      let p : u ≡ a = cc in let q : v ≡ b = cc in
      false≢true (sym two ∙ subst (λ z. one_of_two pairs a z ≡ true) q (subst (λ z. one_of_two pairs z v ≡ true) p x.0))
  no_name two three (u ∷ v ∷ w ∷ []) r x f =
      let p : u ≡ a = cc in let q : v ≡ b = cc in let t : after ≡ w ∷ r = cc in
      three w r t (subst (λ z. one_of_three triples a z w ≡ true) q (subst (λ z. one_of_three triples z v w ≡ true) p x))
  no_name two three (u ∷ v ∷ w ∷ d ∷ l) r x f = x

  pub name_none : one_of_two pairs a b ≡ false → ((c : ℕ) (rest : List ℕ) → after ≡ c ∷ rest → one_of_three triples a b c ≡ true → ⊥) → Nothing IsAscii cs
  name_none two three l r x f = no_name two three l r x (sym whole ∙ f)

-- the character behind two others
third_end : (a b : ℕ) (after : List ℕ) → after ≡ [] → (c : ℕ) (rest : List ℕ) → after ≡ c ∷ rest → one_of_three triples a b c ≡ true → ⊥
third_end a b after e c rest f h = let k = sym e ∙ f in cc

third_other : (a b d : ℕ) (after behind : List ℕ) → after ≡ d ∷ behind → one_of_three triples a b d ≡ false → (c : ℕ) (rest : List ℕ) → after ≡ c ∷ rest → one_of_three triples a b c ≡ true → ⊥
third_other a b d after behind e n c rest f h = let k : d ≡ c = cc in false≢true (sym n ∙ ap (one_of_three triples a b) k ∙ h)

pub third_differs : (a b : ℕ) (after : List ℕ) → ((c : ℕ) (rest : List ℕ) → after ≡ c ∷ rest → one_of_three triples a b c ≡ true → ⊥) → a ≡ 83 → b ≡ 79 → Differs 72 after
third_differs a b [] never p q = tt
third_differs a b (c ∷ rest) never p q = λ k. never c rest refl (subst (λ z. one_of_three triples z b c ≡ true) (sym p) (subst (λ z. one_of_three triples 83 z c ≡ true) (sym q) (subst (λ z. one_of_three triples 83 79 z ≡ true) (sym k) refl)))

pub within : (low high c : ℕ) → low ≤ c → c ≤ high → between low high c ≡ true
within low high c h k = grind (arith, nat_tests)

-- escapes: the first character tells the shape
shape_of : ℕ → Shape
shape_of c =
    if is_char_escape c then Char
    else if c == 94 then Control
    else if between 65 90 c then Ascii
    else if between 48 57 c then InDecimal
    else if c == 111 then InOctal
    else InHexadecimal

char_shape : (c : ℕ) → is_char_escape c ≡ true → shape_of c ≡ Char
unfolding shape_of
char_shape c h = cond-true _ _ _ h

control_shape : (c : ℕ) → c ≡ 94 → shape_of c ≡ Control
unfolding shape_of
control_shape c h = ap shape_of h

large_shape : (c : ℕ) → between 65 90 c ≡ true → shape_of c ≡ Ascii
unfolding shape_of
large_shape c h = grind (arith, nat_tests)

digit_shape : (c : ℕ) → in_part part.Digit c ≡ true → shape_of c ≡ InDecimal
unfolding shape_of in_part
digit_shape c h = grind (arith, nat_tests)

octal_shape : (c : ℕ) → c ≡ 111 → shape_of c ≡ InOctal
unfolding shape_of
octal_shape c h = ap shape_of h

hexadecimal_shape : (c : ℕ) → c ≡ 120 → shape_of c ≡ InHexadecimal
unfolding shape_of
hexadecimal_shape c h = ap shape_of h

pub ascii_large : (c : ℕ) (m r : List ℕ) → IsAscii (c ∷ m) r → between 65 90 c ≡ true
ascii_large c [] r h = absurd h
ascii_large c (b ∷ []) r h = large_two c b h.0
ascii_large c (b ∷ d ∷ []) r h = large_three c b d h
ascii_large c (b ∷ d ∷ x ∷ l) r h = absurd h

shape_is : (s : Shape) (c : ℕ) (m r : List ℕ) → IsEscapeOf s c m r → s ≡ shape_of c
shape_is Char c m r h = sym (char_shape c h.0)
shape_is Control c m r h = sym (control_shape c h.0)
shape_is Ascii c m r h = sym (large_shape c (ascii_large c m r h))
shape_is InDecimal c m r h = sym (digit_shape c h.0.0)
shape_is InOctal c m r h = sym (octal_shape c h.0)
shape_is InHexadecimal c m r h = sym (hexadecimal_shape c h.0)

same_of : (s : Shape) (c : ℕ) (m r n q : List ℕ) → IsEscapeOf s c m r → IsEscapeOf s c n q → m ++ r ≡ n ++ q → c ∷ m ≡ c ∷ n
same_of Char c m r n q x y e = ap (λ z. c ∷ z) (x.1 ∙ sym y.1)
same_of Control c m r n q x y e =
    let w : x.1.0 ∷ r ≡ y.1.0 ∷ q = ap (λ z. z ++ r) (sym x.1.1) ∙ e ∙ ap (λ z. z ++ q) y.1.1 in
    let k : x.1.0 ≡ y.1.0 = cc in
    ap (λ z. c ∷ z) (x.1.1 ∙ ap (λ z. z ∷ []) k ∙ sym y.1.1)
same_of Ascii c m r n q x y e = ascii_same (c ∷ m) r (c ∷ n) q x y (ap (λ z. c ∷ z) e)
same_of InDecimal c m r n q x y e = numeral_same Decimal (c ∷ m) r (c ∷ n) q x y (ap (λ z. c ∷ z) e)
same_of InOctal c m r n q x y e = ap (λ z. c ∷ z) (numeral_same Octal m r n q x.1 y.1 e)
same_of InHexadecimal c m r n q x y e = ap (λ z. c ∷ z) (numeral_same Hexadecimal m r n q x.1 y.1 e)

-- at most one escape stands at a place
pub escape_same : (l r m s : List ℕ) → IsEscape l r → IsEscape m s → l ++ r ≡ m ++ s → l ≡ m
escape_same l r m s x y e =
    let w : x.0 ∷ (x.1 ++ r) ≡ y.0 ∷ (y.1 ++ s) = ap (λ z. z ++ r) (sym x.2) ∙ e ∙ ap (λ z. z ++ s) y.2 in
    let c : y.0 ≡ x.0 = cc in
    let t : x.1 ++ r ≡ y.1 ++ s = cc in
    let j : y.3 ≡ x.3 = shape_is y.3 y.0 y.1 s y.4 ∙ ap shape_of c ∙ sym (shape_is x.3 x.0 x.1 r x.4) in
    x.2 ∙ same_of x.3 x.0 x.1 r y.1 s x.4 (subst (λ z. IsEscapeOf z x.0 y.1 s) j (subst (λ z. IsEscapeOf y.3 z y.1 s) c y.4)) t ∙ ap (λ z. z ∷ y.1) (sym c) ∙ sym y.2

pub escape_longest : (cs rest t : List ℕ) → IsEscape t rest → cs ≡ t ++ rest → IsLongest IsEscape cs rest
escape_longest cs rest t h e = record { text = t; front = e; is = h; longest = λ l r x f. omega (arith, ap length (escape_same t rest l r h x (sym e ∙ f))) }

pub escape_end : (cs : List ℕ) → cs ≡ [] → Nothing IsEscape cs
escape_end cs e l r x f = let w : [] ≡ x.0 ∷ (x.1 ++ r) = sym e ∙ f ∙ ap (λ z. z ++ r) x.2 in cc

module _ (cs next : List ℕ) (c : ℕ) (e : cs ≡ c ∷ next) where
  pub char_some : is_char_escape c ≡ true → IsLongest IsEscape cs next
  char_some h = escape_longest cs next (c ∷ []) (c, [], refl, Char, (h, refl)) e

  -- an answer about the one shape that can stand there
  module _ (s : Shape) (only : (j : Shape) (m r : List ℕ) → IsEscapeOf j c m r → j ≡ s) where
    inside : (l r : List ℕ) → IsEscape l r → cs ≡ l ++ r → (m : List ℕ) × IsEscapeOf s c m r × (next ≡ m ++ r)
    inside l r x f =
        let w : c ∷ next ≡ x.0 ∷ (x.1 ++ r) = sym e ∙ f ∙ ap (λ z. z ++ r) x.2 in
        let k : x.0 ≡ c = cc in
        let h : IsEscapeOf x.3 c x.1 r = subst (λ z. IsEscapeOf x.3 z x.1 r) k x.4 in
        (x.1, subst (λ z. IsEscapeOf z c x.1 r) (only x.3 x.1 r h) h, (let t : next ≡ x.1 ++ r = cc in t))

    -- read behind c
    pub behind : (L : List ℕ → List ℕ → Type 0) → ((m r : List ℕ) → L m r → IsEscapeOf s c m r) → ((m r : List ℕ) → IsEscapeOf s c m r → L m r) → (answer : Option (Bor (List ℕ))) → Reads L next answer → Reads IsEscape cs answer
    behind L into out (Some rest) h = escape_longest cs (characters rest.now) (c ∷ h.text) (c, h.text, refl, s, into h.text (characters rest.now) h.is) (e ∙ ap (λ z. c ∷ z) h.front)
    behind L into out None never = λ l r x f. let i = inside l r x f in never i.0 r (out i.0 r i.1) i.2

    -- read with c
    split : (t rest : List ℕ) (L : List ℕ → List ℕ → Type 0) → ((r : List ℕ) → L [] r → ⊥) → L t rest → cs ≡ t ++ rest → (m : List ℕ) × (t ≡ c ∷ m)
    split [] rest L some h f = absurd (some rest h)
    split (d ∷ t) rest L some h f = let k : d ≡ c = cc in (t, ap (λ z. z ∷ t) k)

    pub here : (L : List ℕ → List ℕ → Type 0) → ((r : List ℕ) → L [] r → ⊥) → ((m r : List ℕ) → L (c ∷ m) r → IsEscapeOf s c m r) → ((m r : List ℕ) → IsEscapeOf s c m r → L (c ∷ m) r) → (answer : Option (Bor (List ℕ))) → Reads L cs answer → Reads IsEscape cs answer
    here L some into out (Some rest) h =
        let p = split h.text (characters rest.now) L some h.is h.front in
        escape_longest cs (characters rest.now) h.text (c, p.0, p.1, s, into p.0 (characters rest.now) (subst (λ z. L z (characters rest.now)) p.1 h.is)) h.front
    here L some into out None never = λ l r x f. let i = inside l r x f in never (c ∷ i.0) r (out i.0 r i.1) (e ∙ ap (λ z. c ∷ z) i.2)

  by_shape : (s : Shape) → shape_of c ≡ s → (j : Shape) (m r : List ℕ) → IsEscapeOf j c m r → j ≡ s
  by_shape s q j m r h = shape_is j c m r h ∙ q

  pub control_by : c ≡ 94 → (answer : Option (Bor (List ℕ))) → Reads (λ l r. IsControl l) next answer → Reads IsEscape cs answer
  control_by k answer h = behind Control (by_shape Control (control_shape c k)) (λ l r. IsControl l) (λ m r x. (k, x)) (λ m r x. x.1) answer h

  pub octal_by : c ≡ 111 → (answer : Option (Bor (List ℕ))) → Reads (IsNumeral Octal) next answer → Reads IsEscape cs answer
  octal_by k answer h = behind InOctal (by_shape InOctal (octal_shape c k)) (IsNumeral Octal) (λ m r x. (k, x)) (λ m r x. x.1) answer h

  pub hexadecimal_by : c ≡ 120 → (answer : Option (Bor (List ℕ))) → Reads (IsNumeral Hexadecimal) next answer → Reads IsEscape cs answer
  hexadecimal_by k answer h = behind InHexadecimal (by_shape InHexadecimal (hexadecimal_shape c k)) (IsNumeral Hexadecimal) (λ m r x. (k, x)) (λ m r x. x.1) answer h

  pub decimal_by : in_part part.Digit c ≡ true → (answer : Option (Bor (List ℕ))) → Reads (IsNumeral Decimal) cs answer → Reads IsEscape cs answer
  decimal_by k answer h = here InDecimal (by_shape InDecimal (digit_shape c k)) (IsNumeral Decimal) (λ r x. x.0) (λ m r x. x) (λ m r x. x) answer h

  pub ascii_by : is_char_escape c ≡ false → (c ≡ 94 → ⊥) → (c ≡ 111 → ⊥) → (c ≡ 120 → ⊥) → in_part part.Digit c ≡ false → (answer : Option (Bor (List ℕ))) → Reads IsAscii cs answer → Reads IsEscape cs answer
  ascii_by a b d x n answer h = here Ascii rest IsAscii (λ r y. y) (λ m r y. y) (λ m r y. y) answer h
    where
      rest : (j : Shape) (m r : List ℕ) → IsEscapeOf j c m r → j ≡ Ascii
      rest Char m r h = absurd (false≢true (sym a ∙ h.0))
      rest Control m r h = absurd (b h.0)
      rest Ascii m r h = refl
      rest InDecimal m r h = absurd (false≢true (sym n ∙ h.0.0))
      rest InOctal m r h = absurd (d h.0)
      rest InHexadecimal m r h = absurd (x h.0)
