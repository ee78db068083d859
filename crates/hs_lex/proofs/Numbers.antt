-- Numbers.
use Rattle.std.proofs.Common.{◌≡◌, ℕ, ◌+◌, true, false, List, [], ◌∷◌, ◌++◌, length, ◌⊎◌, inl, inr, ⊎_elim, ◌≤◌, drop, refl, length-append, append_assoc, ap, sym, ◌∙◌, subst, arith}
use Rattle.hs_lex.specs.declared.class.Part.TheVariants as part
use Rattle.hs_lex.specs.Classes.{in_part}
use Rattle.hs_lex.specs.Reading.{AllIn, Runs, IsLongest, Nothing, Reads}
use Rattle.std.proofs.lemmas.Bool.{false≢true, cond-true, cond-false}
use Rattle.std.proofs.lemmas.Bool.Decides.{nat_tests}
use Rattle.std.proofs.lemmas.List.{append-nil}
use Rattle.std.specs.Prelude.{Option, Some, None}
use Rattle.std.specs.Borrow.{Bor}
use Rattle.source_text.specs.Characters.{characters, span}
use Rattle.source_text.proofs.Widths.{span_between, drop_span}
use Rattle.hs_lex.specs.declared.class.Part.{Part}
use Rattle.hs_lex.specs.declared.number.Base.{Base}
use Rattle.hs_lex.specs.declared.number.Base.TheVariants.{Decimal, Octal, Hexadecimal}
use Rattle.hs_lex.specs.declared.number.Form.{Form}
use Rattle.hs_lex.specs.declared.number.Form.TheVariants.{Integer, Float}
use Rattle.hs_lex.specs.Numbers.{IsMany, IsDigits, IsFraction, IsExponent, IsDecimalNumber, IsFloat, IsInteger, IsNumberOf, IsNumber, IsMarked, ReadsForm, Then, digits_of, marks, unsigned, is_sign, is_e}
use Rattle.hs_lex.proofs.Sequence.{opt_end, opt_other, opt_none, opt_some, then_nothing, then_longest, then_text, reads_by}
use Rattle.hs_lex.proofs.Runs.{run_is_longest, run_begins}

pub many_all : (p : Part) (l r : List ℕ) → IsMany p l → AllIn p l
many_all p [] r h = tt
many_all p (c ∷ cs) r h = h

to_many : (p : Part) (l m : List ℕ) (c : ℕ) → l ≡ c ∷ m → AllIn p l → IsMany p l
to_many p [] m c e h = cc
to_many p (d ∷ l) m c e h = h

pub many_run : (p : Part) (cs rest next : List ℕ) (c : ℕ) → cs ≡ c ∷ next → in_part p c ≡ true → Runs p cs rest → IsLongest (λ l r. IsMany p l) cs rest
many_run p cs rest next c e h run =
    let b = run_begins p cs rest next c run e h in
    run_is_longest p (λ l r. IsMany p l) (many_all p) cs rest run (to_many p run.0 b.0 c b.1 run.2)

no_many : (p : Part) (cs next l r : List ℕ) (c : ℕ) → cs ≡ c ∷ next → in_part p c ≡ false → IsMany p l → cs ≡ l ++ r → ⊥
no_many p cs next [] r c e n h f = h
no_many p cs next (d ∷ l) r c e n h f = let k : d ≡ c = cc in false≢true (sym n ∙ ap (in_part p) (sym k) ∙ h.0)

pub many_other : (p : Part) (cs next : List ℕ) (c : ℕ) → cs ≡ c ∷ next → in_part p c ≡ false → Nothing (λ l r. IsMany p l) cs
many_other p cs next c e n l r h f = no_many p cs next l r c e n h f

no_end : (p : Part) (cs l r : List ℕ) → cs ≡ [] → IsMany p l → cs ≡ l ++ r → ⊥
no_end p cs [] r e h f = h
no_end p cs (d ∷ l) r e h f = let k = sym e ∙ f in cc

pub many_end : (p : Part) (cs : List ℕ) → cs ≡ [] → Nothing (λ l r. IsMany p l) cs
many_end p cs e l r h f = no_end p cs l r e h f

fraction_out : (c : ℕ) (m : List ℕ) → IsFraction (c ∷ m) → (c ≡ 46) × IsDigits m
fraction_out c m h = h

module _ (cs next : List ℕ) (c : ℕ) (e : cs ≡ c ∷ next) where
  pub fraction_other : (c ≡ 46 → ⊥) → IsLongest (λ l r. IsFraction l) cs cs
  fraction_other never = opt_other IsFraction (λ c. c ≡ 46) IsDigits tt (λ c m f d. (f, d)) fraction_out cs next c e never

  pub fraction_none : Nothing (λ l r. IsDigits l) next → IsLongest (λ l r. IsFraction l) cs cs
  fraction_none never = opt_none IsFraction (λ c. c ≡ 46) IsDigits tt (λ c m f d. (f, d)) fraction_out cs next c e never

  pub fraction_some : (rest : List ℕ) → c ≡ 46 → IsLongest (λ l r. IsDigits l) next rest → IsLongest (λ l r. IsFraction l) cs rest
  fraction_some rest dot h = opt_some IsFraction (λ c. c ≡ 46) IsDigits tt (λ c m f d. (f, d)) fraction_out cs next rest c e dot h

  pub exponent_other : is_e c ≡ false → IsLongest (λ l r. IsExponent l) cs cs
  exponent_other never = opt_other IsExponent (λ c. is_e c ≡ true) (λ m. IsDigits (unsigned m)) tt (λ c m f d. (f, d)) (λ c m h. h) cs next c e (λ y. false≢true (sym never ∙ y))

  pub exponent_none : Nothing (λ l r. IsDigits (unsigned l)) next → IsLongest (λ l r. IsExponent l) cs cs
  exponent_none never = opt_none IsExponent (λ c. is_e c ≡ true) (λ m. IsDigits (unsigned m)) tt (λ c m f d. (f, d)) (λ c m h. h) cs next c e never

  pub exponent_some : (rest : List ℕ) → is_e c ≡ true → IsLongest (λ l r. IsDigits (unsigned l)) next rest → IsLongest (λ l r. IsExponent l) cs rest
  exponent_some rest y h = opt_some IsExponent (λ c. is_e c ≡ true) (λ m. IsDigits (unsigned m)) tt (λ c m f d. (f, d)) (λ c m h. h) cs next rest c e y h

pub fraction_end : (cs : List ℕ) → cs ≡ [] → IsLongest (λ l r. IsFraction l) cs cs
fraction_end cs e = opt_end IsFraction (λ c. c ≡ 46) IsDigits tt (λ c m f d. (f, d)) fraction_out cs e

pub exponent_end : (cs : List ℕ) → cs ≡ [] → IsLongest (λ l r. IsExponent l) cs cs
exponent_end cs e = opt_end IsExponent (λ c. is_e c ≡ true) (λ m. IsDigits (unsigned m)) tt (λ c m f d. (f, d)) (λ c m h. h) cs e

-- a sign and digits, or digits
plain : (c : ℕ) (m : List ℕ) → is_sign c ≡ false → unsigned (c ∷ m) ≡ c ∷ m
plain c m h = cond-false _ _ _ h

signed : (c : ℕ) (m : List ℕ) → is_sign c ≡ true → unsigned (c ∷ m) ≡ m
signed c m h = cond-true _ _ _ h

-- what the signed digits at c are
signed_out : (cs next l r : List ℕ) (c : ℕ) → cs ≡ c ∷ next → is_sign c ≡ true → IsDigits (unsigned l) → cs ≡ l ++ r → (m : List ℕ) × (l ≡ c ∷ m) × IsDigits m × (next ≡ m ++ r)
signed_out cs next [] r c e y h f = absurd h
signed_out cs next (d ∷ m) r c e y h f =
    let k : d ≡ c = cc in
    (m, (let w : d ∷ m ≡ c ∷ m = cc in w), subst IsDigits (signed d m (subst (λ x. is_sign x ≡ true) (sym k) y)) h, (let w : next ≡ m ++ r = cc in w))

plain_out : (cs next l r : List ℕ) (c : ℕ) → cs ≡ c ∷ next → is_sign c ≡ false → IsDigits (unsigned l) → cs ≡ l ++ r → IsDigits l
plain_out cs next [] r c e y h f = absurd h
plain_out cs next (d ∷ m) r c e y h f =
    let k : d ≡ c = cc in subst IsDigits (plain d m (subst (λ x. is_sign x ≡ false) (sym k) y)) h

plain_in : (cs next l r : List ℕ) (c : ℕ) → cs ≡ c ∷ next → is_sign c ≡ false → IsDigits l → cs ≡ l ++ r → IsDigits (unsigned l)
plain_in cs next [] r c e y h f = absurd h
plain_in cs next (d ∷ m) r c e y h f =
    let k : d ≡ c = cc in subst IsDigits (sym (plain d m (subst (λ x. is_sign x ≡ false) (sym k) y))) h

module _ (cs next : List ℕ) (c : ℕ) (e : cs ≡ c ∷ next) where
  pub signed_some : (rest : List ℕ) → is_sign c ≡ true → IsLongest (λ l r. IsDigits l) next rest → IsLongest (λ l r. IsDigits (unsigned l)) cs rest
  signed_some rest y h = record {
    text = c ∷ h.text;
    front = e ∙ ap (λ t. c ∷ t) h.front;
    is = subst IsDigits (sym (signed c h.text y)) h.is;
    longest = λ l r k f. let o = signed_out cs next l r c e y k f in omega (arith, h.longest o.0 r o.2 o.3, ap length o.1);
  }

  pub signed_none : is_sign c ≡ true → Nothing (λ l r. IsDigits l) next → Nothing (λ l r. IsDigits (unsigned l)) cs
  signed_none y never l r k f = let o = signed_out cs next l r c e y k f in never o.0 r o.2 o.3

  pub plain_some : (rest : List ℕ) → is_sign c ≡ false → IsLongest (λ l r. IsDigits l) cs rest → IsLongest (λ l r. IsDigits (unsigned l)) cs rest
  plain_some rest y h = record {
    text = h.text;
    front = h.front;
    is = plain_in cs next h.text rest c e y h.is h.front;
    longest = λ l r k f. h.longest l r (plain_out cs next l r c e y k f) f;
  }

  pub plain_none : is_sign c ≡ false → Nothing (λ l r. IsDigits l) cs → Nothing (λ l r. IsDigits (unsigned l)) cs
  plain_none y never l r k f = never l r (plain_out cs next l r c e y k f) f

-- a number
digits_go_on : (a t : List ℕ) (c : ℕ) → IsDigits (a ++ c ∷ t) → in_part part.Digit c ≡ true
digits_go_on [] t c h = h.0
digits_go_on (d ∷ []) t c h = h.1.0
digits_go_on (d ∷ b ∷ a) t c h = digits_go_on (b ∷ a) t c h.1

fraction_first : (m : List ℕ) (c : ℕ) → Then IsFraction IsExponent (c ∷ m) → (c ≡ 46) ⊎ (is_e c ≡ true)
fraction_first m c h = first m c h.0 h.1 h.2 h.3 h.4
  where
    first : (m : List ℕ) (c : ℕ) (a b : List ℕ) → c ∷ m ≡ a ++ b → IsFraction a → IsExponent b → (c ≡ 46) ⊎ (is_e c ≡ true)
    first m c [] [] e f x = cc
    first m c [] (d ∷ b) e f x = let k : d ≡ c = cc in inr (subst (λ z. is_e z ≡ true) k x.0)
    first m c (d ∷ a) b e f x = let k : c ≡ d = cc in inl (k ∙ f.0)

no_digit : (c : ℕ) → (c ≡ 46) ⊎ (is_e c ≡ true) → in_part part.Digit c ≡ true → ⊥
unfolding in_part
no_digit c h k = grind (arith, nat_tests)

digits_apart : (a t : List ℕ) (c : ℕ) → IsDigits a → IsDigits (a ++ c ∷ t) → (m : List ℕ) → Then IsFraction IsExponent (c ∷ m) → ⊥
digits_apart a t c la lat m h = no_digit c (fraction_first m c h) (digits_go_on a t c lat)

dot_no_e : (c : ℕ) → c ≡ 46 → is_e c ≡ true → ⊥
dot_no_e c e h = grind (arith, nat_tests)

fraction_apart : (a t : List ℕ) (c : ℕ) → IsFraction a → IsFraction (a ++ c ∷ t) → (m : List ℕ) → IsExponent (c ∷ m) → ⊥
fraction_apart [] t c fa fat m h = dot_no_e c fat.0 h.0
fraction_apart (d ∷ a) t c fa fat m h = no_digit c (inr h.0) (digits_go_on a t c fat.1)

pub number_some : (cs a b rest : List ℕ) → IsLongest (λ l r. IsDigits l) cs a → IsLongest (λ l r. IsFraction l) a b → IsLongest (λ l r. IsExponent l) b rest → IsLongest (λ l r. IsDecimalNumber l) cs rest
number_some cs a b rest d f x =
    then_longest IsDigits (Then IsFraction IsExponent) digits_apart cs a rest d (then_longest IsFraction IsExponent fraction_apart a b rest f x)

number_text : (cs a b rest : List ℕ) (d : IsLongest (λ l r. IsDigits l) cs a) (f : IsLongest (λ l r. IsFraction l) a b) (x : IsLongest (λ l r. IsExponent l) b rest) → (number_some cs a b rest d f x).text ≡ d.text ++ (f.text ++ x.text)
unfolding number_some
number_text cs a b rest d f x =
    then_text IsDigits (Then IsFraction IsExponent) digits_apart cs a rest d (then_longest IsFraction IsExponent fraction_apart a b rest f x)
    ∙ ap (λ t. d.text ++ t) (then_text IsFraction IsExponent fraction_apart a b rest f x)

pub number_none : (cs : List ℕ) → Nothing (λ l r. IsDigits l) cs → Nothing (λ l r. IsDecimalNumber l) cs
number_none cs never = then_nothing IsDigits (Then IsFraction IsExponent) digits_apart cs never

-- nothing stands between two places exactly where as many bytes are left
nil_of : (t : List ℕ) → length t ≡ 0 → t ≡ []
nil_of [] h = refl
nil_of (c ∷ t) h = absurd (omega arith)

no_text : (t from to : List ℕ) → characters from ≡ t ++ characters to → length from ≡ length to → t ≡ []
no_text t from to e q =
    let z : span t ≡ 0 = omega (arith, span_between t from to e) in
    let d : characters from ≡ characters to = ap (λ n. characters (drop n from)) (sym z) ∙ drop_span t from (characters to) e in
    nil_of t (omega (arith, ap length e, ap length d, length-append t (characters to)))

no_bytes : (t from to : List ℕ) → characters from ≡ t ++ characters to → t ≡ [] → length from ≡ length to
unfolding span
no_bytes t from to e q = let s : length from ≡ span [] + length to = span_between [] from to (e ∙ ap (λ z. z ++ characters to) q) in omega (arith, s)

-- the forms of a number with decimal digits
module _ (cs : List ℕ) (whole fraction rest : List ℕ) (d : IsLongest (λ l r. IsDigits l) cs (characters whole)) (f : IsLongest (λ l r. IsFraction l) (characters whole) (characters fraction)) (x : IsLongest (λ l r. IsExponent l) (characters fraction) (characters rest)) where
  between : characters whole ≡ (f.text ++ x.text) ++ characters rest
  between = f.front ∙ ap (λ t. f.text ++ t) x.front ∙ sym (append_assoc f.text x.text (characters rest))

  pub integer_some : length rest ≡ length whole → (h : IsLongest (λ l r. IsDecimalNumber l) cs (characters rest)) × IsNumberOf Integer h.text
  integer_some q =
      let z : f.text ++ x.text ≡ [] = no_text (f.text ++ x.text) whole rest between (sym q) in
      let t : (number_some cs (characters whole) (characters fraction) (characters rest) d f x).text ≡ d.text = number_text cs _ _ _ d f x ∙ ap (λ w. d.text ++ w) z ∙ append-nil d.text in
      (number_some cs _ _ _ d f x, (Decimal, subst IsDigits (sym t) d.is))

  pub float_some : (length rest ≡ length whole → ⊥) → (h : IsLongest (λ l r. IsDecimalNumber l) cs (characters rest)) × IsNumberOf Float h.text
  float_some q =
      (number_some cs _ _ _ d f x, (d.text, f.text, x.text, number_text cs _ _ _ d f x, d.is, f.is, x.is, λ z. q (sym (no_bytes (f.text ++ x.text) whole rest between z))))

-- 0 and a letter
module _ (b : Base) (cs : List ℕ) where
  pub marked_end : cs ≡ [] → Nothing (λ l r. IsMarked b l) cs
  marked_end e l r h f = let w : [] ≡ (48 ∷ h.0 ∷ h.1) ++ r = sym e ∙ f ∙ ap (λ t. t ++ r) h.2 in cc

  pub marked_first : (next : List ℕ) (c : ℕ) → cs ≡ c ∷ next → (c ≡ 48 → ⊥) → Nothing (λ l r. IsMarked b l) cs
  marked_first next c e never l r h f = never (let w : c ∷ next ≡ (48 ∷ h.0 ∷ h.1) ++ r = sym e ∙ f ∙ ap (λ t. t ++ r) h.2 in let k : c ≡ 48 = cc in k)

  pub marked_lone : (next : List ℕ) (c : ℕ) → cs ≡ c ∷ next → next ≡ [] → Nothing (λ l r. IsMarked b l) cs
  marked_lone next c e z l r h f = let w : c ∷ [] ≡ (48 ∷ h.0 ∷ h.1) ++ r = sym (e ∙ ap (λ t. c ∷ t) z) ∙ f ∙ ap (λ t. t ++ r) h.2 in cc

  module _ (next after : List ℕ) (c x : ℕ) (e : cs ≡ c ∷ next) (g : next ≡ x ∷ after) where
    inside : (l r : List ℕ) (h : IsMarked b l) → cs ≡ l ++ r → (x ≡ h.0) × (after ≡ h.1 ++ r)
    inside l r h f =
        let w : c ∷ x ∷ after ≡ 48 ∷ h.0 ∷ (h.1 ++ r) = ap (λ t. c ∷ t) (sym g) ∙ sym e ∙ f ∙ ap (λ t. t ++ r) h.2 in
        ((let k : x ≡ h.0 = cc in k), (let k : after ≡ h.1 ++ r = cc in k))

    pub marked_second : marks b x ≡ false → Nothing (λ l r. IsMarked b l) cs
    marked_second n l r h f = false≢true (sym n ∙ ap (marks b) (inside l r h f).0 ∙ h.3)

    marked_none : Nothing (λ l r. IsMany (digits_of b) l) after → Nothing (λ l r. IsMarked b l) cs
    marked_none never l r h f = never h.1 r h.4 (inside l r h f).1

    marked_some : c ≡ 48 → marks b x ≡ true → (rest : List ℕ) → IsLongest (λ l r. IsMany (digits_of b) l) after rest → IsLongest (λ l r. IsMarked b l) cs rest
    marked_some zero m rest h = record {
      text = 48 ∷ x ∷ h.text;
      front = e ∙ ap (λ z. z ∷ next) zero ∙ ap (λ t. 48 ∷ t) (g ∙ ap (λ t. x ∷ t) h.front);
      is = (x, h.text, refl, m, h.is);
      longest = λ l r k f. omega (arith, ap length k.2, h.longest k.1 r k.4 (inside l r k f).1);
    }

    pub marked_by : c ≡ 48 → marks b x ≡ true → (p : Part) → p ≡ digits_of b → (answer : Option (Bor (List ℕ))) → Reads (λ l r. IsMany p l) after answer → Reads (λ l r. IsMarked b l) cs answer
    marked_by zero m p k answer h =
        reads_by (λ l r. IsMany (digits_of b) l) (λ l r. IsMarked b l) after cs answer (marked_some zero m) marked_none (subst (λ q. Reads (λ l r. IsMany q l) after answer) k h)

-- which number is longest
marks_same : (b c : Base) (x : ℕ) → marks b x ≡ true → marks c x ≡ true → b ≡ c
marks_same Decimal c x h k = absurd (false≢true h)
marks_same Octal Decimal x h k = absurd (false≢true k)
marks_same Octal Octal x h k = refl
marks_same Octal Hexadecimal x h k = absurd (grind (arith, nat_tests))
marks_same Hexadecimal Decimal x h k = absurd (false≢true k)
marks_same Hexadecimal Octal x h k = absurd (grind (arith, nat_tests))
marks_same Hexadecimal Hexadecimal x h k = refl

mark_no_digit : (b : Base) (x : ℕ) → marks b x ≡ true → in_part part.Digit x ≡ true → ⊥
unfolding in_part
mark_no_digit Decimal x h k = false≢true h
mark_no_digit Octal x h k = grind (arith, nat_tests)
mark_no_digit Hexadecimal x h k = grind (arith, nat_tests)

mark_no_fraction : (b : Base) (x : ℕ) → marks b x ≡ true → (x ≡ 46) ⊎ (is_e x ≡ true) → ⊥
mark_no_fraction Decimal x h k = false≢true h
mark_no_fraction Octal x h k = grind (arith, nat_tests)
mark_no_fraction Hexadecimal x h k = grind (arith, nat_tests)

short_parts : (b : Base) (x : ℕ) (m : List ℕ) → marks b x ≡ true → (a t r : List ℕ) → IsDigits a → Then IsFraction IsExponent t → a ++ (t ++ r) ≡ 48 ∷ x ∷ m → length a + length t ≤ 1
short_parts b x m h [] t r d f e = absurd d
short_parts b x m h (c ∷ []) [] r d f e = omega arith
short_parts b x m h (c ∷ []) (y ∷ t) r d f e = let k : y ≡ x = cc in absurd (mark_no_fraction b x h (subst (λ z. (z ≡ 46) ⊎ (is_e z ≡ true)) k (fraction_first t y f)))
short_parts b x m h (c ∷ y ∷ a) t r d f e = let k : y ≡ x = cc in absurd (mark_no_digit b x h (subst (λ z. in_part part.Digit z ≡ true) k d.1.0))

decimal_short : (b : Base) (x : ℕ) (m l r : List ℕ) → marks b x ≡ true → IsDecimalNumber l → l ++ r ≡ 48 ∷ x ∷ m → length l ≤ 1
decimal_short b x m l r h n e =
    omega (arith, short_parts b x m h n.0 n.1 r n.3 n.4 (sym (append_assoc n.0 n.1 r) ∙ ap (λ z. z ++ r) (sym n.2) ∙ e), ap length n.2, length-append n.0 n.1)

from_digits : (l : List ℕ) → IsDigits l → IsDecimalNumber l
from_digits l h = (l, [], sym (append-nil l), h, ([], [], refl, tt, tt))

from_float : (l : List ℕ) → IsFloat l → IsDecimalNumber l
from_float l h = (h.0, h.1 ++ h.2, h.3, h.4, (h.1, h.2, refl, h.5, h.6))

-- an integer with a letter, or a number with decimal digits
split : (f : Form) (l : List ℕ) → IsNumberOf f l → IsDecimalNumber l ⊎ (IsMarked Octal l ⊎ IsMarked Hexadecimal l)
split Float l h = inl (from_float l h)
split Integer l h = by_base h.0 h.1
  where
    by_base : (b : Base) → IsInteger b l → IsDecimalNumber l ⊎ (IsMarked Octal l ⊎ IsMarked Hexadecimal l)
    by_base Decimal h = inl (from_digits l h)
    by_base Octal h = inr (inl h)
    by_base Hexadecimal h = inr (inr h)

module _ (b : Base) (cs rest : List ℕ) (h : IsLongest (λ l r. IsMarked b l) cs rest) where
  front_of : cs ≡ 48 ∷ h.is.0 ∷ (h.is.1 ++ rest)
  front_of = h.front ∙ ap (λ z. z ++ rest) h.is.2

  by_decimal : (l r : List ℕ) → IsDecimalNumber l → cs ≡ l ++ r → length l ≤ length h.text
  by_decimal l r n f = omega (arith, decimal_short b h.is.0 (h.is.1 ++ rest) l r h.is.3 n (sym f ∙ front_of), ap length h.is.2)

  by_mark : (c : Base) (l r : List ℕ) → IsMarked c l → cs ≡ l ++ r → length l ≤ length h.text
  by_mark c l r n f =
      let w : 48 ∷ h.is.0 ∷ (h.is.1 ++ rest) ≡ 48 ∷ n.0 ∷ (n.1 ++ r) = sym front_of ∙ f ∙ ap (λ z. z ++ r) n.2 in
      let k : n.0 ≡ h.is.0 = cc in
      let q : c ≡ b = marks_same c b h.is.0 (ap (marks c) (sym k) ∙ n.3) h.is.3 in
      h.longest l r (subst (λ z. IsMarked z l) q n) f

  pub marked_number : IsInteger b h.text → (g : IsLongest (λ l r. IsNumber l) cs rest) × IsNumberOf Integer g.text
  marked_number i = (
    record {
      text = h.text;
      front = h.front;
      is = (Integer, (b, i));
      longest = λ l r n f. ⊎_elim (λ d. by_decimal l r d f) (λ m. ⊎_elim (λ o. by_mark Octal l r o f) (λ x. by_mark Hexadecimal l r x f) m) (split n.0 l n.1);
    },
    (b, i),
  )

module _ (cs : List ℕ) (octal : Nothing (λ l r. IsMarked Octal l) cs) (hexadecimal : Nothing (λ l r. IsMarked Hexadecimal l) cs) where
  only_decimal : (l r : List ℕ) → IsNumber l → cs ≡ l ++ r → IsDecimalNumber l
  only_decimal l r n f = ⊎_elim (λ d. d) (λ m. absurd (⊎_elim (λ o. octal l r o f) (λ x. hexadecimal l r x f) m)) (split n.0 l n.1)

  pub number_of_decimal : (answer : Option (Form × Bor (List ℕ))) → ReadsForm IsDecimalNumber cs answer → ReadsForm IsNumber cs answer
  number_of_decimal (Some p) h = (
    record {
      text = h.0.text;
      front = h.0.front;
      is = (p.0, h.1);
      longest = λ l r n f. h.0.longest l r (only_decimal l r n f) f;
    },
    h.1,
  )
  number_of_decimal None never = λ l r n f. never l r (only_decimal l r n f) f

-- what a number begins with
pub decimal_begins : (l : List ℕ) → IsDecimalNumber l → (c : ℕ) × (m : List ℕ) × (l ≡ c ∷ m) × (in_part part.Digit c ≡ true)
decimal_begins l h = digit_front h.0 h.1 h.2 h.3
  where
    digit_front : (a b : List ℕ) → l ≡ a ++ b → IsDigits a → (c : ℕ) × (m : List ℕ) × (l ≡ c ∷ m) × (in_part part.Digit c ≡ true)
    digit_front [] b e d = absurd d
    digit_front (c ∷ a) b e d = (c, a ++ b, e, d.0)

pub number_begins : (l : List ℕ) → IsNumber l → (c : ℕ) × (m : List ℕ) × (l ≡ c ∷ m) × (in_part part.Digit c ≡ true)
unfolding in_part
number_begins l h = ⊎_elim (decimal_begins l) (λ m. ⊎_elim (λ o. (48, o.0 ∷ o.1, o.2, refl)) (λ x. (48, x.0 ∷ x.1, x.2, refl)) m) (split h.0 l h.1)

-- no text has two forms
decimal_apart : (l d t : List ℕ) → IsDigits l → l ≡ d ++ t → Then IsFraction IsExponent t → (t ≡ [] → ⊥) → ⊥
decimal_apart l d [] h e f some = some refl
decimal_apart l d (c ∷ t) h e f some = no_digit c (fraction_first t c f) (digits_go_on d t c (subst IsDigits e h))

marked_apart : (b : Base) (l : List ℕ) → IsMarked b l → IsFloat l → ⊥
marked_apart b l h f = omega (arith, decimal_short b h.0 h.1 l [] h.3 (from_float l f) (append-nil l ∙ h.2), ap length h.2)

pub forms_apart : (l : List ℕ) → IsNumberOf Integer l → IsNumberOf Float l → ⊥
forms_apart l h f = by_base h.0 h.1
  where
    by_base : (b : Base) → IsInteger b l → ⊥
    by_base Decimal d = decimal_apart l f.0 (f.1 ++ f.2) d f.3 (f.1, f.2, refl, f.5, f.6) f.7
    by_base Octal d = marked_apart Octal l d f
    by_base Hexadecimal d = marked_apart Hexadecimal l d f
