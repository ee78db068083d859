-- Each answer on a number tells the truth.
use Rattle.std.proofs.Common.{◌≡◌, ℕ, zero, ◌<◌, ◌≤◌, ◌+◌, ◌*◌, ◌-◌, ◌^◌, suc, List, [], ◌∷◌, ◌++◌, length, get_or, refl, ap, sym, ◌∙◌, arith, append_assoc, rules}
use Rattle.std.specs.List.{AllByRecursion}
use Rattle.std.specs.Fmt.{decimal}
use Rattle.std.proofs.lemmas.Str.Parse.{IsNumeralModel, IsDigitsTest, FoldsDigits, numerals_by_fold}
use Rattle.std.proofs.lemmas.Fmt.{digits_decimal, digits_value-decimal, decimal-digits_value, first_decimal, decimal_digit}
use Rattle.session_lang.specs.Numbers.{IsDigitByte, value_on}
use Rattle.session_lang.proofs.Split.{split, ends}

abbrev AreDigits : List ℕ → Type 0
AreDigits = AllByRecursion IsDigitByte

own_test : IsDigitsTest AreDigits
own_test = search rules

own_fold : FoldsDigits value_on
own_fold = search rules

pub own : IsNumeralModel AreDigits (value_on 0)
own = numerals_by_fold AreDigits own_test value_on own_fold

pub value_le : (n : ℕ) (ds : List ℕ) → n ≤ value_on n ds
value_le n [] = omega arith
value_le n (d ∷ ds) = omega (arith, value_le (n * 10 + (d - 48)) ds)

pub value_append : (n : ℕ) (ds es : List ℕ) → value_on n (ds ++ es) ≡ value_on (value_on n ds) es
value_append n [] es = refl
value_append n (d ∷ ds) es = value_append (n * 10 + (d - 48)) ds es

-- only 0 begins with the digit 0
pub leading : (n : ℕ) (ds : List ℕ) → n < 2 ^ 64 → decimal n ≡ 48 ∷ ds → (n ≡ 0) × (ds ≡ [])
leading zero ds lt e = (refl, (let f : 48 ∷ [] ≡ 48 ∷ ds = sym (decimal_digit 0 (omega arith)) ∙ e in let k : ds ≡ [] = cc in k))
leading (suc n) ds lt e = absurd (let f : 48 < get_or (decimal (suc n)) 0 0 = first_decimal (suc n) (omega arith) lt in let g : get_or (decimal (suc n)) 0 0 ≡ 48 = ap (λ xs. get_or xs 0 0) e in omega arith)

-- canonical digits are what is written of their value
pub canonical : (ds : List ℕ) → AreDigits ds → 0 < length ds → (get_or ds 0 0 ≡ 48 → length ds ≡ 1) → value_on 0 ds < 2 ^ 64 → decimal (value_on 0 ds) ≡ ds
canonical ds p some first low = decimal-digits_value own ds p some first low

module _ (stop : ℕ) (low : stop ≤ 32) where
  no_digit : IsDigitByte stop → ⊥
  no_digit h = omega (arith, h.0)

  -- digits at the front are a front of the number
  pub front_of : (ds x rest : List ℕ) (n : ℕ) → n < 2 ^ 64 → AreDigits ds → ds ++ x ≡ (decimal n ++ stop ∷ []) ++ rest → (es : List ℕ) × (decimal n ≡ ds ++ es)
  front_of ds x rest n lt p e =
      let s = split IsDigitByte stop no_digit ds (decimal n) x rest p (digits_decimal own n lt) (e ∙ append_assoc (decimal n) (stop ∷ []) rest) in
      (s.0, s.1)

  pub over : (ds x rest : List ℕ) (n most : ℕ) → n < 2 ^ 64 → AreDigits ds → most < value_on 0 ds → n ≤ most → ds ++ x ≡ (decimal n ++ stop ∷ []) ++ rest → ⊥
  over ds x rest n most lt p big le e =
      let f = front_of ds x rest n lt p e in
      let v : n ≡ value_on (value_on 0 ds) f.0 = sym (digits_value-decimal own n lt) ∙ ap (value_on 0) f.1 ∙ value_append 0 ds f.0 in
      omega (arith, v, value_le (value_on 0 ds) f.0)

  pub zeros : (ds x rest : List ℕ) (n : ℕ) → n < 2 ^ 64 → AreDigits ds → get_or ds 0 0 ≡ 48 → 1 < length ds → ds ++ x ≡ (decimal n ++ stop ∷ []) ++ rest → ⊥
  zeros [] x rest n lt p first long e = omega arith
  zeros (a ∷ []) x rest n lt p first long e = omega arith
  zeros (a ∷ d ∷ ds) x rest n lt p first long e =
      let f = front_of (a ∷ d ∷ ds) x rest n lt p e in
      let k : decimal n ≡ 48 ∷ (d ∷ (ds ++ f.0)) = cc in
      let g : d ∷ (ds ++ f.0) ≡ [] = (leading n (d ∷ (ds ++ f.0)) lt k).1 in cc

  -- only 0 is below 1
  pub too_low : (ds x rest : List ℕ) (n least : ℕ) → n < 2 ^ 64 → AreDigits ds → 0 < length ds → (get_or ds 0 0 ≡ 48 → length ds ≤ 1) → value_on 0 ds < least → least ≤ 1 → least ≤ n → ds ++ x ≡ (decimal n ++ stop ∷ []) ++ rest → ⊥
  too_low ds x rest n least lt p some first below small le e =
      let z : value_on 0 ds ≡ 0 = omega arith in
      let w : decimal (value_on 0 ds) ≡ ds = canonical ds p some (λ h. let k : length ds ≤ 1 = first h in omega arith) (omega arith) in
      let k : ds ≡ 48 ∷ [] = sym w ∙ ap decimal z ∙ decimal_digit 0 (omega arith) in
      let f = front_of ds x rest n lt p e in
      let g = leading n f.0 lt (f.1 ∙ ap (λ xs. xs ++ f.0) k) in
      omega (arith, g.0)

  -- where no digit follows, the digits are the whole number, and the stop comes
  pub whole_of : (ds t rest : List ℕ) (b n : ℕ) → n < 2 ^ 64 → AreDigits ds → (IsDigitByte b → ⊥) → ds ++ b ∷ t ≡ (decimal n ++ stop ∷ []) ++ rest → (decimal n ≡ ds) × (b ≡ stop) × (t ≡ rest)
  whole_of ds t rest b n lt p out e = ends IsDigitByte stop b no_digit out ds (decimal n) t rest p (digits_decimal own n lt) (e ∙ append_assoc (decimal n) (stop ∷ []) rest)
