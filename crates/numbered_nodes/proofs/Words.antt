-- Numbers as bits of words.
use Rattle.std.proofs.Common.{◌≡◌, suc, zero, ◌⊎◌, ◌≢◌, ◌<◌, ◌≤◌, ◌+◌, ◌*◌, ◌/◌, ◌%◌, ◌^◌, ◌||◌, ℕ, true, false, List, inl, inr, get_or, length, nat_eq, max, arith, ap, sym, refl, ◌∙◌, replicate, bit_or, bit_and, subst, w64}
use Rattle.std.proofs.Math.ListN.{set}
use Rattle.std.specs.Int.{bit_at}
use Rattle.std.proofs.lemmas.Bool.{cases_eq, cases_lt}
use Rattle.std.proofs.lemmas.Bool.Decides.{nat_tests}
use Rattle.std.proofs.lemmas.List.{get_or-set_same, get_or-set_other, get_or_past}
use Rattle.std.proofs.lemmas.Nat.Bits.{shr_and_one, bit_at_or, bit_at_set_same, bit_at_set_other, bit_at-zero, bit_at-lt, bit_at_above, same_from_bits}
use Rattle.std.proofs.lemmas.Grind.{get_or_default_zero}
use Rattle.numbered_nodes.specs.Bits.{has, room}

within : (n : ℕ) → (m : ℕ) → n < m * 64 → n / 64 < m
within n m h = omega arith

pub shown : (words : List ℕ) (k w : ℕ) → k < room words → w ≡ get_or words (k / 64) w → nat_eq (bit_and (w / 2 ^ (k % 64)) 1) 1 ≡ has words k
unfolding has
shown words k w h e = ap (λ b. nat_eq b 1) (shr_and_one w (k % 64)) ∙ ap (λ x. nat_eq (bit_at x (k % 64)) 1) (e ∙ get_or_default_zero words (k / 64) w (within k (length words) h))

is_same : (k n : ℕ) → k ≡ n → nat_eq k n ≡ true
is_same k n e = grind (arith, nat_tests)

is_other : (k n : ℕ) → k ≢ n → nat_eq k n ≡ false
is_other k n e = grind (arith, nat_tests)

pub inserted : (words : List ℕ) (n w : ℕ) → n < room words → w ≡ get_or words (n / 64) w → (k : ℕ) → has (set words (n / 64) (bit_or w (1 * 2 ^ (n % 64) % 18446744073709551616))) k ≡ (nat_eq k n || has words k)
unfolding has
inserted words n w h e0 k = let e : w ≡ get_or words (n / 64) 0 = e0 ∙ get_or_default_zero words (n / 64) w (within n (length words) h) in elim (cases_eq (k / 64) (n / 64)) [
  | inl same ↦
      let there : get_or (set words (n / 64) (bit_or w (1 * 2 ^ (n % 64) % 18446744073709551616))) (k / 64) 0 ≡ bit_or w (1 * 2 ^ (n % 64) % 18446744073709551616) =
      ap (λ i. get_or (set words (n / 64) (bit_or w (1 * 2 ^ (n % 64) % 18446744073709551616))) i 0) same ∙ get_or-set_same words (n / 64) (bit_or w (1 * 2 ^ (n % 64) % 18446744073709551616)) 0 (omega arith) in
      elim (cases_eq (k % 64) (n % 64)) [
        | inl low ↦
            let all : k ≡ n = omega arith in
            ap (λ x. nat_eq (bit_at x (k % 64)) 1) there ∙ ap (λ i. nat_eq (bit_at (bit_or w (1 * 2 ^ (n % 64) % 18446744073709551616)) i) 1) low
            ∙ is_same (bit_at (bit_or w (1 * 2 ^ (n % 64) % 18446744073709551616)) (n % 64)) 1 (bit_at_set_same w64 w (n % 64) (omega arith))
            ∙ ap (λ b. b || nat_eq (bit_at (get_or words (k / 64) 0) (k % 64)) 1) (sym (is_same k n all))
        | inr low ↦
            let not_all : k ≢ n = λ q. low (ap (λ i. i % 64) q) in
            ap (λ x. nat_eq (bit_at x (k % 64)) 1) there
            ∙ ap (λ b. nat_eq b 1) (bit_at_set_other w64 w (n % 64) (omega arith) (k % 64) low ∙ ap (λ x. bit_at x (k % 64)) (e ∙ ap (λ i. get_or words i 0) (sym same)))
            ∙ ap (λ b. b || nat_eq (bit_at (get_or words (k / 64) 0) (k % 64)) 1) (sym (is_other k n not_all))
      ]
  | inr far ↦
      let not_all : k ≢ n = λ q. far (ap (λ i. i / 64) q) in
      ap (λ x. nat_eq (bit_at x (k % 64)) 1) (get_or-set_other words (n / 64) (k / 64) (bit_or w (1 * 2 ^ (n % 64) % 18446744073709551616)) 0 far)
      ∙ ap (λ b. b || nat_eq (bit_at (get_or words (k / 64) 0) (k % 64)) 1) (sym (is_other k n not_all))
]

low : (a : ℕ) → a < 2 → (a ≡ 0) ⊎ (a ≡ 1)
low zero p = inl refl
low (suc a) p = inr (omega arith)

either : (a b : ℕ) → a < 2 → b < 2 → nat_eq (max a b) 1 ≡ (nat_eq a 1 || nat_eq b 1)
either a b p q = elim (low a p) [
  | inl x ↦ elim (low b q) [ inl y ↦ rw (x, y) refl | inr y ↦ rw (x, y) refl ]
  | inr x ↦ elim (low b q) [ inl y ↦ rw (x, y) refl | inr y ↦ rw (x, y) refl ]
]

-- word by word
pub joined : (xs ys zs : List ℕ) → ((i : ℕ) → get_or zs i 0 ≡ bit_or (get_or xs i 0) (get_or ys i 0)) → (k : ℕ) → has zs k ≡ (has xs k || has ys k)
unfolding has
joined xs ys zs h k =
    ap (λ x. nat_eq (bit_at x (k % 64)) 1) (h (k / 64)) ∙ ap (λ b. nat_eq b 1) (bit_at_or (get_or xs (k / 64) 0) (get_or ys (k / 64) 0) (k % 64))
    ∙ either (bit_at (get_or xs (k / 64) 0) (k % 64)) (bit_at (get_or ys (k / 64) 0) (k % 64)) (bit_at-lt (get_or xs (k / 64) 0) (k % 64)) (bit_at-lt (get_or ys (k / 64) 0) (k % 64))

zero_at : (n i : ℕ) → get_or (replicate {A = ℕ} n 0) i 0 ≡ 0
zero_at zero i = refl
zero_at (suc n) zero = refl
zero_at (suc n) (suc i) = zero_at n i

pub none_has : (n k : ℕ) → has (replicate n 0) k ≡ false
unfolding has
none_has n k = ap (λ x. nat_eq (bit_at x (k % 64)) 1) (zero_at n (k / 64)) ∙ ap (λ b. nat_eq b 1) (bit_at-zero (k % 64))

pub all_words : (xs ys zs : List ℕ) (n : ℕ) → length xs ≤ n → length ys ≤ n → length zs ≤ n
    → ((i : ℕ) → i < n → get_or zs i 0 ≡ bit_or (get_or xs i 0) (get_or ys i 0)) → (k : ℕ) → has zs k ≡ (has xs k || has ys k)
all_words xs ys zs n p q r h = joined xs ys zs (λ i. elim (cases_lt i n) [
  | inl lt ↦ h i lt
  | inr ge ↦
      let x : get_or xs i 0 ≡ 0 = get_or_past xs i 0 (omega arith) in
      let y : get_or ys i 0 ≡ 0 = get_or_past ys i 0 (omega arith) in
      let z : get_or zs i 0 ≡ 0 = get_or_past zs i 0 (omega arith) in
      rw (x, y, z) refl
])

max_right : (a b : ℕ) → b < 2 → (nat_eq a 1 ≡ true → nat_eq b 1 ≡ true) → a < 2 → max a b ≡ b
max_right a b q h p = elim (low a p) [
  | inl x ↦ rw x (let m : max 0 b ≡ b = omega arith in m)
  | inr x ↦ elim (low b q) [
    | inl y ↦ let one : nat_eq a 1 ≡ true = is_same a 1 x in let two : nat_eq b 1 ≡ true = h one in let three : false ≡ true = sym (is_other b 1 (λ e. let z : 0 ≡ 1 = sym y ∙ e in absurd (omega arith))) ∙ two in cc
    | inr y ↦ rw (x, y) refl
  ]
]

from_max : (a b : ℕ) → max a b ≡ b → b < 2 → nat_eq a 1 ≡ true → nat_eq b 1 ≡ true
from_max a b e q h = let one : a ≡ 1 = grind (arith, nat_tests) in is_same b 1 (omega arith)

-- a word that adds nothing
pub words_within : (xs ys : List ℕ) (n : ℕ) → length xs ≤ n → ((i : ℕ) → i < n → bit_or (get_or xs i 0) (get_or ys i 0) ≡ get_or ys i 0) → (k : ℕ) → has xs k ≡ true → has ys k ≡ true
unfolding has
words_within xs ys n len h k p = elim (cases_lt (k / 64) n) [
  | inl lt ↦
      let x = get_or xs (k / 64) 0 in
      let y = get_or ys (k / 64) 0 in
      from_max (bit_at x (k % 64)) (bit_at y (k % 64)) (sym (bit_at_or x y (k % 64)) ∙ ap (λ w. bit_at w (k % 64)) (h (k / 64) lt)) (bit_at-lt y (k % 64)) p
  | inr ge ↦
      let zero_x : get_or xs (k / 64) 0 ≡ 0 = get_or_past xs (k / 64) 0 (omega arith) in
      let none : false ≡ true = sym (ap (λ w. nat_eq (bit_at w (k % 64)) 1) zero_x ∙ ap (λ b. nat_eq b 1) (bit_at-zero (k % 64))) ∙ p in cc
]

-- a set that is within another adds nothing to a word
pub within_words : (xs ys : List ℕ) (i : ℕ) → get_or xs i 0 < 2 ^ 64 → get_or ys i 0 < 2 ^ 64 → ((k : ℕ) → has xs k ≡ true → has ys k ≡ true) → bit_or (get_or xs i 0) (get_or ys i 0) ≡ get_or ys i 0
unfolding has
within_words xs ys i fx fy h = same_from_bits (bit_or (get_or xs i 0) (get_or ys i 0)) (get_or ys i 0) (λ j. elim (cases_lt j 64) [
  | inl lt ↦
      let x = get_or xs i 0 in
      let y = get_or ys i 0 in
      let word : (i * 64 + j) / 64 ≡ i = omega arith in
      let place : (i * 64 + j) % 64 ≡ j = omega arith in
      let at : nat_eq (bit_at x j) 1 ≡ true → nat_eq (bit_at y j) 1 ≡ true = subst (λ w. nat_eq (bit_at (get_or xs w 0) j) 1 ≡ true → nat_eq (bit_at (get_or ys w 0) j) 1 ≡ true) word
      (subst (λ b. nat_eq (bit_at (get_or xs ((i * 64 + j) / 64) 0) b) 1 ≡ true → nat_eq (bit_at (get_or ys ((i * 64 + j) / 64) 0) b) 1 ≡ true) place (h (i * 64 + j))) in
      bit_at_or x y j ∙ max_right (bit_at x j) (bit_at y j) (bit_at-lt y j) at (bit_at-lt x j)
  | inr ge ↦
      let x = get_or xs i 0 in
      let y = get_or ys i 0 in
      bit_at_or x y j ∙ ap (λ b. max b (bit_at y j)) (bit_at_above x 64 j fx ge) ∙ (let m : max 0 (bit_at y j) ≡ bit_at y j = omega arith in m)
])

pub adds_none : (xs ys : List ℕ) (i x y : ℕ) → i < length xs → i < length ys → x ≡ get_or xs i x → y ≡ get_or ys i y → x < 2 ^ 64 → y < 2 ^ 64 → ((k : ℕ) → has xs k ≡ true → has ys k ≡ true) → bit_or x y ≡ y
adds_none xs ys i x y lx ly ex ey fx fy h =
    let ax : x ≡ get_or xs i 0 = ex ∙ get_or_default_zero xs i x lx in
    let ay : y ≡ get_or ys i 0 = ey ∙ get_or_default_zero ys i y ly in
    ap (λ v. bit_or v y) ax ∙ ap (λ v. bit_or (get_or xs i 0) v) ay ∙ within_words xs ys i (subst (λ v. v < 2 ^ 64) ax fx) (subst (λ v. v < 2 ^ 64) ay fy) h ∙ sym ay

-- the same for the first words alone
pub front_within : (xs ys : List ℕ) (n : ℕ) → ((i : ℕ) → i < n → bit_or (get_or xs i 0) (get_or ys i 0) ≡ get_or ys i 0) → (k : ℕ) → k < n * 64 → has xs k ≡ true → has ys k ≡ true
unfolding has
front_within xs ys n h k lt p =
    let x = get_or xs (k / 64) 0 in
    let y = get_or ys (k / 64) 0 in
    from_max (bit_at x (k % 64)) (bit_at y (k % 64)) (sym (bit_at_or x y (k % 64)) ∙ ap (λ w. bit_at w (k % 64)) (h (k / 64) (within k n lt))) (bit_at-lt y (k % 64)) p
