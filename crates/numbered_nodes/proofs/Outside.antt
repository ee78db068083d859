-- The numbers of a word that stand in one set and not in another.
use Rattle.std.proofs.Common.{Option, Some, None, IfSome, IfNone, cond, nat_lt, ◌≡◌, ◌≢◌, ◌⊎◌, ◌<◌, ◌≤◌, ◌+◌, ◌-◌, ◌*◌, ◌/◌, ◌%◌, ◌^◌, ℕ, zero, suc, true, false, List, inl, inr, get_or, length, nat_eq, min, arith, ap, sym, ◌∙◌, bit_and, subst, w64}
use Rattle.std.specs.Int.{bit_at, bit_not, trailing_zeros}
use Rattle.std.proofs.lemmas.Bool.{cases_lt}
use Rattle.std.proofs.lemmas.Bool.Decides.{nat_tests}
use Rattle.std.proofs.lemmas.Nat.Bits.{bit_at_and, bit_at_not, bit_at-lt, bit_at-zero, bit_at_above, bit_at_cat_high, bit_at-trailing_zeros}
use Rattle.std.proofs.lemmas.Nat.{div-add-mod', pow_pos}
use Rattle.std.proofs.Math.Nat.{mod-lt, div-le_self}
use Rattle.std.proofs.lemmas.Grind.{get_or_default_zero}
use Rattle.numbered_nodes.specs.Bits.{has}

-- a bit of a word that is shifted down
pub shifted : (w low j : ℕ) → low ≤ j → bit_at w j ≡ bit_at (w / 2 ^ low) (j - low)
shifted w low j le =
    ap (λ v. bit_at v j) (sym (div-add-mod' w (2 ^ low))) ∙ bit_at_cat_high (w / 2 ^ low) low (w % 2 ^ low) j (mod-lt w (pow_pos low)) le

pub none_from : (w low j : ℕ) → w / 2 ^ low ≡ 0 → low ≤ j → bit_at w j ≡ 0
none_from w low j e le = shifted w low j le ∙ ap (λ v. bit_at v (j - low)) e ∙ bit_at-zero (j - low)

module _ (w low : ℕ) (fits : w < 2 ^ 64) (some : w / 2 ^ low ≢ 0) where
  lowest : (trailing_zeros w64 (w / 2 ^ low) < 64) × (bit_at (w / 2 ^ low) (trailing_zeros w64 (w / 2 ^ low)) ≡ 1) × ((i : ℕ) → i < trailing_zeros w64 (w / 2 ^ low) → bit_at (w / 2 ^ low) i ≡ 0)
  lowest = bit_at-trailing_zeros w64 (w / 2 ^ low) (omega arith) (let le = div-le_self w (2 ^ low) in omega arith)

  pub there : bit_at w (low + trailing_zeros w64 (w / 2 ^ low)) ≡ 1
  there = shifted w low (low + trailing_zeros w64 (w / 2 ^ low)) (omega arith) ∙ ap (bit_at (w / 2 ^ low)) (let e : low + trailing_zeros w64 (w / 2 ^ low) - low ≡ trailing_zeros w64 (w / 2 ^ low) = omega arith in e) ∙ lowest.1

  pub within : low + trailing_zeros w64 (w / 2 ^ low) < 64
  within = elim (cases_lt (low + trailing_zeros w64 (w / 2 ^ low)) 64) [
    | inl lt ↦ lt
    | inr ge ↦ let z : bit_at w (low + trailing_zeros w64 (w / 2 ^ low)) ≡ 0 = bit_at_above w 64 (low + trailing_zeros w64 (w / 2 ^ low)) fits ge in let o = there in absurd (omega arith)
  ]

  pub before : (j : ℕ) → low ≤ j → j < low + trailing_zeros w64 (w / 2 ^ low) → bit_at w j ≡ 0
  before j le lt = shifted w low j le ∙ lowest.2 (j - low) (omega arith)

low_bit : (a : ℕ) → a < 2 → (a ≡ 0) ⊎ (a ≡ 1)
low_bit zero p = inl (let e : 0 ≡ 0 = omega arith in e)
low_bit (suc a) p = inr (omega arith)

-- the word of the numbers in xs and not in ys
module _ (xs ys : List ℕ) (at x y p : ℕ) (lx : at < length xs) (ly : at < length ys) (ex : x ≡ get_or xs at x) (ey : y ≡ get_or ys at y) (fy : y < 2 ^ 64) (small : p < 64) where
  word : (at * 64 + p) / 64 ≡ at
  word = omega arith

  place : (at * 64 + p) % 64 ≡ p
  place = omega arith

  shown : (l : List ℕ) (z : ℕ) → at < length l → z ≡ get_or l at z → has l (at * 64 + p) ≡ nat_eq (bit_at z p) 1
  unfolding has
  shown l z lt e =
      ap (λ k. nat_eq (bit_at (get_or l k 0) ((at * 64 + p) % 64)) 1) word
      ∙ ap (λ k. nat_eq (bit_at (get_or l at 0) k) 1) place
      ∙ ap (λ v. nat_eq (bit_at v p) 1) (sym (e ∙ get_or_default_zero l at z lt))

  both : bit_at (bit_and x (bit_not w64 y)) p ≡ min (bit_at x p) (1 - bit_at y p)
  both = bit_at_and x (bit_not w64 y) p ∙ ap (min (bit_at x p)) (bit_at_not w64 y p fy small)

  pub outside : bit_at (bit_and x (bit_not w64 y)) p ≡ 1 → (has xs (at * 64 + p) ≡ true) × (has ys (at * 64 + p) ≡ false)
  outside e =
      let b = both in
      let kx = bit_at-lt x p in
      let ky = bit_at-lt y p in
      let one : bit_at x p ≡ 1 = omega arith in
      let none : bit_at y p ≡ 0 = omega arith in
      (shown xs x lx ex ∙ ap (λ v. nat_eq v 1) one, shown ys y ly ey ∙ ap (λ v. nat_eq v 1) none)

  pub inside : bit_at (bit_and x (bit_not w64 y)) p ≡ 0 → has xs (at * 64 + p) ≡ true → has ys (at * 64 + p) ≡ true
  inside e h =
      let b = both in
      let sx = shown xs x lx ex in
      let sy = shown ys y ly ey in
      let ky = bit_at-lt y p in
      let kx = bit_at-lt x p in
      elim (low_bit (bit_at y p) ky) [
        | inl none ↦
            let zero_x : bit_at x p ≡ 0 = omega arith in
            let bad : false ≡ true = sym (sx ∙ ap (λ v. nat_eq v 1) zero_x) ∙ h in cc
        | inr one ↦ sy ∙ ap (λ v. nat_eq v 1) one
      ]

-- the least such number of the word, where it is below the bound
module _ (xs ys : List ℕ) (at low bound p : ℕ) (r : Option ℕ) (le : low ≤ p)
    (is : r ≡ cond (nat_lt (at * 64 + p) bound) (Some (at * 64 + p)) None)
    (hit : (has xs (at * 64 + p) ≡ true) × (has ys (at * 64 + p) ≡ false))
    (missed : (q : ℕ) → low ≤ q → q < p → has xs (at * 64 + q) ≡ true → has ys (at * 64 + q) ≡ true) where
  passed : (j : ℕ) → at * 64 + low ≤ j → j < at * 64 + p → has xs j ≡ true → has ys j ≡ true
  passed j from lt h =
      let e : at * 64 + (j - at * 64) ≡ j = omega arith in
      subst (λ k. has xs k ≡ true → has ys k ≡ true) e (missed (j - at * 64) (omega arith) (omega arith)) h

  inside_bound : at * 64 + p < bound → r ≡ Some (at * 64 + p)
  inside_bound lt = let t : nat_lt (at * 64 + p) bound ≡ true = grind (arith, nat_tests) in is ∙ ap (λ b. cond b (Some (at * 64 + p)) None) t

  past_bound : bound ≤ at * 64 + p → r ≡ None
  past_bound ge = let t : nat_lt (at * 64 + p) bound ≡ false = grind (arith, nat_tests) in is ∙ ap (λ b. cond b (Some (at * 64 + p)) None) t

  pub word_some : IfSome r (λ k. (at * 64 + low ≤ k) × (k < bound) × (has xs k ≡ true) × (has ys k ≡ false))
  word_some = elim (cases_lt (at * 64 + p) bound) [
    | inl lt ↦ subst (λ o. IfSome o (λ k. (at * 64 + low ≤ k) × (k < bound) × (has xs k ≡ true) × (has ys k ≡ false))) (sym (inside_bound lt)) (omega arith, lt, hit.0, hit.1)
    | inr ge ↦ subst (λ o. IfSome o (λ k. (at * 64 + low ≤ k) × (k < bound) × (has xs k ≡ true) × (has ys k ≡ false))) (sym (past_bound ge)) tt
  ]

  pub word_least : IfSome r (λ k. (j : ℕ) → at * 64 + low ≤ j → j < k → has xs j ≡ true → has ys j ≡ true)
  word_least = elim (cases_lt (at * 64 + p) bound) [
    | inl lt ↦ subst (λ o. IfSome o (λ k. (j : ℕ) → at * 64 + low ≤ j → j < k → has xs j ≡ true → has ys j ≡ true)) (sym (inside_bound lt)) passed
    | inr ge ↦ subst (λ o. IfSome o (λ k. (j : ℕ) → at * 64 + low ≤ j → j < k → has xs j ≡ true → has ys j ≡ true)) (sym (past_bound ge)) tt
  ]

  pub word_none : IfNone r ((j : ℕ) → at * 64 + low ≤ j → j < at * 64 + 64 → j < bound → has xs j ≡ true → has ys j ≡ true)
  word_none = elim (cases_lt (at * 64 + p) bound) [
    | inl lt ↦ subst (λ o. IfNone o ((j : ℕ) → at * 64 + low ≤ j → j < at * 64 + 64 → j < bound → has xs j ≡ true → has ys j ≡ true)) (sym (inside_bound lt)) tt
    | inr ge ↦ subst (λ o. IfNone o ((j : ℕ) → at * 64 + low ≤ j → j < at * 64 + 64 → j < bound → has xs j ≡ true → has ys j ≡ true)) (sym (past_bound ge)) (λ j from to lt. passed j from (omega arith))
  ]

-- one word further
pub word_more : (xs ys : List ℕ) (start i bound : ℕ) → ((j : ℕ) → start ≤ j → j < i * 64 → j < bound → has xs j ≡ true → has ys j ≡ true)
    → ((j : ℕ) → i * 64 + 0 ≤ j → j < i * 64 + 64 → j < bound → has xs j ≡ true → has ys j ≡ true) → (j : ℕ) → start ≤ j → j < (i + 1) * 64 → j < bound → has xs j ≡ true → has ys j ≡ true
word_more xs ys start i bound before here j from to lt = elim (cases_lt j (i * 64)) [
  | inl less ↦ before j from less lt
  | inr more ↦ here j (omega arith) (omega arith) lt
]
