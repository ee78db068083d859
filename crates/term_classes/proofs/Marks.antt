-- Counts of marks.
use Rattle.std.proofs.Common.{ℕ, ◌+◌, ◌≡◌, ◌≢◌, ◌⊎◌, ◌<◌, ◌≤◌, List, [], ◌∷◌, length, ap, ◌∙◌, inl, inr, arith, nat_lt, true, false, if◌then◌else◌, slice_set}
use Rattle.std.proofs.lemmas.Bool.{cases_eq, cases_lt}
use Rattle.std.proofs.lemmas.Bool.Decides.{nat_tests}
use Rattle.std.proofs.lemmas.List.{get_or-set_same, get_or-set_other}
use Rattle.std.proofs.lemmas.List.Sums.{sum_by-set, sum_by-cons}
use Rattle.term_classes.specs.Settle.{below, mark_of}

pub lt_yes : (m c : ℕ) → m < c → nat_lt m c ≡ true
lt_yes m c h = grind (arith, nat_tests)

pub lt_no : (m c : ℕ) → c ≤ m → nat_lt m c ≡ false
lt_no m c h = grind (arith, nat_tests)

abbrev one : ℕ → ℕ → ℕ
one c m = if nat_lt m c then 1 else 0

one_yes : (c m : ℕ) → m < c → one c m ≡ 1
one_yes c m h = ap (λ b. if b then 1 else 0) (lt_yes m c h)

one_no : (c m : ℕ) → c ≤ m → one c m ≡ 0
one_no c m h = ap (λ b. if b then 1 else 0) (lt_no m c h)

one_most : (c m : ℕ) → one c m ≤ 1
one_most c m = elim (cases_lt m c) [ inl h ↦ let e = one_yes c m h in omega arith | inr h ↦ let e = one_no c m h in omega arith ]

pub below_less : (c : ℕ) (ms : List ℕ) (i v : ℕ) → i < length ms → mark_of ms i < c → c ≤ v → below c (slice_set ms i v) + 1 ≡ below c ms
below_less c ms i v l p q =
    let e = sum_by-set (one c) ms i v 0 l in
    let a = one_yes c (mark_of ms i) p in
    let b = one_no c v q in
    omega arith

pub below_in : (c : ℕ) (ms : List ℕ) (i v : ℕ) → i < length ms → mark_of ms i < c → v < c → below c (slice_set ms i v) ≡ below c ms
below_in c ms i v l p q =
    let e = sum_by-set (one c) ms i v 0 l in
    let a = one_yes c (mark_of ms i) p in
    let b = one_yes c v q in
    omega arith

pub below_out : (c : ℕ) (ms : List ℕ) (i v : ℕ) → i < length ms → c ≤ mark_of ms i → c ≤ v → below c (slice_set ms i v) ≡ below c ms
below_out c ms i v l p q =
    let e = sum_by-set (one c) ms i v 0 l in
    let a = one_no c (mark_of ms i) p in
    let b = one_no c v q in
    omega arith

pub below_some : (c : ℕ) (ms : List ℕ) (i : ℕ) → i < length ms → mark_of ms i < c → 1 ≤ below c ms
below_some c ms i l p = let e = below_less c ms i c l p (omega arith) in omega arith

below_cons : (c m : ℕ) (ms : List ℕ) → below c (m ∷ ms) ≡ one c m + below c ms
below_cons c m ms = sum_by-cons (one c) m ms

pub below_most : (c : ℕ) (ms : List ℕ) → below c ms ≤ length ms
below_most c [] = omega arith
below_most c (m ∷ ms) = let d = below_cons c m ms in let e = one_most c m in let r = below_most c ms in omega arith

pub mark_set : (ms : List ℕ) (at v i : ℕ) → at < length ms → ((i ≡ at) × (mark_of (slice_set ms at v) i ≡ v)) ⊎ ((i ≢ at) × (mark_of (slice_set ms at v) i ≡ mark_of ms i))
mark_set ms at v i l = elim (cases_eq i at) [
  | inl e ↦ inl (e, ap (mark_of (slice_set ms at v)) e ∙ get_or-set_same ms at v 0 l)
  | inr e ↦ inr (e, get_or-set_other ms at i v 0 e)
]

pub bounded_set : (ms : List ℕ) (at v c : ℕ) → at < length ms → v ≤ c → ((i : ℕ) → mark_of ms i ≤ c) → (i : ℕ) → mark_of (slice_set ms at v) i ≤ c
bounded_set ms at v c l le h i = elim (mark_set ms at v i l) [
  | inl p ↦ let e = p.1 in omega arith
  | inr p ↦ let e = p.1 in let b = h i in omega arith
]
