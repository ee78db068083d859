-- How many numbers a set lacks.
use Rattle.std.proofs.Common.{◌≡◌, ℕ, zero, suc, ◌+◌, ◌<◌, ◌≤◌, true, false, ◌||◌, List, nat_eq, refl, ap, sym, ◌∙◌, inl, inr, arith}
use Rattle.std.proofs.lemmas.Bool.{cases_eq}
use Rattle.numbered_nodes.specs.Bits.{has, absent}
use Rattle.numbered_nodes.proofs.Booleans.{both_ways, is_same, is_other}

-- a set that has more lacks no more, and fewer where it has one more
pub lacks_less : (r s : List ℕ) (n : ℕ) → ((b : ℕ) → has r b ≡ true → has s b ≡ true) → absent s n ≤ absent r n
lacks_less r s zero h = omega arith
lacks_less r s (suc n) h =
    let ih = lacks_less r s n h in
    both_ways (has r n)
    (λ y. let z = h n y in rw (y, z) (omega arith))
    (λ y. both_ways (has s n) (λ z. rw (y, z) (omega arith)) (λ z. rw (y, z) (omega arith)))

pub lacks_one_less : (r s : List ℕ) (n y : ℕ) → ((b : ℕ) → has r b ≡ true → has s b ≡ true) → y < n → has r y ≡ false → has s y ≡ true → absent s n + 1 ≤ absent r n
lacks_one_less r s zero y h lt p q = absurd (omega arith)
lacks_one_less r s (suc n) y h lt p q = elim (cases_eq y n) [
  | inl same ↦
      let p' : has r n ≡ false = ap (has r) (sym same) ∙ p in
      let q' : has s n ≡ true = ap (has s) (sym same) ∙ q in
      let ih = lacks_less r s n h in
      rw (p', q') (omega arith)
  | inr other ↦
      let ih = lacks_one_less r s n y h (omega arith) p q in
      both_ways (has r n)
      (λ w. let z = h n w in rw (w, z) (omega arith))
      (λ w. both_ways (has s n) (λ z. rw (w, z) (omega arith)) (λ z. rw (w, z) (omega arith)))
]

pub none_there : (r : List ℕ) (n : ℕ) → ((k : ℕ) → has r k ≡ false) → absent r n ≡ n
none_there r zero h = refl
none_there r (suc n) h = let ih = none_there r n h in let x = h n in rw x (omega arith)

pub some_absent : (r : List ℕ) (n : ℕ) → 0 < absent r n → (x : ℕ) × (x < n) × (has r x ≡ false)
some_absent r zero h = absurd (omega arith)
some_absent r (suc n) h = both_ways (has r n)
    (λ y. let less : absent r (suc n) ≡ absent r n = rw y (omega arith) in let s = some_absent r n (omega arith) in (s.0, (let lt = s.1 in omega arith), s.2))
    (λ y. (n, omega arith, y))

module _ (r s : List ℕ) (y : ℕ) (step : (k : ℕ) → has s k ≡ (nat_eq k y || has r k)) where
  same_but : (k : ℕ) → (k ≡ y → ⊥) → has s k ≡ has r k
  same_but k other = step k ∙ ap (λ b. b || has r k) (is_other k y other)

  past : (n : ℕ) → n ≤ y → absent s n ≡ absent r n
  past zero h = refl
  past (suc n) h = let ih = past n (omega arith) in let e = same_but n (λ q. absurd (omega arith)) in rw e (omega arith)

  pub one_less : (n : ℕ) → y < n → has r y ≡ false → absent s n + 1 ≡ absent r n
  one_less zero h out = absurd (omega arith)
  one_less (suc n) h out = elim (cases_eq n y) [
    | inl same ↦
        let ih = past n (omega arith) in
        let a : has s n ≡ true = step n ∙ ap (λ b. b || has r n) (is_same n y same) in
        let b : has r n ≡ false = ap (has r) same ∙ out in
        rw (a, b) (omega arith)
    | inr other ↦
        let ih = one_less n (omega arith) out in
        let e = same_but n other in
        rw e (omega arith)
  ]
