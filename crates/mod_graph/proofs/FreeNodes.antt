-- A node before which there is no cycle stands behind its needs, over any transitive needs.
use Rattle.std.proofs.Common.{◌≡◌, ℕ, zero, suc, ◌+◌, ◌<◌, ◌≤◌, Bool, true, false, cond, List, get_or, take, length, ap, sym, ◌∙◌, subst, inl, inr, arith}
use Rattle.std.specs.List.{Contains}
use Rattle.std.proofs.lemmas.Bool.{cases_eq, cases_lt}
use Rattle.std.proofs.lemmas.List.{get_or-take, length-take-le}
use Rattle.numbered_nodes.proofs.Booleans.{both_ways, not_true}
use Rattle.numbered_nodes.specs.Order.{IsReady, IsOrder, IsCycleFree}
use Rattle.numbered_nodes.proofs.OrderLaws.{behind}

-- how many numbers below a bound pass
abbrev count : (ℕ → Bool) → ℕ → ℕ
count p zero = 0
count p (suc n) = cond (p n) 1 0 + count p n

count_le : (p q : ℕ → Bool) (n : ℕ) → ((k : ℕ) → p k ≡ true → q k ≡ true) → count p n ≤ count q n
count_le p q zero h = omega arith
count_le p q (suc n) h =
    let rest = count_le p q n h in
    both_ways (p n)
    (λ y. let z = h n y in rw (y, z) (omega arith))
    (λ y. both_ways (q n) (λ z. rw (y, z) (omega arith)) (λ z. rw (y, z) (omega arith)))

count_less : (p q : ℕ → Bool) (n k : ℕ) → ((j : ℕ) → p j ≡ true → q j ≡ true) → k < n → p k ≡ false → q k ≡ true → count p n + 1 ≤ count q n
count_less p q zero k h lt e f = absurd (omega arith)
count_less p q (suc n) k h lt e f = elim (cases_eq k n) [
  | inl same ↦
      let e' : p n ≡ false = ap p (sym same) ∙ e in
      let f' : q n ≡ true = ap q (sym same) ∙ f in
      let rest = count_le p q n h in
      rw (e', f') (omega arith)
  | inr other ↦
      let rest = count_less p q n k h (omega arith) e f in
      both_ways (p n)
      (λ y. let z = h n y in rw (y, z) (omega arith))
      (λ y. both_ways (q n) (λ z. rw (y, z) (omega arith)) (λ z. rw (y, z) (omega arith)))
]

module _ (e : ℕ → ℕ → Bool) (n : ℕ) (chain : (a b c : ℕ) → e a b ≡ true → e b c ≡ true → e a c ≡ true) where
  abbrev Need : ℕ → ℕ → Type 0
  Need a b = e a b ≡ true

  free_closed : (a b : ℕ) → IsCycleFree Need n a → b < n → Need a b → IsCycleFree Need n b
  free_closed a b f lb need = ((λ self. f.1 b lb need self), (λ y ly more self. f.1 y ly (chain a b y need more) self))

  falls : (a b : ℕ) → IsCycleFree Need n a → b < n → Need a b → count (e b) n < count (e a) n
  falls a b f lb need =
      let less = count_less (e b) (e a) n b (λ j more. chain a b j need more) lb (not_true (e b b) (λ self. f.1 b lb need self)) need in
      omega arith

  pub free_ready : (os : List ℕ) → IsOrder Need n os → (i : ℕ) → i < n → IsCycleFree Need n (get_or os i 0) → IsReady Need n (Contains (take i os)) (get_or os i 0)
  free_ready os p i lt free = behind Need n (IsCycleFree Need n) free_closed (λ a. count (e a) n) falls os p i lt free

  -- so its needs stand at lesser places
  pub free_behind : (os : List ℕ) → IsOrder Need n os → (j k : ℕ) → j < n → k < n → IsCycleFree Need n (get_or os k 0) → Need (get_or os k 0) (get_or os j 0) → j < k
  free_behind os p j k lj lk free need =
      let len = p.0 in
      let x = get_or os j 0 in
      let other : x ≡ get_or os k 0 → ⊥ = λ same. free.0 (subst (Need (get_or os k 0)) same need) in
      let here : Contains (take k os) x = free_ready os p k lk free x (p.1 j lj).node need other in
      elim (cases_lt j k) [
        | inl lt ↦ lt
        | inr ge ↦
            let size : length (take k os) ≡ k = length-take-le k os (omega arith) in
            let small : here.0 < k = (let lt = here.1 in omega arith) in
            let wide : length (take j os) ≡ j = length-take-le j os (omega arith) in
            let at : get_or (take j os) here.0 x ≡ x = get_or-take j os here.0 x (omega arith) ∙ sym (get_or-take k os here.0 x small) ∙ here.2 in
            absurd ((p.1 j lj).new (here.0, (omega arith), at))
      ]
