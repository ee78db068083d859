-- Where no cycle is before a node, its row has more nodes than those of its needs.
use Rattle.std.proofs.Common.{◌≡◌, ℕ, zero, suc, ◌+◌, ◌-◌, ◌<◌, ◌≤◌, true, false, List, [], ◌∷◌, get_or, take, length, refl, ap, sym, ◌∙◌, subst, inl, inr, arith}
use Rattle.std.specs.List.{Contains}
use Rattle.std.proofs.lemmas.Bool.{cases_eq}
use Rattle.numbered_nodes.specs.Bits.{has, absent}
use Rattle.numbered_nodes.proofs.Booleans.{both_ways, not_true}
use Rattle.numbered_nodes.specs.Edges.{Relates}
use Rattle.numbered_nodes.specs.Order.{IsReady, IsOrder, IsCycleFree}
use Rattle.numbered_nodes.proofs.OrderLaws.{behind}

lacks_less : (r s : List ℕ) (n : ℕ) → ((b : ℕ) → b < n → has r b ≡ true → has s b ≡ true) → absent s n ≤ absent r n
lacks_less r s zero h = omega arith
lacks_less r s (suc n) h =
    let ih = lacks_less r s n (λ b lt. h b (omega arith)) in
    both_ways (has r n)
    (λ y. let z = h n (omega arith) y in rw (y, z) (omega arith))
    (λ y. both_ways (has s n) (λ z. rw (y, z) (omega arith)) (λ z. rw (y, z) (omega arith)))

lacks_one_less : (r s : List ℕ) (n y : ℕ) → ((b : ℕ) → b < n → has r b ≡ true → has s b ≡ true) → y < n → has r y ≡ false → has s y ≡ true → absent s n + 1 ≤ absent r n
lacks_one_less r s zero y h lt p q = absurd (omega arith)
lacks_one_less r s (suc n) y h lt p q = elim (cases_eq y n) [
  | inl same ↦
      let p' : has r n ≡ false = ap (has r) (sym same) ∙ p in
      let q' : has s n ≡ true = ap (has s) (sym same) ∙ q in
      let ih = lacks_less r s n (λ b less. h b (omega arith)) in
      rw (p', q') (omega arith)
  | inr other ↦
      let ih = lacks_one_less r s n y (λ b less. h b (omega arith)) (omega arith) p q in
      both_ways (has r n)
      (λ w. let z = h n (omega arith) w in rw (w, z) (omega arith))
      (λ w. both_ways (has s n) (λ z. rw (w, z) (omega arith)) (λ z. rw (w, z) (omega arith)))
]

absent_most : (r : List ℕ) (n : ℕ) → absent r n ≤ n
absent_most r zero = omega arith
absent_most r (suc n) = let ih = absent_most r n in both_ways (has r n) (λ y. rw y (omega arith)) (λ y. rw y (omega arith))

module _ (needs : List (List ℕ)) (n : ℕ) (chain : (a b c : ℕ) → a < n → b < n → c < n → Relates needs a b → Relates needs b c → Relates needs a c) where
  abbrev Free : ℕ → Type 0
  Free a = (a < n) × IsCycleFree (Relates needs) n a

  free_closed : (a b : ℕ) → Free a → b < n → Relates needs a b → Free b
  free_closed a b f lb need = (lb, ((λ self. f.1.1 b lb need self), (λ y ly more self. f.1.1 y ly (chain a b y f.0 lb ly need more) self)))

  fewer_bits : (a b : ℕ) → Free a → b < n → Relates needs a b → absent (get_or needs a []) n + 1 ≤ absent (get_or needs b []) n
  fewer_bits a b f lb need = lacks_one_less (get_or needs b []) (get_or needs a []) n b (λ k lk more. chain a b k f.0 lb lk need more) lb (not_true (has (get_or needs b []) b) (λ self. f.1.1 b lb need self)) need

  rank_falls : (a b : ℕ) → Free a → b < n → Relates needs a b → n - absent (get_or needs b []) n < n - absent (get_or needs a []) n
  rank_falls a b f lb need = let less = fewer_bits a b f lb need in let most = absent_most (get_or needs b []) n in omega arith

  pub free_behind : (os : List ℕ) → IsOrder (Relates needs) n os → (i : ℕ) → i < n → IsCycleFree (Relates needs) n (get_or os i 0) → IsReady (Relates needs) n (Contains (take i os)) (get_or os i 0)
  free_behind os p i lt free = behind (Relates needs) n Free free_closed (λ a. n - absent (get_or needs a []) n) rank_falls os p i lt ((p.1 i lt).node, free)

-- no node stands twice
in_front : (os : List ℕ) (i j : ℕ) → i < j → j ≤ length os → Contains (take j os) (get_or os i 0)
in_front [] i j lt le = absurd (omega arith)
in_front (o ∷ os) i zero lt le = absurd (omega arith)
in_front (o ∷ os) zero (suc j) lt le = (0, omega arith, refl)
in_front (o ∷ os) (suc i) (suc j) lt le = let h = in_front os i j (omega arith) (omega arith) in (suc h.0, (let less = h.1 in omega arith), h.2)

pub each_once : (needs : List (List ℕ)) (n : ℕ) (os : List ℕ) → IsOrder (Relates needs) n os → (i j : ℕ) → i < j → j < n → get_or os i 0 ≡ get_or os j 0 → ⊥
each_once needs n os p i j lt less same = (p.1 j less).new (subst (λ x. Contains (take j os) x) same (in_front os i j lt (let e = p.0 in omega arith)))

pub none_absent : (r : List ℕ) (n : ℕ) → absent r n ≡ 0 → (k : ℕ) → k < n → has r k ≡ true
none_absent r zero e k lt = absurd (omega arith)
none_absent r (suc n) e k lt = both_ways (has r n)
    (λ y.
    let rest : absent r n ≡ 0 = (let s : absent r (suc n) ≡ absent r n = rw y (omega arith) in omega arith) in
    elim (cases_eq k n) [ inl same ↦ ap (has r) same ∙ y | inr other ↦ none_absent r n rest k (omega arith) ])
    (λ y. let s : absent r (suc n) ≡ 1 + absent r n = rw y refl in absurd (omega arith))
