-- One order, each node in it once, and a node behind its needs where no cycle is before it.
use Rattle.std.proofs.Common.{◌≡◌, ◌⊎◌, ◌↔◌, ℕ, zero, suc, ◌<◌, ◌≤◌, List, [], ◌∷◌, ◌++◌, get_or, take, length, refl, ap, sym, ◌∙◌, subst, inl, inr, arith}
use Rattle.std.specs.List.{Contains}
use Rattle.std.proofs.Math.Seq.{take-suc}
use Rattle.std.proofs.lemmas.Bool.{cases_eq, cases_lt}
use Rattle.numbered_nodes.specs.Order.{IsIdle, IsNext, IsReady, IsOrder}

not_there : (y : ℕ) (xs : List ℕ) (x : ℕ) → (y ≡ x → ⊥) → (Contains xs x → ⊥) → (i : ℕ) → i < suc (length xs) → get_or (y ∷ xs) i x ≡ x → ⊥
not_there y xs x other out zero lt e = other e
not_there y xs x other out (suc i) lt e = out (i, omega arith, e)

-- whether a number is in a list
is_in : (xs : List ℕ) (x : ℕ) → Contains xs x ⊎ (Contains xs x → ⊥)
is_in [] x = inr (λ h. let lt = h.1 in absurd (omega arith))
is_in (y ∷ xs) x = elim (cases_eq y x) [
  | inl e ↦ inl (0, omega arith, e)
  | inr other ↦ elim (is_in xs x) [
    | inl h ↦ inl (suc h.0, (let lt = h.1 in omega arith), h.2)
    | inr out ↦ inr (λ h. not_there y xs x other out h.0 h.1 h.2)
  ]
]

take_whole : (xs : List ℕ) (n : ℕ) → length xs ≡ n → take n xs ≡ xs
take_whole [] zero e = refl
take_whole [] (suc n) e = refl
take_whole (x ∷ xs) zero e = absurd (omega arith)
take_whole (x ∷ xs) (suc n) e = ap (λ (l : List ℕ). x ∷ l) (take_whole xs n (omega arith))

module _ (R L : ℕ → Type 0) (n : ℕ) where
  least_one : (x y : ℕ) → IsNext R L n x → IsNext R L n y → x < y → ⊥
  least_one x y p q lt = elim q.least [
    | inl ready ↦ elim (ready.1 x lt) [
      | inl h ↦ p.new h
      | inr not_x ↦ elim p.least [
        | inl r ↦ not_x r.0
        | inr none ↦ elim (none.0 y q.node) [
          | inl h ↦ q.new h
          | inr not_y ↦ not_y ready.0
        ]
      ]
    ]
    | inr none ↦ p.new (none.1 x lt)
  ]

  pub one_next : (x y : ℕ) → IsNext R L n x → IsNext R L n y → x ≡ y
  one_next x y p q = elim (cases_lt x y) [
    | inl lt ↦ absurd (least_one x y p q lt)
    | inr ge ↦ elim (cases_lt y x) [
      | inl lt ↦ absurd (least_one y x q p lt)
      | inr le ↦ omega arith
    ]
  ]

-- the next node behind a list
abbrev pub Next : (ℕ → ℕ → Type 0) → ℕ → List ℕ → ℕ → Type 0
Next Needs n done x = IsNext (IsReady Needs n (Contains done)) (Contains done) n x

module _ (Needs : ℕ → ℕ → Type 0) (n : ℕ) where
  same_front : (os ps : List ℕ) → IsOrder Needs n os → IsOrder Needs n ps → (i : ℕ) → i ≤ n → take i os ≡ take i ps
  same_front os ps p q zero h = refl
  same_front os ps p q (suc i) h =
      let front = same_front os ps p q i (omega arith) in
      let at : get_or os i 0 ≡ get_or ps i 0 = one_next (IsReady Needs n (Contains (take i ps))) (Contains (take i ps)) n (get_or os i 0) (get_or ps i 0) (subst (λ (d : List ℕ). Next Needs n d (get_or os i 0)) front (p.1 i (omega arith))) (q.1 i (omega arith)) in
      let lo : i < length os = (let e = p.0 in omega arith) in
      let lp : i < length ps = (let e = q.0 in omega arith) in
      take-suc os i 0 lo ∙ ap (λ (d : List ℕ). d ++ get_or os i 0 ∷ []) front ∙ ap (λ x. take i ps ++ x ∷ []) at ∙ sym (take-suc ps i 0 lp)

  -- there is one order alone
  pub one_order : (os ps : List ℕ) → IsOrder Needs n os → IsOrder Needs n ps → os ≡ ps
  one_order os ps p q = sym (take_whole os n p.0) ∙ same_front os ps p q n (omega arith) ∙ take_whole ps n q.0

  -- in a set of nodes that has their needs, where these have a rank, some node is ready
  module _ (D : ℕ → Type 0) (closed : (a b : ℕ) → D a → b < n → Needs a b → D b) (rank : ℕ → ℕ) (falls : (a b : ℕ) → D a → b < n → Needs a b → rank b < rank a) where
    none_idle : (done : List ℕ) → ((y : ℕ) → y < n → IsIdle (IsReady Needs n (Contains done)) (Contains done) y) → (m y : ℕ) → rank y < m → y < n → D y → (Contains done y → ⊥) → ⊥
    none_idle done idle zero y h lt d out = omega arith
    none_idle done idle (suc m) y h lt d out = elim (idle y lt) [
      | inl in_ ↦ out in_
      | inr not_ready ↦ not_ready (λ z lz need other. elim (is_in done z) [
        | inl in_ ↦ in_
        | inr out_z ↦ let f = falls y z d lz need in absurd (none_idle done idle m z (omega arith) lz (closed y z d lz need) out_z)
      ])
    ]

    pub behind : (os : List ℕ) → IsOrder Needs n os → (i : ℕ) → i < n → D (get_or os i 0) → IsReady Needs n (Contains (take i os)) (get_or os i 0)
    behind os p i lt d =
        let next = p.1 i lt in
        elim next.least [
          | inl ready ↦ ready.0
          | inr none ↦ absurd (none_idle (take i os) none.0 (suc (rank (get_or os i 0))) (get_or os i 0) (omega arith) next.node d next.new)
        ]

idle_alike : (R S L M : ℕ → Type 0) (y : ℕ) → (R y ↔ S y) → (L y ↔ M y) → IsIdle R L y → IsIdle S M y
idle_alike R S L M y r h (inl q) = inl (h.0 q)
idle_alike R S L M y r h (inr q) = inr (λ s. q (r.1 s))

-- the same for another way to say what is ready and what is listed
pub next_alike : (n : ℕ) (R S L M : ℕ → Type 0) → ((k : ℕ) → k < n → R k ↔ S k) → ((k : ℕ) → L k ↔ M k) → (x : ℕ) → IsNext R L n x → IsNext S M n x
next_alike n R S L M r h x p = record {
  node = p.node;
  new = λ m. p.new ((h x).1 m);
  least = elim p.least [
    | inl q ↦ inl ((r x p.node).0 q.0, (λ y lt. let lx = p.node in idle_alike R S L M y (r y (omega arith)) (h y) (q.1 y lt)))
    | inr q ↦ inr ((λ y lt. idle_alike R S L M y (r y lt) (h y) (q.0 y lt)), (λ y lt. (h y).0 (q.1 y lt)))
  ];
}
