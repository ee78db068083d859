-- One node more is listed.
use Rattle.std.proofs.Common.{◌≡◌, ◌⊎◌, ◌↔◌, ℕ, zero, suc, ◌+◌, ◌<◌, ◌≤◌, true, false, ◌||◌, List, [], ◌∷◌, ◌++◌, get_or, take, length, nat_eq, refl, ap, sym, ◌∙◌, subst, inl, inr, arith}
use Rattle.std.specs.List.{Contains}
use Rattle.std.proofs.Math.Seq.{get_or-append_seam}
use Rattle.std.proofs.lemmas.List.{get_or_append_left}
use Rattle.std.proofs.lemmas.Bool.{cases_eq, cases_lt}
use Rattle.std.proofs.lemmas.List.Elements.{Contains-append_left, Contains-append_cases}
use Rattle.numbered_nodes.specs.Bits.{has}
use Rattle.numbered_nodes.proofs.Booleans.{both_ways, split_or, or_right, not_true, is_same, is_other, from_test}
use Rattle.numbered_nodes.proofs.Searches.{contains_last, Contains-one}
use Rattle.numbered_nodes.specs.Edges.{HasEdge, Relates}
use Rattle.numbered_nodes.specs.Order.{IsIdle, IsNext, IsReady}
use Rattle.numbered_nodes.specs.Waiting.{IsReadyNow, IsPlaced, IsMore}
use Rattle.numbered_nodes.proofs.OrderLaws.{Next}
use Rattle.numbered_nodes.proofs.WaitingLists.{still_placed}

-- one more is listed
pub listed_next : (r s os ps : List ℕ) (x : ℕ) → ((k : ℕ) → has s k ≡ (nat_eq k x || has r k)) → ps ≡ os ++ x ∷ [] → ((k : ℕ) → (has r k ≡ true) ↔ Contains os k) → (k : ℕ) → (has s k ≡ true) ↔ Contains ps k
listed_next r s os ps x step push before k = (
  (λ p. subst (λ (l : List ℕ). Contains l k) (sym push) (elim (split_or (nat_eq k x) (has r k) (sym (step k) ∙ p)) [
    | inl same ↦ subst (λ z. Contains (os ++ x ∷ []) z) (sym (from_test k x same)) (contains_last os x)
    | inr was ↦ Contains-append_left os (x ∷ []) k ((before k).0 was)
  ])),
  (λ p. step k ∙ elim (Contains-append_cases os (x ∷ []) k (subst (λ (l : List ℕ). Contains l k) push p)) [
    | inl was ↦ or_right (nat_eq k x) (has r k) ((before k).1 was)
    | inr last ↦ ap (λ b. b || has r k) (is_same k x (Contains-one x k last))
  ]),
)

pub front_same : (os : List ℕ) (x i : ℕ) → i ≤ length os → take i (os ++ x ∷ []) ≡ take i os
front_same os x zero h = refl
front_same [] x (suc i) h = absurd (omega arith)
front_same (o ∷ os) x (suc i) h = ap (λ (l : List ℕ). o ∷ l) (front_same os x i (omega arith))

all_front : (os : List ℕ) → take (length os) os ≡ os
all_front [] = refl
all_front (o ∷ os) = ap (λ (l : List ℕ). o ∷ l) (all_front os)

pub nexts : (Needs : ℕ → ℕ → Type 0) (n turn x : ℕ) (os ps : List ℕ) → length os ≡ turn → ps ≡ os ++ x ∷ [] → ((i : ℕ) → i < turn → Next Needs n (take i os) (get_or os i 0))
    → Next Needs n os x → (i : ℕ) → i < turn + 1 → Next Needs n (take i ps) (get_or ps i 0)
nexts Needs n turn x os ps len push before here i h = elim (cases_lt i turn) [
  | inl lt ↦
      let front : take i ps ≡ take i os = ap (take i) push ∙ front_same os x i (omega arith) in
      let at : get_or ps i 0 ≡ get_or os i 0 = ap (λ (l : List ℕ). get_or l i 0) push ∙ get_or_append_left os (x ∷ []) 0 i (omega arith) in
      subst (λ (l : List ℕ). Next Needs n l (get_or ps i 0)) (sym front) (subst (λ z. Next Needs n (take i os) z) (sym at) (before i lt))
  | inr ge ↦
      let last : i ≡ length os = omega arith in
      let front : take i ps ≡ os = ap (take i) push ∙ front_same os x i (omega arith) ∙ ap (λ k. take k os) last ∙ all_front os in
      let at : get_or ps i 0 ≡ x = ap (λ (l : List ℕ). get_or l i 0) push ∙ ap (λ k. get_or (os ++ x ∷ []) k 0) last ∙ get_or-append_seam os x [] 0 in
      subst (λ (l : List ℕ). Next Needs n l (get_or ps i 0)) (sym front) (subst (λ z. Next Needs n os z) (sym at) here)
]

-- the set and the lists say which unlisted nodes are ready
module _ (needs : List (List ℕ)) (n : ℕ) (listed ready : List ℕ) (waiting : List (List ℕ)) (is : (x : ℕ) → has ready x ≡ true → IsReadyNow needs n listed x) (placed : (x : ℕ) → x < n → has listed x ≡ false → IsPlaced needs n listed ready waiting x) where
  in_set : (x : ℕ) → x < n → has listed x ≡ false → IsReadyNow needs n listed x → has ready x ≡ true
  in_set x lt out now = elim (placed x lt out) [
    | inl there ↦ there
    | inr waits ↦ let left = waits.1 in let p : has listed waits.0 ≡ true = now waits.0 left.node left.need left.other in let q = left.out in let e : true ≡ false = sym p ∙ q in cc
  ]

  module _ (os : List ℕ) (same : (k : ℕ) → (has listed k ≡ true) ↔ Contains os k) where
    ready_alike : (x : ℕ) → x < n → has listed x ≡ false → (has ready x ≡ true) ↔ IsReady (Relates needs) n (Contains os) x
    ready_alike x lt out = (
      (λ p z lz need other. (same z).0 (is x p z lz need other)),
      (λ r. in_set x lt out (λ z lz need other. (same z).1 (r z lz need other))),
    )

    still_idle : (x : ℕ) → x < n → IsIdle (λ k. has ready k ≡ true) (λ k. has listed k ≡ true) x → IsIdle (IsReady (Relates needs) n (Contains os)) (Contains os) x
    still_idle x lt idle = both_ways (has listed x)
        (λ p. inl ((same x).0 p))
        (λ out. elim idle [
          | inl p ↦ inl ((same x).0 p)
          | inr not_there ↦ inr (λ r. not_there ((ready_alike x lt out).1 r))
        ])

    pub chosen : (x : ℕ) → IsNext (λ k. has ready k ≡ true) (λ k. has listed k ≡ true) n x → Next (Relates needs) n os x
    chosen x p = record {
      node = p.node;
      new = λ m. p.new ((same x).1 m);
      least = elim p.least [
        | inl q ↦ inl ((ready_alike x p.node (not_true (has listed x) p.new)).0 q.0, (λ y lt. let lx = p.node in still_idle y (omega arith) (q.1 y lt)))
        | inr q ↦ inr ((λ y lt. still_idle y lt (q.0 y lt)), (λ y lt. (same y).0 (q.1 y lt)))
      ];
    }

-- a node y is listed, and then those that wait for it are put again
module _ (needs : List (List ℕ)) (n : ℕ) (listed after : List ℕ) (y : ℕ) (step : (k : ℕ) → has after k ≡ (nat_eq k y || has listed k)) where
  still_listed : (k : ℕ) → has listed k ≡ true → has after k ≡ true
  still_listed k p = step k ∙ or_right (nat_eq k y) (has listed k) p

  was_out : (k : ℕ) → has after k ≡ false → has listed k ≡ false
  was_out k p = not_true (has listed k) (λ q. let e : false ≡ true = sym p ∙ still_listed k q in cc)

  still_ready : (x : ℕ) → IsReadyNow needs n listed x → IsReadyNow needs n after x
  still_ready x r = λ z lz need other. still_listed z (r z lz need other)

  -- who is placed is so still, or waits for y
  placed_or_waits : (ready : List ℕ) (waiting : List (List ℕ)) (x : ℕ) → IsPlaced needs n listed ready waiting x → IsPlaced needs n after ready waiting x ⊎ HasEdge waiting y x
  placed_or_waits ready waiting x (inl p) = inl (inl p)
  placed_or_waits ready waiting x (inr w) = elim (cases_eq w.0 y) [
    | inl same ↦ inr (subst (λ z. HasEdge waiting z x) same w.2)
    | inr other ↦
        let out : has after w.0 ≡ false = step w.0 ∙ ap (λ b. b || has listed w.0) (is_other w.0 y other) ∙ w.1.out in
        inl (inr (w.0, record { node = w.1.node; need = w.1.need; other = w.1.other; out = out }, w.2))
  ]

  module _ (ready now : List ℕ) (waiting new : List (List ℕ)) (more : IsMore needs n after ready waiting now new) where
    pub ready_next : ((x : ℕ) → has ready x ≡ true → IsReadyNow needs n listed x) → (x : ℕ) → has now x ≡ true → IsReadyNow needs n after x
    ready_next is x p = elim (more.sound x p) [
      | inl was ↦ still_ready x (is x was)
      | inr r ↦ r
    ]

    pub range_next : ((z x : ℕ) → HasEdge waiting z x → x < n) → (z x : ℕ) → HasEdge new z x → x < n
    range_next range z x e = elim (more.range z x e) [
      | inl was ↦ range z x was
      | inr lt ↦ lt
    ]

    pub placed_next : ((x : ℕ) → HasEdge waiting y x → IsPlaced needs n after now new x) → ((x : ℕ) → x < n → has listed x ≡ false → IsPlaced needs n listed ready waiting x) → (x : ℕ) → x < n → has after x ≡ false → IsPlaced needs n after now new x
    placed_next again placed x lt out = elim (placed_or_waits ready waiting x (placed x lt (was_out x out))) [
      | inl p ↦ still_placed needs n after ready now waiting new more x p
      | inr waits ↦ again x waits
    ]

-- a list that is written back whole
pub whole : {X : Type 0} (n : ℕ) (xs ys : List X) → length xs ≡ n → take n (xs ++ ys) ≡ xs
whole zero [] ys e = refl
whole (suc n) [] ys e = absurd (omega arith)
whole zero (x ∷ xs) ys e = absurd (omega arith)
whole (suc n) (x ∷ xs) ys e = ap (λ zs. x ∷ zs) (whole n xs ys (omega arith))
