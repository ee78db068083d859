-- Rows of targets that get one target more.
use Rattle.std.proofs.Common.{◌≡◌, ◌⊎◌, ◌↔◌, ◌<◌, ◌+◌, ℕ, zero, suc, List, [], ◌∷◌, ◌++◌, get_or, length, inl, inr, ap, sym, ◌∙◌, subst, arith, refl}
use Rattle.std.proofs.Math.ListN.{set}
use Rattle.std.specs.List.{Contains}
use Rattle.std.proofs.Common.{take}
use Rattle.std.proofs.lemmas.Bool.{cases_eq, cases_lt}
use Rattle.std.proofs.lemmas.List.{get_or_default, get_or-set_same, get_or-set_other}
use Rattle.std.proofs.lemmas.List.Elements.{Contains-get_or, Contains-append_left, Contains-push, Contains-push_cases}
use Rattle.numbered_nodes.specs.Edges.{HasEdge, InRange}

-- one more at the end
pub more_kept : (row new : List ℕ) (x : ℕ) → new ≡ row ++ x ∷ [] → (y : ℕ) → Contains row y → Contains new y
more_kept row new x push y h = subst (λ (l : List ℕ). Contains l y) (sym push) (Contains-append_left row (x ∷ []) y h)

pub more_last : (row new : List ℕ) (x : ℕ) → new ≡ row ++ x ∷ [] → Contains new x
more_last row new x push = subst (λ (l : List ℕ). Contains l x) (sym push) (Contains-push row x)

pub more_cases : (row new : List ℕ) (x : ℕ) → new ≡ row ++ x ∷ [] → (y : ℕ) → Contains new y → Contains row y ⊎ (y ≡ x)
more_cases row new x push y h = elim (Contains-push_cases row x y (subst (λ (l : List ℕ). Contains l y) push h)) [
  | inl q ↦ inl q
  | inr q ↦ inr (sym q)
]

-- one target more in one row
pub edge_pushed : (rows new : List (List ℕ)) (m b : ℕ) → m < length rows → new ≡ set rows m (get_or rows m [] ++ b ∷ []) → (x y : ℕ) → HasEdge new x y ↔ (HasEdge rows x y ⊎ ((x ≡ m) × (y ≡ b)))
edge_pushed rows new m b lt is x y = elim (cases_eq x m) [
  | inl same ↦
      let here : get_or new x [] ≡ get_or rows x [] ++ b ∷ [] =
      ap (λ (l : List (List ℕ)). get_or l x []) is ∙ ap (λ k. get_or (set rows m (get_or rows m [] ++ b ∷ [])) k []) same ∙ get_or-set_same rows m (get_or rows m [] ++ b ∷ []) [] lt ∙ ap (λ k. get_or rows k [] ++ b ∷ []) (sym same) in (
        (λ h. elim (more_cases (get_or rows x []) (get_or new x []) b here y h) [ inl q ↦ inl q | inr e ↦ inr (same, e) ]),
        (λ h. elim h [
          | inl q ↦ more_kept (get_or rows x []) (get_or new x []) b here y q
          | inr e ↦ subst (λ z. HasEdge new x z) (sym e.1) (more_last (get_or rows x []) (get_or new x []) b here)
        ]),
      )
  | inr other ↦
      let there : get_or new x [] ≡ get_or rows x [] = ap (λ (l : List (List ℕ)). get_or l x []) is ∙ get_or-set_other rows m x (get_or rows m [] ++ b ∷ []) [] other in (
        (λ h. inl (subst (λ (l : List ℕ). Contains l y) there h)),
        (λ h. elim h [ inl q ↦ subst (λ (l : List ℕ). Contains l y) (sym there) q | inr e ↦ absurd (other e.0) ]),
      )
]

-- a node in the rows of its targets up to here
pub sources_next : (first rows new : List (List ℕ)) (targets : List ℕ) (node i : ℕ) → i < length targets → get_or targets i 0 < length rows → new ≡ set rows (get_or targets i 0) (get_or rows (get_or targets i 0) [] ++ node ∷ [])
    → ((b a : ℕ) → HasEdge rows b a ↔ (HasEdge first b a ⊎ ((a ≡ node) × ((k : ℕ) × (k < i) × (get_or targets k 0 ≡ b)))))
    → (b a : ℕ) → HasEdge new b a ↔ (HasEdge first b a ⊎ ((a ≡ node) × ((k : ℕ) × (k < i + 1) × (get_or targets k 0 ≡ b))))
sources_next first rows new targets node i lt in' is before b a =
    let step = edge_pushed rows new (get_or targets i 0) node in' is b a in (
      (λ h. elim (step.0 h) [
        | inl q ↦ elim ((before b a).0 q) [
          | inl e ↦ inl e
          | inr p ↦ inr (p.0, (p.1.0, (let less = p.1.1 in omega arith), p.1.2))
        ]
        | inr p ↦ inr (p.1, (i, omega arith, sym p.0))
      ]),
      (λ h. elim h [
        | inl e ↦ step.1 (inl ((before b a).1 (inl e)))
        | inr p ↦ elim (cases_lt p.1.0 i) [
          | inl less ↦ step.1 (inl ((before b a).1 (inr (p.0, (p.1.0, less, p.1.2)))))
          | inr more ↦
              let below = p.1.1 in
              let same : i ≡ p.1.0 = omega arith in
              step.1 (inr (sym p.1.2 ∙ ap (λ k. get_or targets k 0) (sym same), p.0))
        ]
      ]),
    )

-- in all of them
pub sources_end : (first rows : List (List ℕ)) (targets : List ℕ) (node i : ℕ) → i ≡ length targets → ((b a : ℕ) → HasEdge rows b a ↔ (HasEdge first b a ⊎ ((a ≡ node) × ((k : ℕ) × (k < i) × (get_or targets k 0 ≡ b)))))
    → (b a : ℕ) → HasEdge rows b a ↔ (HasEdge first b a ⊎ ((a ≡ node) × Contains targets b))
sources_end first rows targets node i end all b a = (
  (λ h. elim ((all b a).0 h) [
    | inl e ↦ inl e
    | inr p ↦ inr (p.0, subst (λ z. Contains targets z) p.1.2 (Contains-get_or targets p.1.0 0 (let less = p.1.1 in omega arith)))
  ]),
  (λ h. elim h [
    | inl e ↦ (all b a).1 (inl e)
    | inr p ↦ (all b a).1 (inr (p.0, (p.1.0, (let less = p.1.1 in omega arith), get_or_default targets p.1.0 0 b p.1.1 ∙ p.1.2)))
  ]),
)

-- a list that is written back whole
pub whole : {X : Type 0} (n : ℕ) (xs ys : List X) → length xs ≡ n → take n (xs ++ ys) ≡ xs
whole zero [] ys e = refl
whole (suc n) [] ys e = absurd (omega arith)
whole zero (x ∷ xs) ys e = absurd (omega arith)
whole (suc n) (x ∷ xs) ys e = ap (λ zs. x ∷ zs) (whole n xs ys (omega arith))

-- the edges of one node more are turned
pub turned_next : (g rows new : List (List ℕ)) (node : ℕ) (targets : List ℕ) → get_or g node [] ≡ targets → ((a b : ℕ) → HasEdge rows b a ↔ ((a < node) × HasEdge g a b))
    → ((b a : ℕ) → HasEdge new b a ↔ (HasEdge rows b a ⊎ ((a ≡ node) × Contains targets b))) → (a b : ℕ) → HasEdge new b a ↔ ((a < node + 1) × HasEdge g a b)
turned_next g rows new node targets row before step a b = (
  (λ h. elim ((step b a).0 h) [
    | inl q ↦ let p = (before a b).0 q in ((let less = p.0 in omega arith), p.1)
    | inr q ↦ ((let same = q.0 in omega arith), subst (λ k. HasEdge g k b) (sym q.0) (subst (λ (l : List ℕ). Contains l b) (sym row) q.1))
  ]),
  (λ p. elim (cases_lt a node) [
    | inl less ↦ (step b a).1 (inl ((before a b).1 (less, p.1)))
    | inr more ↦
        let below = p.0 in
        let same : a ≡ node = omega arith in
        (step b a).1 (inr (same, subst (λ (l : List ℕ). Contains l b) row (subst (λ k. HasEdge g k b) same p.1)))
  ]),
)

-- rows whose edges lead to nodes are in range
pub in_range : (rows : List (List ℕ)) (n : ℕ) → ((b a : ℕ) → HasEdge rows b a → a < n) → InRange rows n
in_range rows n h k d lt i e less =
    let row : get_or rows k [] ≡ get_or rows k d = get_or_default rows k [] d lt in
    h k (get_or (get_or rows k d) i e) (subst (λ (l : List ℕ). Contains l (get_or (get_or rows k d) i e)) (sym row) (Contains-get_or (get_or rows k d) i e less))
