use Rattle.std.proofs.Common.{◌≡◌, ◌⊎◌, ◌↔◌, ◌<◌, ◌≤◌, ◌+◌, ℕ, zero, suc, List, [], ◌∷◌, ◌++◌, get_or, length, inl, inr, ap, sym, ◌∙◌, subst, arith, refl, Vec, length-append, replicate, take}
use Rattle.std.proofs.Math.ListN.{set}
use Rattle.std.specs.Global.{Global}
use Rattle.std.proofs.Math.Seq.{get_or-append_seam, take-append_seam}
use Rattle.numbered_nodes.specs.Edges.{lists, HasEdge, InRange}
use Rattle.numbered_nodes.proofs.Rows.{row_at, no_edge_past}
use Rattle.numbered_nodes.specs.Needs.{Hub, link, away, into}
use Rattle.std.specs.List.{Contains}
use Rattle.std.proofs.lemmas.Bool.{cases_eq, cases_lt}
use Rattle.std.proofs.lemmas.List.{get_or_default, get_or_append_left, get_or-set_same, get_or-set_other}
use Rattle.std.proofs.lemmas.List.Elements.{Contains-get_or, Contains-append_left, Contains-append_cases}
use Rattle.numbered_nodes.proofs.Searches.{contains_last, Contains-one, length_lists}
use Rattle.numbered_nodes.specs.Away.{LeadsAway}

-- one more at the end
pub more_kept : (row new : List ℕ) (x : ℕ) → new ≡ row ++ x ∷ [] → (y : ℕ) → Contains row y → Contains new y
more_kept row new x push y h = subst (λ (l : List ℕ). Contains l y) (sym push) (Contains-append_left row (x ∷ []) y h)

pub more_last : (row new : List ℕ) (x : ℕ) → new ≡ row ++ x ∷ [] → Contains new x
more_last row new x push = subst (λ (l : List ℕ). Contains l x) (sym push) (contains_last row x)

pub more_cases : (row new : List ℕ) (x : ℕ) → new ≡ row ++ x ∷ [] → (y : ℕ) → Contains new y → Contains row y ⊎ (y ≡ x)
more_cases row new x push y h = elim (Contains-append_cases row (x ∷ []) y (subst (λ (l : List ℕ). Contains l y) push h)) [
  | inl q ↦ inl q
  | inr q ↦ inr (Contains-one x y q)
]

pub in_hubs : (targets loops row : List ℕ) (own n : ℕ) → length targets ≤ n → ((y : ℕ) → Contains targets y → Contains row y) → ((y : ℕ) → Contains row y → Contains targets y ⊎ LeadsAway targets loops own y)
    → ((i : ℕ) → i < n → (own ≡ get_or loops (get_or targets i 0) 0 → ⊥) → Contains row (length loops + get_or loops (get_or targets i 0) 0)) → (y : ℕ) → Contains row y ↔ (Contains targets y ⊎ LeadsAway targets loops own y)
in_hubs targets loops row own n len kept sound gone y = (
  sound y,
  (λ h. elim h [
    | inl q ↦ kept y q
    | inr q ↦
        let i = q.1.0 in
        let lt = q.1.1 in
        let at : get_or targets i 0 ≡ q.0 = get_or_default targets i 0 q.0 lt ∙ q.1.2 in
        let there = gone i (omega arith) (λ e. q.2 (e ∙ ap (λ z. get_or loops z 0) at)) in
        subst (λ z. Contains row z) (ap (λ z. length loops + get_or loops z 0) at ∙ sym q.3) there
  ]),
)

module _ (targets loops row : List ℕ) (own i theirs : ℕ) (lt : i < length targets) (at : theirs ≡ get_or loops (get_or targets i 0) 0)
    (gone : (j : ℕ) → j < i → (own ≡ get_or loops (get_or targets j 0) 0 → ⊥) → Contains row (length loops + get_or loops (get_or targets j 0) 0)) where
  pub away_pushed : (new : List ℕ) → new ≡ row ++ (length loops + theirs) ∷ [] → (j : ℕ) → j < i + 1 → (own ≡ get_or loops (get_or targets j 0) 0 → ⊥) → Contains new (length loops + get_or loops (get_or targets j 0) 0)
  away_pushed new push j h out = elim (cases_lt j i) [
    | inl less ↦ more_kept row new (length loops + theirs) push (length loops + get_or loops (get_or targets j 0) 0) (gone j less out)
    | inr more ↦
        let same : i ≡ j = omega arith in
        subst (λ z. Contains new (length loops + z)) (at ∙ ap (λ k. get_or loops (get_or targets k 0) 0) same) (more_last row new (length loops + theirs) push)
  ]

  pub away_same : theirs ≡ own → (j : ℕ) → j < i + 1 → (own ≡ get_or loops (get_or targets j 0) 0 → ⊥) → Contains row (length loops + get_or loops (get_or targets j 0) 0)
  away_same e j h out = elim (cases_lt j i) [
    | inl less ↦ gone j less out
    | inr more ↦
        let same : i ≡ j = omega arith in
        absurd (out (sym e ∙ at ∙ ap (λ k. get_or loops (get_or targets k 0) 0) same))
  ]

  pub sound_pushed : (new : List ℕ) → (theirs ≡ own → ⊥) → new ≡ row ++ (length loops + theirs) ∷ [] → ((y : ℕ) → Contains row y → Contains targets y ⊎ LeadsAway targets loops own y) → (y : ℕ) → Contains new y → Contains targets y ⊎ LeadsAway targets loops own y
  sound_pushed new out push before y h = elim (more_cases row new (length loops + theirs) push y h) [
    | inl q ↦ before y q
    | inr e ↦ inr (get_or targets i 0, Contains-get_or targets i 0 lt, (λ s. out (at ∙ sym s)), e ∙ ap (λ k. length loops + k) at)
  ]

edge_alike : (xs ys : List ℕ) (P : Type 0) (y : ℕ) → xs ≡ ys → (Contains ys y ↔ P) → Contains xs y ↔ P
edge_alike xs ys P y e h = subst (λ (l : List ℕ). Contains l y ↔ P) (sym e) h

pub edges_pushed : (rows new : List (Vec ℕ Global)) (v : Vec ℕ Global) (i : ℕ) (P : ℕ → ℕ → Type 0) → length rows ≡ i → new ≡ rows ++ v ∷ [] → ((y : ℕ) → Contains v.items y ↔ P i y)
    → ((x y : ℕ) → x < i → HasEdge (lists rows) x y ↔ P x y) → (x y : ℕ) → x < i + 1 → HasEdge (lists new) x y ↔ P x y
edges_pushed rows new v i P len push last before x y h =
    let long : length new ≡ length rows + 1 = ap length push ∙ length-append rows (v ∷ []) in
    elim (cases_lt x i) [
      | inl less ↦
          let row : get_or (lists new) x [] ≡ get_or (lists rows) x [] =
          row_at new x v (omega arith) ∙ ap (λ (w : Vec ℕ Global). w.items) (ap (λ (l : List (Vec ℕ Global)). get_or l x v) push ∙ get_or_append_left rows (v ∷ []) v x (omega arith)) ∙ sym (row_at rows x v (omega arith)) in
          edge_alike (get_or (lists new) x []) (get_or (lists rows) x []) (P x y) y row (before x y less)
      | inr more ↦
          let same : x ≡ length rows = omega arith in
          let same_i : i ≡ x = omega arith in
          let row : get_or (lists new) x [] ≡ v.items =
          row_at new x v (omega arith) ∙ ap (λ (w : Vec ℕ Global). w.items) (ap (λ (l : List (Vec ℕ Global)). get_or l x v) push ∙ ap (λ k. get_or (rows ++ v ∷ []) k v) same ∙ get_or-append_seam rows v [] v) in
          subst (λ k. HasEdge (lists new) x y ↔ P k y) same_i (edge_alike (get_or (lists new) x []) v.items (P i y) y row (last y))
    ]

module _ (g : List (List ℕ)) (loops : List ℕ) (within : (a b : ℕ) → HasEdge g a b → (a < length loops) × (b < length loops)) where
  abbrev H : ℕ → ℕ → Type 0
  H = Hub (HasEdge g) (λ a. get_or loops a 0) (length loops)

  from_node : {a y : ℕ} → H a y → a < length loops → HasEdge g a y ⊎ LeadsAway (get_or g a []) loops (get_or loops a 0) y
  from_node (link e) lt = inl e
  from_node (away {z = z} e out h) lt = inr (z, e, out, h)
  from_node (into h b) lt = absurd (omega arith)

  pub node_hub : (a y : ℕ) → a < length loops → (HasEdge g a y ⊎ LeadsAway (get_or g a []) loops (get_or loops a 0) y) ↔ H a y
  node_hub a y lt = ((λ h. elim h [ inl e ↦ link e | inr q ↦ away q.1 q.2 q.3 ]), (λ h. from_node h lt))

  from_loop : {x y : ℕ} → H x y → length loops ≤ x → (y < length loops) × (x ≡ length loops + get_or loops y 0)
  from_loop (link {a = a} {b = b} e) le = let lt = (within a b e).0 in absurd (omega arith)
  from_loop (away {a = a} {z = z} e out h) le = let lt = (within a z e).0 in absurd (omega arith)
  from_loop (into h lt) le = (lt, h)

pub edges_within : (g : List (Vec ℕ Global)) (n : ℕ) → length g ≡ n → InRange (lists g) n → (a b : ℕ) → HasEdge (lists g) a b → (a < n) × (b < n)
edges_within g n len range a b e = elim (cases_lt a n) [
  | inl lt ↦ (lt, subst (λ k. k < n) e.2 (range a [] (let w : a < length (lists g) = omega (arith, length_lists g) in w) e.0 b e.1))
  | inr ge ↦ absurd (no_edge_past g a b (omega arith) e)
]

pub both_iff : {A B C : Type 0} → (A ↔ B) → (B ↔ C) → A ↔ C
both_iff f g = ((λ a. g.0 (f.0 a)), (λ c. f.1 (g.1 c)))

pub node_row_hub : (g : List (List ℕ)) (loops : List ℕ) (within : (a b : ℕ) → HasEdge g a b → (a < length loops) × (b < length loops)) (a y : ℕ) (targets : List ℕ) → a < length loops → get_or g a [] ≡ targets
    → (Contains targets y ⊎ LeadsAway targets loops (get_or loops a 0) y) ↔ Hub (HasEdge g) (λ b. get_or loops b 0) (length loops) a y
node_row_hub g loops within a y targets lt row = subst (λ (ts : List ℕ). (Contains ts y ⊎ LeadsAway ts loops (get_or loops a 0) y) ↔ Hub (HasEdge g) (λ b. get_or loops b 0) (length loops) a y) row (node_hub g loops within a y lt)

-- rows with no target behind the others change no edge
none_there : (n x : ℕ) → get_or (replicate {A = List ℕ} n []) x [] ≡ []
none_there zero x = refl
none_there (suc n) zero = refl
none_there (suc n) (suc x) = none_there n x

padded : (rows : List (List ℕ)) (n x : ℕ) → get_or (rows ++ replicate n []) x [] ≡ get_or rows x []
padded [] n x = none_there n x
padded (row ∷ rows) n zero = refl
padded (row ∷ rows) n (suc x) = padded rows n x

-- one target more in one row
pub edge_pushed : (rows new : List (List ℕ)) (m b : ℕ) → m < length rows → new ≡ set rows m (get_or rows m [] ++ b ∷ []) → (x y : ℕ) → HasEdge new x y ↔ (HasEdge rows x y ⊎ ((x ≡ m) × (y ≡ b)))
edge_pushed rows new m b lt is x y = elim (cases_eq x m) [
  | inl same ↦
      let here : get_or new x [] ≡ get_or rows x [] ++ b ∷ [] =
      ap (λ (l : List (List ℕ)). get_or l x []) is ∙ ap (λ k. get_or (set rows m (get_or rows m [] ++ b ∷ [])) k []) same ∙ get_or-set_same rows m (get_or rows m [] ++ b ∷ []) [] lt ∙ ap (λ k. get_or rows k [] ++ b ∷ []) (sym same) in (
        (λ h. elim (more_cases (get_or rows x []) (get_or new x []) b here y h) [ inl q ↦ inl q | inr e ↦ inr (same, e) ]),
        (λ h. elim h [
          | inl q ↦ more_kept (get_or rows x []) (get_or new x []) b here y q
          | inr e ↦ subst (λ z. HasEdge new x z) (sym e.1) (more_last (get_or rows x []) (get_or new x []) b here)
        ]),
      )
  | inr other ↦
      let there : get_or new x [] ≡ get_or rows x [] = ap (λ (l : List (List ℕ)). get_or l x []) is ∙ get_or-set_other rows m x (get_or rows m [] ++ b ∷ []) [] other in (
        (λ h. inl (subst (λ (l : List ℕ). Contains l y) there h)),
        (λ h. elim h [ inl q ↦ subst (λ (l : List ℕ). Contains l y) (sym there) q | inr e ↦ absurd (other e.0) ]),
      )
]

-- each node before b stands in the row of its loop, and the next node goes into its own
pub members_next : (first rows new : List (List ℕ)) (loops : List ℕ) (b : ℕ) → (length loops + get_or loops b 0) < length rows → new ≡ set rows (length loops + get_or loops b 0) (get_or rows (length loops + get_or loops b 0) [] ++ b ∷ [])
    → ((x y : ℕ) → HasEdge rows x y ↔ (HasEdge first x y ⊎ ((y < b) × (x ≡ length loops + get_or loops y 0))))
    → (x y : ℕ) → HasEdge new x y ↔ (HasEdge first x y ⊎ ((y < b + 1) × (x ≡ length loops + get_or loops y 0)))
members_next first rows new loops b lt is before x y =
    let step = edge_pushed rows new (length loops + get_or loops b 0) b lt is x y in (
      (λ h. elim (step.0 h) [
        | inl q ↦ elim ((before x y).0 q) [
          | inl e ↦ inl e
          | inr p ↦ inr ((let less = p.0 in omega arith), p.1)
        ]
        | inr p ↦ inr ((let same = p.1 in omega arith), p.0 ∙ ap (λ k. length loops + get_or loops k 0) (sym p.1))
      ]),
      (λ h. elim h [
        | inl e ↦ step.1 (inl ((before x y).1 (inl e)))
        | inr p ↦ elim (cases_lt y b) [
          | inl less ↦ step.1 (inl ((before x y).1 (inr (less, p.1))))
          | inr more ↦
              let below = p.0 in
              let same : y ≡ b = omega arith in
              step.1 (inr (p.1 ∙ ap (λ k. length loops + get_or loops k 0) same, same))
        ]
      ]),
    )

pub members_end : (first rows : List (List ℕ)) (loops : List ℕ) (b : ℕ) → b ≡ length loops → ((x y : ℕ) → HasEdge rows x y ↔ (HasEdge first x y ⊎ ((y < b) × (x ≡ length loops + get_or loops y 0))))
    → (x y : ℕ) → HasEdge rows x y ↔ (HasEdge first x y ⊎ ((y < length loops) × (x ≡ length loops + get_or loops y 0)))
members_end first rows loops b end all = subst (λ m. (x y : ℕ) → HasEdge rows x y ↔ (HasEdge first x y ⊎ ((y < m) × (x ≡ length loops + get_or loops y 0)))) end all

-- the rows of the nodes, and behind them those of the loops with their members, are the graph of steps
pub step_edges : (g : List (List ℕ)) (loops : List ℕ) → ((a b : ℕ) → HasEdge g a b → (a < length loops) × (b < length loops)) → (rows : List (Vec ℕ Global)) (wide all : List (List ℕ)) → length rows ≡ length loops → wide ≡ lists rows ++ replicate (length loops) []
    → ((x y : ℕ) → x < length loops → HasEdge (lists rows) x y ↔ Hub (HasEdge g) (λ a. get_or loops a 0) (length loops) x y)
    → ((x y : ℕ) → HasEdge all x y ↔ (HasEdge wide x y ⊎ ((y < length loops) × (x ≡ length loops + get_or loops y 0))))
    → (x y : ℕ) → HasEdge all x y ↔ Hub (HasEdge g) (λ a. get_or loops a 0) (length loops) x y
step_edges g loops within rows wide all len is nodes members x y =
    let row : get_or wide x [] ≡ get_or (lists rows) x [] = ap (λ (l : List (List ℕ)). get_or l x []) is ∙ padded (lists rows) (length loops) x in
    let to : HasEdge wide x y → HasEdge (lists rows) x y = λ h. subst (λ (l : List ℕ). Contains l y) row h in
    elim (cases_lt x (length loops)) [
      | inl less ↦ (
        (λ h. elim ((members x y).0 h) [
          | inl e ↦ (nodes x y less).0 (to e)
          | inr p ↦ let at = p.1 in absurd (omega arith)
        ]),
        (λ h. (members x y).1 (inl (subst (λ (l : List ℕ). Contains l y) (sym row) ((nodes x y less).1 h)))),
      )
      | inr more ↦ (
        (λ h. elim ((members x y).0 h) [
          | inl e ↦ absurd (no_edge_past rows x y (omega arith) (to e))
          | inr p ↦ into p.1 p.0
        ]),
        (λ h. (members x y).1 (inr (from_loop g loops within h more))),
      )
    ]

-- a whole list that was lent and written
pub whole : {X : Type 0} (n : ℕ) (new old : List X) → length new ≡ n → take n (new ++ old) ≡ new
whole n new old len = subst (λ k. take k (new ++ old) ≡ new) len (take-append_seam new old)
