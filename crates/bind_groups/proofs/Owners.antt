-- The bindings of names.
use Rattle.std.proofs.Common.{◌≡◌, ◌↔◌, ◌<◌, ◌+◌, ℕ, List, [], ◌∷◌, ◌++◌, get_or, length, inl, inr, ap, sym, ◌∙◌, subst, arith, Vec, length-append}
use Rattle.std.specs.Global.{Global}
use Rattle.std.specs.List.{Contains}
use Rattle.std.proofs.Math.Seq.{get_or-append_seam}
use Rattle.std.proofs.lemmas.Bool.{cases_lt}
use Rattle.std.proofs.lemmas.List.{get_or_default, get_or_append_left}
use Rattle.std.proofs.lemmas.List.Elements.{Contains-get_or, Contains-append_left, Contains-append_right, Contains-append_cases}
use Rattle.numbered_nodes.specs.Edges.{HasEdge, lists}
use Rattle.bind_groups.specs.Meets.{Meets}
use Rattle.numbered_nodes.proofs.Rows.{row_at, no_edge_past}

abbrev pub Upto : List ℕ → List (List ℕ) → ℕ → ℕ → Type 0
Upto names owners i j = (k : ℕ) × (k < i) × HasEdge owners (get_or names k 0) j

-- the bindings of one name more
pub targets_more : (names row new more : List ℕ) (owners : List (List ℕ)) (i : ℕ) → new ≡ row ++ more → get_or owners (get_or names i 0) [] ≡ more → ((j : ℕ) → Contains row j ↔ Upto names owners i j) → (j : ℕ) → Contains new j ↔ Upto names owners (i + 1) j
targets_more names row new more owners i push here before j = (
  (λ h. elim (Contains-append_cases row more j (subst (λ (l : List ℕ). Contains l j) push h)) [
    | inl q ↦ let p = (before j).0 q in (p.0, (let less = p.1 in omega arith), p.2)
    | inr q ↦ (i, omega arith, subst (λ (l : List ℕ). Contains l j) (sym here) q)
  ]),
  (λ p. subst (λ (l : List ℕ). Contains l j) (sym push) (elim (cases_lt p.0 i) [
    | inl less ↦ Contains-append_left row more j ((before j).1 (p.0, less, p.2))
    | inr top ↦
        let below = p.1 in
        let same : p.0 ≡ i = omega arith in
        Contains-append_right row more j (subst (λ (l : List ℕ). Contains l j) here (subst (λ k. HasEdge owners (get_or names k 0) j) same p.2))
  ])),
)

pub targets_end : (names row : List ℕ) (owners : List (List ℕ)) (i : ℕ) → i ≡ length names → ((j : ℕ) → Contains row j ↔ Upto names owners i j) → (j : ℕ) → Contains row j ↔ ((x : ℕ) × Contains names x × HasEdge owners x j)
targets_end names row owners i end all j = (
  (λ h. let p = (all j).0 h in (get_or names p.0 0, Contains-get_or names p.0 0 (let less = p.1 in omega arith), p.2)),
  (λ q.
      let c = q.1 in
      let at : get_or names c.0 0 ≡ q.0 = get_or_default names c.0 0 q.0 c.1 ∙ c.2 in
      (all j).1 (c.0, (let less = c.1 in omega arith), subst (λ x. HasEdge owners x j) (sym at) q.2)),
)

-- one row more behind the others
pub rows_pushed : (rows new : List (Vec ℕ Global)) (v : Vec ℕ Global) (i : ℕ) (P : ℕ → ℕ → Type 0) → length rows ≡ i → new ≡ rows ++ v ∷ [] → ((j : ℕ) → Contains v.items j ↔ P i j)
    → ((a j : ℕ) → a < i → HasEdge (lists rows) a j ↔ P a j) → (a j : ℕ) → a < i + 1 → HasEdge (lists new) a j ↔ P a j
rows_pushed rows new v i P len push last before a j h =
    let long : length new ≡ length rows + 1 = ap length push ∙ length-append rows (v ∷ []) in
    elim (cases_lt a i) [
      | inl less ↦
          let row : get_or (lists new) a [] ≡ get_or (lists rows) a [] =
          row_at new a v (omega arith) ∙ ap (λ (w : Vec ℕ Global). w.items) (ap (λ (l : List (Vec ℕ Global)). get_or l a v) push ∙ get_or_append_left rows (v ∷ []) v a (omega arith)) ∙ sym (row_at rows a v (omega arith)) in
          subst (λ (l : List ℕ). Contains l j ↔ P a j) (sym row) (before a j less)
      | inr more ↦
          let same : a ≡ length rows = omega arith in
          let same_i : i ≡ a = omega arith in
          let row : get_or (lists new) a [] ≡ v.items =
          row_at new a v (omega arith) ∙ ap (λ (w : Vec ℕ Global). w.items) (ap (λ (l : List (Vec ℕ Global)). get_or l a v) push ∙ ap (λ k. get_or (rows ++ v ∷ []) k v) same ∙ get_or-append_seam rows v [] v) in
          subst (λ k. HasEdge (lists new) a j ↔ P k j) same_i (subst (λ (l : List ℕ). Contains l j ↔ P i j) (sym row) (last j))
    ]

-- all rows
pub rows_end : (rows used : List (Vec ℕ Global)) (owners : List (List ℕ)) (i : ℕ) → length rows ≡ i → length used ≡ i
    → ((a j : ℕ) → a < i → HasEdge (lists rows) a j ↔ ((x : ℕ) × HasEdge (lists used) a x × HasEdge owners x j)) → (a j : ℕ) → HasEdge (lists rows) a j ↔ ((x : ℕ) × HasEdge (lists used) a x × HasEdge owners x j)
rows_end rows used owners i len wide all a j = elim (cases_lt a i) [
  | inl lt ↦ all a j lt
  | inr ge ↦ (
    (λ h. absurd (no_edge_past rows a j (omega arith) h)),
    (λ q. absurd (no_edge_past used a q.0 (omega arith) q.1)),
  )
]

module _ (used bound owners graph : List (List ℕ)) (known : (j x : ℕ) → HasEdge owners x j ↔ HasEdge bound j x) (edges : (i j : ℕ) → HasEdge graph i j ↔ ((x : ℕ) × HasEdge used i x × HasEdge owners x j)) where
  pub edge_depends : (i j : ℕ) → HasEdge graph i j → Meets used bound i j
  edge_depends i j h = let p = (edges i j).0 h in (p.0, p.1, (known j p.0).0 p.2)

  pub depends_edge : (i j : ℕ) → Meets used bound i j → HasEdge graph i j
  depends_edge i j d = (edges i j).1 (d.0, d.1, (known j d.0).1 d.2)
