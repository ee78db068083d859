-- The steps of one node more.
use Rattle.std.proofs.Common.{◌≡◌, ◌⊎◌, ◌↔◌, ℕ, ◌+◌, ◌<◌, ◌≤◌, List, [], ◌∷◌, ◌++◌, get_or, length, ap, sym, ◌∙◌, subst, inl, inr, arith}
use Rattle.std.proofs.Math.ListN.{set}
use Rattle.std.specs.List.{Contains}
use Rattle.std.proofs.lemmas.Bool.{cases_eq, cases_lt}
use Rattle.std.proofs.lemmas.List.{get_or_default, get_or-set_same, get_or-set_other}
use Rattle.std.proofs.lemmas.List.Elements.{Contains-get_or}
use Rattle.numbered_nodes.specs.Edges.{HasEdge}
use Rattle.node_groups.proofs.Pushed.{more_kept, more_last, more_cases}
use Rattle.node_groups.specs.Steps.{IsAway, IsStep}

abbrev pub Upto : List ℕ → List ℕ → ℕ → ℕ → ℕ → Type 0
Upto targets loops own i y = (k : ℕ) × (k < i) × (get_or loops (get_or targets k 0) 0 ≡ y) × (y ≡ own → ⊥)

module _ (first row targets loops : List ℕ) (own i : ℕ) (before : (y : ℕ) → Contains row y ↔ (Contains first y ⊎ Upto targets loops own i y)) where
  pub away_pushed : (new : List ℕ) → (get_or loops (get_or targets i 0) 0 ≡ own → ⊥) → new ≡ row ++ get_or loops (get_or targets i 0) 0 ∷ [] → (y : ℕ) → Contains new y ↔ (Contains first y ⊎ Upto targets loops own (i + 1) y)
  away_pushed new other push y =
      let theirs = get_or loops (get_or targets i 0) 0 in (
        (λ h. elim (more_cases row new theirs push y h) [
          | inl q ↦ elim ((before y).0 q) [
            | inl f ↦ inl f
            | inr p ↦ inr (p.0, (let less = p.1 in omega arith), p.2, p.3)
          ]
          | inr e ↦ inr (i, omega arith, sym e, (λ f. other (sym e ∙ f)))
        ]),
        (λ h. elim h [
          | inl f ↦ more_kept row new theirs push y ((before y).1 (inl f))
          | inr p ↦ elim (cases_lt p.0 i) [
            | inl less ↦ more_kept row new theirs push y ((before y).1 (inr (p.0, less, p.2, p.3)))
            | inr more ↦
                let below = p.1 in
                let same : i ≡ p.0 = omega arith in
                let e : theirs ≡ y = ap (λ k. get_or loops (get_or targets k 0) 0) same ∙ p.2 in
                subst (λ z. Contains new z) e (more_last row new theirs push)
          ]
        ]),
      )

  pub away_same : get_or loops (get_or targets i 0) 0 ≡ own → (y : ℕ) → Contains row y ↔ (Contains first y ⊎ Upto targets loops own (i + 1) y)
  away_same same y = (
    (λ h. elim ((before y).0 h) [
      | inl f ↦ inl f
      | inr p ↦ inr (p.0, (let less = p.1 in omega arith), p.2, p.3)
    ]),
    (λ h. elim h [
      | inl f ↦ (before y).1 (inl f)
      | inr p ↦ elim (cases_lt p.0 i) [
        | inl less ↦ (before y).1 (inr (p.0, less, p.2, p.3))
        | inr more ↦
            let below = p.1 in
            let here : i ≡ p.0 = omega arith in
            absurd (p.3 (sym p.2 ∙ ap (λ k. get_or loops (get_or targets k 0) 0) (sym here) ∙ same))
      ]
    ]),
  )

pub away_end : (first row targets loops : List ℕ) (own i : ℕ) → i ≡ length targets → ((y : ℕ) → Contains row y ↔ (Contains first y ⊎ Upto targets loops own i y)) → (y : ℕ) → Contains row y ↔ (Contains first y ⊎ IsAway targets loops own y)
away_end first row targets loops own i end all y = (
  (λ h. elim ((all y).0 h) [
    | inl f ↦ inl f
    | inr p ↦ inr (get_or targets p.0 0, Contains-get_or targets p.0 0 (let less = p.1 in omega arith), p.2, p.3)
  ]),
  (λ h. elim h [
    | inl f ↦ (all y).1 (inl f)
    | inr p ↦
        let c = p.1 in
        let at : get_or targets c.0 0 ≡ p.0 = get_or_default targets c.0 0 p.0 c.1 ∙ c.2 in
        (all y).1 (inr (c.0, (let less = c.1 in omega arith), ap (λ k. get_or loops k 0) at ∙ p.2, p.3))
  ]),
)

-- one node more
pub steps_next : (g rows new : List (List ℕ)) (loops row : List ℕ) (node : ℕ) → get_or loops node 0 < length rows → new ≡ set rows (get_or loops node 0) row
    → ((y : ℕ) → Contains row y ↔ (Contains (get_or rows (get_or loops node 0) []) y ⊎ IsAway (get_or g node []) loops (get_or loops node 0) y))
    → ((k y : ℕ) → HasEdge rows k y ↔ ((a : ℕ) × (a < node) × (get_or loops a 0 ≡ k) × IsAway (get_or g a []) loops k y))
    → (k y : ℕ) → HasEdge new k y ↔ ((a : ℕ) × (a < node + 1) × (get_or loops a 0 ≡ k) × IsAway (get_or g a []) loops k y)
steps_next g rows new loops row node lt is step before k y =
    let own = get_or loops node 0 in
    elim (cases_eq k own) [
      | inl same ↦
          let here : get_or new k [] ≡ row = ap (λ (l : List (List ℕ)). get_or l k []) is ∙ ap (λ z. get_or (set rows own row) z []) same ∙ get_or-set_same rows own row [] lt in (
            (λ h. elim ((step y).0 (subst (λ (l : List ℕ). Contains l y) here h)) [
              | inl q ↦
                  let p = (before k y).0 (subst (λ z. HasEdge rows z y) (sym same) q) in
                  (p.0, (let less = p.1 in omega arith), p.2, p.3)
              | inr w ↦ (node, omega arith, sym same, subst (λ z. IsAway (get_or g node []) loops z y) (sym same) w)
            ]),
            (λ p. subst (λ (l : List ℕ). Contains l y) (sym here) (elim (cases_lt p.0 node) [
              | inl less ↦ (step y).1 (inl (subst (λ z. HasEdge rows z y) same ((before k y).1 (p.0, less, p.2, p.3))))
              | inr more ↦
                  let below = p.1 in
                  let at : p.0 ≡ node = omega arith in
                  (step y).1 (inr (subst (λ z. IsAway (get_or g node []) loops z y) same (subst (λ a. IsAway (get_or g a []) loops k y) at p.3)))
            ])),
          )
      | inr other ↦
          let there : get_or new k [] ≡ get_or rows k [] = ap (λ (l : List (List ℕ)). get_or l k []) is ∙ get_or-set_other rows own k row [] other in (
            (λ h. let p = (before k y).0 (subst (λ (l : List ℕ). Contains l y) there h) in (p.0, (let less = p.1 in omega arith), p.2, p.3)),
            (λ p. subst (λ (l : List ℕ). Contains l y) (sym there) (elim (cases_lt p.0 node) [
              | inl less ↦ (before k y).1 (p.0, less, p.2, p.3)
              | inr more ↦
                  let below = p.1 in
                  let at : p.0 ≡ node = omega arith in
                  absurd (other (sym p.2 ∙ ap (λ a. get_or loops a 0) at))
            ])),
          )
    ]

pub steps_end : (g rows : List (List ℕ)) (loops : List ℕ) (node n : ℕ) → n ≤ node → ((a b : ℕ) → HasEdge g a b → a < n) → ((k y : ℕ) → HasEdge rows k y ↔ ((a : ℕ) × (a < node) × (get_or loops a 0 ≡ k) × IsAway (get_or g a []) loops k y)) → (k y : ℕ) → HasEdge rows k y ↔ IsStep g loops k y
steps_end g rows loops node n end within all k y = (
  (λ h. let p = (all k y).0 h in (p.0, p.2, p.3)),
  (λ s. let w = s.2 in let lt = within s.0 w.0 w.1 in (all k y).1 (s.0, (let l : s.0 < node = omega arith in l), s.1, s.2)),
)
