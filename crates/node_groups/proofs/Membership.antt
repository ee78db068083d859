-- One member more.
use Rattle.std.proofs.Common.{◌≡◌, ◌↔◌, ℕ, ◌+◌, ◌<◌, List, [], ◌∷◌, ◌++◌, get_or, length, ap, sym, ◌∙◌, subst, inl, inr, arith}
use Rattle.std.proofs.Math.ListN.{set}
use Rattle.std.proofs.Math.Seq.{get_or-append_seam}
use Rattle.std.specs.List.{Contains}
use Rattle.std.proofs.lemmas.Bool.{cases_eq, cases_lt}
use Rattle.std.proofs.lemmas.List.{get_or-set_same, get_or-set_other, get_or_append_left, length_push}
use Rattle.std.proofs.lemmas.List.Elements.{Contains-get_or}
use Rattle.numbered_nodes.specs.Edges.{HasEdge}
use Rattle.node_groups.proofs.Pushed.{edge_pushed}
use Rattle.node_groups.specs.Rising.{AreRising}

pub rising_push : (xs : List ℕ) (y : ℕ) → AreRising xs → ((a : ℕ) → Contains xs a → a < y) → AreRising (xs ++ y ∷ [])
rising_push xs y rising below i j lt less =
    let long : length (xs ++ y ∷ []) ≡ length xs + 1 = length_push xs y in
    let low : get_or (xs ++ y ∷ []) i 0 ≡ get_or xs i 0 = get_or_append_left xs (y ∷ []) 0 i (omega arith) in
    elim (cases_lt j (length xs)) [
      | inl inner ↦
          let high : get_or (xs ++ y ∷ []) j 0 ≡ get_or xs j 0 = get_or_append_left xs (y ∷ []) 0 j inner in
          let r = rising i j lt inner in omega arith
      | inr last ↦
          let end : j ≡ length xs = omega arith in
          let high : get_or (xs ++ y ∷ []) j 0 ≡ y = ap (λ k. get_or (xs ++ y ∷ []) k 0) end ∙ get_or-append_seam xs y [] 0 in
          let r = below (get_or xs i 0) (Contains-get_or xs i 0 (omega arith)) in omega arith
    ]

module _ (rows new : List (List ℕ)) (loops : List ℕ) (node : ℕ) (lt : get_or loops node 0 < length rows) (is : new ≡ set rows (get_or loops node 0) (get_or rows (get_or loops node 0) [] ++ node ∷ []))
    (members : (k a : ℕ) → HasEdge rows k a ↔ ((a < node) × (get_or loops a 0 ≡ k))) where
  pub members_next : (k a : ℕ) → HasEdge new k a ↔ ((a < node + 1) × (get_or loops a 0 ≡ k))
  members_next k a =
      let step = edge_pushed rows new (get_or loops node 0) node lt is k a in (
        (λ h. elim (step.0 h) [
          | inl q ↦ let p = (members k a).0 q in ((let less = p.0 in omega arith), p.1)
          | inr q ↦ ((let e = q.1 in omega arith), ap (λ z. get_or loops z 0) q.1 ∙ sym q.0)
        ]),
        (λ p. elim (cases_lt a node) [
          | inl less ↦ step.1 (inl ((members k a).1 (less, p.1)))
          | inr more ↦
              let below = p.0 in
              let same : a ≡ node = omega arith in
              step.1 (inr (sym p.1 ∙ ap (λ z. get_or loops z 0) same, same))
        ]),
      )

  pub rising_next : ((k : ℕ) → AreRising (get_or rows k [])) → (k : ℕ) → AreRising (get_or new k [])
  rising_next rising k = elim (cases_eq k (get_or loops node 0)) [
    | inl same ↦
        let here : get_or new k [] ≡ get_or rows k [] ++ node ∷ [] =
        ap (λ (l : List (List ℕ)). get_or l k []) is ∙ ap (λ z. get_or (set rows (get_or loops node 0) (get_or rows (get_or loops node 0) [] ++ node ∷ [])) z []) same ∙ get_or-set_same rows (get_or loops node 0) (get_or rows (get_or loops node 0) [] ++ node ∷ []) [] lt ∙ ap (λ z. get_or rows z [] ++ node ∷ []) (sym same) in
        subst AreRising (sym here) (rising_push (get_or rows k []) node (rising k) (λ a h. ((members k a).0 h).0))
    | inr other ↦
        let there : get_or new k [] ≡ get_or rows k [] = ap (λ (l : List (List ℕ)). get_or l k []) is ∙ get_or-set_other rows (get_or loops node 0) k (get_or rows (get_or loops node 0) [] ++ node ∷ []) [] other in
        subst AreRising (sym there) (rising k)
  ]
