-- An order of the loops is an order of the groups.
use Rattle.std.proofs.Common.{◌≡◌, ◌⊎◌, ◌↔◌, ℕ, zero, suc, ◌+◌, ◌<◌, ◌≤◌, List, [], ◌∷◌, ◌++◌, get_or, take, length, map, refl, ap, sym, ◌∙◌, subst, inl, inr, arith}
use Rattle.std.proofs.Math.Seq.{get_or-append_seam}
use Rattle.std.specs.List.{All, Contains, filter}
use Rattle.std.proofs.lemmas.Bool.{cases_lt}
use Rattle.std.proofs.lemmas.List.{take_more, take_all, take-append-le, get_or_append_left, length_push, get_or_default, map-append}
use Rattle.std.proofs.lemmas.List.Elements.{Contains-get_or, Contains-append_left, Contains-push, Contains-push_cases, filter-append}
use Rattle.numbered_nodes.specs.Reach.{Reach, edge, onward, InOneLoop}
use Rattle.numbered_nodes.specs.Edges.{HasEdge}
use Rattle.numbered_nodes.proofs.ReachLaws.{chain, loop_sym}
use Rattle.node_groups.specs.Rising.{AreRising}
use Rattle.node_groups.specs.Order.{IsOrder, IsNext as IsNextNode}
use Rattle.node_groups.specs.Groups.{IsIn, IsClass, IsReady, IsNext, IsGroups}
use Rattle.node_groups.specs.Steps.{IsStep, is_some_list, in_order}

pub append_nil : {X : Type 0} (xs : List X) → xs ++ [] ≡ xs
append_nil [] = refl
append_nil (x ∷ xs) = ap (λ l. x ∷ l) (append_nil xs)

pub in_order-push : (rows : List (List ℕ)) (os : List ℕ) (k : ℕ) → in_order rows (os ++ k ∷ []) ≡ in_order rows os ++ filter is_some_list (get_or rows k [] ∷ [])
in_order-push rows os k = ap (filter is_some_list) (map-append (λ x. get_or rows x []) os (k ∷ [])) ∙ filter-append is_some_list (map (λ x. get_or rows x []) os) (get_or rows k [] ∷ [])

-- one group more
pub in_more : (gs : List (List ℕ)) (xs : List ℕ) (x : ℕ) → IsIn (gs ++ xs ∷ []) x ↔ (IsIn gs x ⊎ Contains xs x)
in_more gs xs x =
    let long : length (gs ++ xs ∷ []) ≡ length gs + 1 = length_push gs xs in (
      (λ h. elim (cases_lt h.0 (length gs)) [
        | inl less ↦ inl (h.0, less, subst (λ (l : List ℕ). Contains l x) (get_or_append_left gs (xs ∷ []) [] h.0 less) h.2)
        | inr more ↦
            let below = h.1 in
            let end : h.0 ≡ length gs = omega arith in
            inr (subst (λ (l : List ℕ). Contains l x) (ap (λ k. get_or (gs ++ xs ∷ []) k []) end ∙ get_or-append_seam gs xs [] []) h.2)
      ]),
      (λ h. elim h [
        | inl q ↦ (q.0, (let less = q.1 in omega arith), subst (λ (l : List ℕ). Contains l x) (sym (get_or_append_left gs (xs ∷ []) [] q.0 q.1)) q.2)
        | inr c ↦ (length gs, omega arith, subst (λ (l : List ℕ). Contains l x) (sym (get_or-append_seam gs xs [] [])) c)
      ]),
    )

module _ (g : List (List ℕ)) (n : ℕ) (loops : List ℕ) (rows steps : List (List ℕ))
    (same : (a b : ℕ) → a < n → b < n → (get_or loops a 0 ≡ get_or loops b 0) ↔ InOneLoop (HasEdge g) a b)
    (least : (a : ℕ) → a < n → (get_or loops a 0 ≤ a) × InOneLoop (HasEdge g) a (get_or loops a 0))
    (within : (a b : ℕ) → HasEdge g a b → (a < n) × (b < n))
    (leads : (k y : ℕ) → HasEdge steps k y ↔ IsStep g loops k y) where
  below : (a : ℕ) → a < n → get_or loops a 0 < n
  below a la = let w = (least a la).0 in omega arith

  idem : (a : ℕ) → a < n → get_or loops (get_or loops a 0) 0 ≡ get_or loops a 0
  idem a la = (same (get_or loops a 0) a (below a la) la).1 (loop_sym (least a la).1)

  -- a step is a way, and leads to another loop
  joined : (k a z y : ℕ) → InOneLoop (HasEdge g) k a → HasEdge g a z → InOneLoop (HasEdge g) z y → Reach (HasEdge g) k y
  joined k a z y p e q =
      let to : Reach (HasEdge g) k z = elim p [ inl s ↦ subst (λ v. Reach (HasEdge g) v z) (sym s) (edge e) | inr w ↦ chain w.0 (edge e) ] in
      elim q [ inl s ↦ subst (λ v. Reach (HasEdge g) k v) s to | inr w ↦ chain to w.0 ]

  step_way : (k y : ℕ) → HasEdge steps k y → Reach (HasEdge g) k y × (get_or loops k 0 ≡ k) × (get_or loops y 0 ≡ y) × (k < n) × (y < n) × (y ≡ k → ⊥)
  step_way k y h =
      let s = (leads k y).0 h in
      let a = s.0 in
      let w = s.2 in
      let in' = within a w.0 w.1 in
      let to = least a in'.0 in
      let on = least w.0 in'.1 in
      let ka : InOneLoop (HasEdge g) k a = subst (λ v. InOneLoop (HasEdge g) v a) s.1 (loop_sym to.1) in
      let zy : InOneLoop (HasEdge g) w.0 y = subst (λ v. InOneLoop (HasEdge g) w.0 v) w.2 on.1 in
      let ki : get_or loops k 0 ≡ k = subst (λ v. get_or loops v 0 ≡ v) s.1 (idem a in'.0) in
      let yi : get_or loops y 0 ≡ y = subst (λ v. get_or loops v 0 ≡ v) w.2 (idem w.0 in'.1) in
      let lk : k < n = subst (λ v. v < n) s.1 (below a in'.0) in
      let ly : y < n = subst (λ v. v < n) w.2 (below w.0 in'.1) in
      (joined k a w.0 y ka w.1 zy, ki, yi, lk, ly, w.3)

  steps_way : {k y : ℕ} → Reach (HasEdge steps) k y → Reach (HasEdge g) k y
  steps_way (edge {a = k} {b = y} e) = (step_way k y e).0
  steps_way (onward {a = k} {b = m} e p) = chain (step_way k m e).0 (steps_way p)

  first_step : {k y : ℕ} → Reach (HasEdge steps) k y → (m : ℕ) × HasEdge steps k m × ((m ≡ y) ⊎ Reach (HasEdge steps) m y)
  first_step (edge {b = y} e) = (y, e, inl refl)
  first_step (onward {b = m} e p) = (m, e, inr p)

  -- so steps have no cycle
  pub no_cycle : (k : ℕ) → Reach (HasEdge steps) k k → ⊥
  no_cycle k p =
      let f = first_step p in
      let w = step_way k f.0 f.1 in
      elim f.2 [
        | inl s ↦ w.5 s
        | inr q ↦
            let one : InOneLoop (HasEdge g) k f.0 = inr (w.0, steps_way q) in
            let e = (same k f.0 w.3 w.4).1 one in
            w.5 (sym w.2 ∙ sym e ∙ w.1)
      ]

  pub steps_range : (k y : ℕ) → HasEdge steps k y → y < n
  steps_range k y h = (step_way k y h).4

  module _ (members : (k a : ℕ) → HasEdge rows k a ↔ ((a < n) × (get_or loops a 0 ≡ k))) (rising : (k : ℕ) → AreRising (get_or rows k [])) where
    -- the first member of a loop is its number
    own : (k x : ℕ) → HasEdge rows k x → (k < n) × (get_or loops k 0 ≡ k)
    own k x h = let p = (members k x).0 h in (subst (λ v. v < n) p.1 (below x p.0), subst (λ v. get_or loops v 0 ≡ v) p.1 (idem x p.0))

    first_is : (k i : ℕ) → i < length (get_or rows k []) → get_or (get_or rows k []) i k ≡ k → k ≤ get_or (get_or rows k []) 0 0 → get_or (get_or rows k []) 0 0 ≡ k
    first_is k zero lt e le = get_or_default (get_or rows k []) 0 0 k lt ∙ e
    first_is k (suc i) lt e le =
        let r = rising k 0 (suc i) (omega arith) lt in
        let at : get_or (get_or rows k []) (suc i) 0 ≡ k = get_or_default (get_or rows k []) (suc i) 0 k lt ∙ e in
        absurd (omega arith)

    first_own : (k : ℕ) → 0 < length (get_or rows k []) → get_or (get_or rows k []) 0 0 ≡ k
    first_own k some =
        let m = get_or (get_or rows k []) 0 0 in
        let p = (members k m).0 (Contains-get_or (get_or rows k []) 0 0 some) in
        let le : k ≤ m = (let w = (least m p.0).0 in let e = p.1 in omega arith) in
        let o = own k m (Contains-get_or (get_or rows k []) 0 0 some) in
        let there = (members k k).1 o in
        first_is k there.0 there.1 there.2 le

    class_of : (k : ℕ) → 0 < length (get_or rows k []) → IsClass (HasEdge g) n (get_or rows k [])
    class_of k some =
        let f = first_own k some in
        let o = own k (get_or (get_or rows k []) 0 0) (Contains-get_or (get_or rows k []) 0 0 some) in
        record {
          some = some;
          members = λ x. subst (λ v. HasEdge rows k x ↔ ((x < n) × InOneLoop (HasEdge g) v x)) (sym f) (
            (λ h. let p = (members k x).0 h in (p.0, (same k x o.0 p.0).0 (o.1 ∙ sym p.1))),
            (λ p. (members k x).1 (p.0, sym ((same k x o.0 p.0).1 p.1) ∙ o.1)),
          );
          rising = rising k;
        }

    -- the groups so far are those of the loops so far
    abbrev Groups : List ℕ → List (List ℕ) → Type 0
    Groups done gs = ((x : ℕ) → IsIn gs x ↔ ((x < n) × Contains done (get_or loops x 0))) × ((i : ℕ) → i < length gs → IsNext (HasEdge g) n (IsIn (take i gs)) (get_or gs i []))

    next_of : (done : List ℕ) (gs : List (List ℕ)) (k : ℕ) → Groups done gs → 0 < length (get_or rows k []) → IsNextNode (HasEdge steps) n (Contains done) k → IsNext (HasEdge g) n (IsIn gs) (get_or rows k [])
    next_of done gs k sofar some p =
        let f = first_own k some in
        let o = own k (get_or (get_or rows k []) 0 0) (Contains-get_or (get_or rows k []) 0 0 some) in
        record {
          class = class_of k some;
          new = λ h. p.new (subst (λ v. Contains done v) (ap (λ v. get_or loops v 0) f ∙ o.1) ((sofar.0 (get_or (get_or rows k []) 0 0)).0 h).1);
          ready = subst (λ v. IsReady (HasEdge g) n (IsIn gs) v) (sym f) (λ a b in_a e out.
              let in' = within a b e in
              let ka : get_or loops a 0 ≡ k = sym ((same k a o.0 in'.0).1 in_a) ∙ o.1 in
              let other : get_or loops b 0 ≡ k → ⊥ = λ s. out ((same k b o.0 in'.1).0 (o.1 ∙ sym s)) in
              (sofar.0 b).1 (in'.1, p.ready (get_or loops b 0) ((leads k (get_or loops b 0)).1 (a, ka, (b, e, refl, other)))));
          least = λ y less ready.
              let lk = p.node in
              let low : y < k = omega arith in
              let ly : y < n = omega arith in
              let small : get_or loops y 0 < k = (let w = (least y ly).0 in omega arith) in
              (sofar.0 y).1 (
                ly,
                p.least (get_or loops y 0) small (λ z h.
                    let s = (leads (get_or loops y 0) z).0 h in
                    let w = s.2 in
                    let in' = within s.0 w.0 w.1 in
                    let in_a = (same y s.0 ly in'.0).0 (sym s.1) in
                    let out : InOneLoop (HasEdge g) y w.0 → ⊥ = λ one. w.3 (sym w.2 ∙ sym ((same y w.0 ly in'.1).1 one)) in
                    subst (λ v. Contains done v) w.2 ((sofar.0 w.0).0 (ready s.0 w.0 in_a w.1 out)).1),
              );
        }

    nexts_more : (gs : List (List ℕ)) (xs : List ℕ) → ((i : ℕ) → i < length gs → IsNext (HasEdge g) n (IsIn (take i gs)) (get_or gs i [])) → IsNext (HasEdge g) n (IsIn gs) xs → (i : ℕ) → i < length (gs ++ xs ∷ []) → IsNext (HasEdge g) n (IsIn (take i (gs ++ xs ∷ []))) (get_or (gs ++ xs ∷ []) i [])
    nexts_more gs xs before next i lt =
        let long : length (gs ++ xs ∷ []) ≡ length gs + 1 = length_push gs xs in
        let front : take i (gs ++ xs ∷ []) ≡ take i gs = take-append-le i gs (xs ∷ []) (omega arith) in
        elim (cases_lt i (length gs)) [
          | inl less ↦
              subst (λ (l : List (List ℕ)). IsNext (HasEdge g) n (IsIn l) (get_or (gs ++ xs ∷ []) i [])) (sym front)
              (subst (λ (l : List ℕ). IsNext (HasEdge g) n (IsIn (take i gs)) l) (sym (get_or_append_left gs (xs ∷ []) [] i less)) (before i less))
          | inr ge ↦
              let end : i ≡ length gs = omega arith in
              let all : take i (gs ++ xs ∷ []) ≡ gs = front ∙ take_all i gs (omega arith) in
              let at : get_or (gs ++ xs ∷ []) i [] ≡ xs = ap (λ k. get_or (gs ++ xs ∷ []) k []) end ∙ get_or-append_seam gs xs [] [] in
              subst (λ (l : List (List ℕ)). IsNext (HasEdge g) n (IsIn l) (get_or (gs ++ xs ∷ []) i [])) (sym all)
              (subst (λ (l : List ℕ). IsNext (HasEdge g) n (IsIn gs) l) (sym at) next)
        ]

    more_some : (done : List ℕ) (gs : List (List ℕ)) (k : ℕ) → Groups done gs → 0 < length (get_or rows k []) → IsNextNode (HasEdge steps) n (Contains done) k → Groups (done ++ k ∷ []) (gs ++ get_or rows k [] ∷ [])
    more_some done gs k sofar some p = (
      (λ x. (
        (λ h. elim ((in_more gs (get_or rows k []) x).0 h) [
          | inl q ↦ let w = (sofar.0 x).0 q in (w.0, Contains-append_left done (k ∷ []) (get_or loops x 0) w.1)
          | inr c ↦ let w = (members k x).0 c in (w.0, subst (λ v. Contains (done ++ k ∷ []) v) (sym w.1) (Contains-push done k))
        ]),
        (λ q. (in_more gs (get_or rows k []) x).1 (elim (Contains-push_cases done k (get_or loops x 0) q.1) [
          | inl c ↦ inl ((sofar.0 x).1 (q.0, c))
          | inr e ↦ inr ((members k x).1 (q.0, sym e))
        ])),
      )),
      nexts_more gs (get_or rows k []) sofar.1 (next_of done gs k sofar some p),
    )

    more_none : (done : List ℕ) (gs : List (List ℕ)) (k : ℕ) → Groups done gs → get_or rows k [] ≡ [] → Groups (done ++ k ∷ []) gs
    more_none done gs k sofar none = (
      (λ x. (
        (λ h. let w = (sofar.0 x).0 h in (w.0, Contains-append_left done (k ∷ []) (get_or loops x 0) w.1)),
        (λ q. elim (Contains-push_cases done k (get_or loops x 0) q.1) [
          | inl c ↦ (sofar.0 x).1 (q.0, c)
          | inr e ↦
              let h : Contains [] x = subst (λ (l : List ℕ). Contains l x) none ((members k x).1 (q.0, sym e)) in
              let lt = h.1 in absurd (omega arith)
        ]),
      )),
      sofar.1,
    )

    one_more : (done : List ℕ) (gs : List (List ℕ)) (k : ℕ) (row : List ℕ) → get_or rows k [] ≡ row → Groups done gs → IsNextNode (HasEdge steps) n (Contains done) k → Groups (done ++ k ∷ []) (gs ++ filter is_some_list (row ∷ []))
    one_more done gs k [] is sofar p = subst (λ (l : List (List ℕ)). Groups (done ++ k ∷ []) l) (sym (append_nil gs)) (more_none done gs k sofar is)
    one_more done gs k (x ∷ xs) is sofar p =
        let long : length (get_or rows k []) ≡ length (x ∷ xs) = ap (λ (l : List ℕ). length l) is in
        subst (λ (l : List ℕ). Groups (done ++ k ∷ []) (gs ++ l ∷ [])) is (more_some done gs k sofar (omega arith) p)

    fronts : (os : List ℕ) → IsOrder (HasEdge steps) n os → (i : ℕ) → i ≤ length os → Groups (take i os) (in_order rows (take i os))
    fronts os p zero le = (
      (λ x. ((λ h. let lt = h.1 in absurd (omega arith)), (λ q. let lt = q.1.1 in absurd (omega arith)))),
      (λ i lt. absurd (omega arith)),
    )
    fronts os p (suc i) le =
        let ih = fronts os p i (omega arith) in
        let k = get_or os i 0 in
        let next = p.1 i (omega arith) in
        let long : take (suc i) os ≡ take i os ++ k ∷ [] = subst (λ m. take m os ≡ take i os ++ k ∷ []) (let e : i + 1 ≡ suc i = omega arith in e) (take_more os i 0 (omega arith)) in
        let rest : in_order rows (take i os ++ k ∷ []) ≡ in_order rows (take i os) ++ filter is_some_list (get_or rows k [] ∷ []) = in_order-push rows (take i os) k in
        subst (λ (l : List ℕ). Groups l (in_order rows l)) (sym long) (subst (λ (l : List (List ℕ)). Groups (take i os ++ k ∷ []) l) (sym rest) (one_more (take i os) (in_order rows (take i os)) k (get_or rows k []) refl ih next))

    pub are_groups : (os : List ℕ) → IsOrder (HasEdge steps) n os → IsGroups (HasEdge g) n (in_order rows os)
    are_groups os p =
        let all = take_all (length os) os (omega arith) in
        let end = subst (λ (l : List ℕ). Groups l (in_order rows l)) all (fronts os p (length os) (omega arith)) in
        ((λ x lx. (end.0 x).1 (lx, p.0 (get_or loops x 0) (below x lx))), end.1)

pub order_nodes : (E : ℕ → ℕ → Type 0) (n : ℕ) (os : List ℕ) → IsOrder E n os → All (λ x. x < n) os
order_nodes E n os p i d lt = subst (λ x. x < n) (get_or_default os i 0 d lt) (p.1 i lt).node
