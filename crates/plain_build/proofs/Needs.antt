-- The first need of a node that isn't sound, from what is kept of the nodes before it.
use Rattle.std.proofs.Common.{◌≡◌, ℕ, zero, suc, ◌<◌, ◌≤◌, Bool, true, false, ◌&&◌, not, cond, List, [], ◌∷◌, ◌++◌, length, refl, ap, sym, ◌∙◌, subst, inl, inr, Some, None, arith}
use Rattle.std.specs.Prelude.{slice_get, nat_eq}
use Rattle.std.specs.declared.option.Option.{Option}
use Rattle.std.specs.Option.{option_map, option_map_or}
use Rattle.std.specs.List.{find, list_any}
use Rattle.std.specs.Map.{lookup}
use Rattle.std.proofs.lemmas.Bool.{cases_eq, cases_lt}
use Rattle.std.proofs.lemmas.List.{length-map}
use Rattle.std.proofs.lemmas.Option.{same_Some, slice_get-map, slice_get_past}
use Rattle.mk_base.specs.declared.name.Node.{Node}
use Rattle.mk_base.specs.declared.place.NodeId.{NodeId}
use Rattle.mk_base.specs.declared.diag.Diag.{Diag}
use Rattle.build_theory.specs.Build.{Outcome, outcomes, is_sound, is_need, is_sound_in, first_bad}
use Rattle.build_theory.specs.Laws.{IsIn, AreDistinct}
use Rattle.build_theory.proofs.Lists.{both_ways, differ, clash, all_at, look_yes, look_no}
use Rattle.numbered_nodes.proofs.Booleans.{is_same, is_other}
use Rattle.mod_graph.specs.Names.{same_node}
use Rattle.numbered_nodes.specs.Chains.{below}
use Rattle.mod_graph.specs.Edges.{needs_node}
use Rattle.mod_graph.specs.Graph.{entries, ids, needs_place, needs_in}
use Rattle.mod_graph.proofs.NodeTests.{node_itself}
use Rattle.plain_scope.specs.declared.scope.Content.{Content}
use Rattle.build_plan.specs.Tree.{planning, input_of, nodes_of}
use Rattle.plain_build.specs.Plain.{PlainTree, plain}
use Rattle.plain_build.specs.Result.{PlainJudged}
use Rattle.plain_build.specs.Soundness.{is_sound_at, first_unsound}
use Rattle.plain_build.specs.Done.{soundness}
use Rattle.build_plan.proofs.Spots.{in_at, one_spot, other_nodes}

abbrev Sources : Type 0
Sources = List (Node × List ℕ)

abbrev Results : Type 0
Results = List (Node × PlainJudged)

abbrev Outcomes : Type 0
Outcomes = List (Node × Outcome Node Content (List Diag))

-- the results are those of the first sources
abbrev pub Stands : Results → Sources → Type 0
Stands [] qs = Unit {0}
Stands (j ∷ js) [] = ⊥
Stands (j ∷ js) (q ∷ qs) = (j.0 ≡ q.0) × Stands js qs

other_before : (j : Node × PlainJudged) (p q : Node × List ℕ) (qs : Sources) (k : ℕ) → j.0 ≡ p.0 → AreDistinct planning (p ∷ qs) → slice_get qs k ≡ Some q → same_node q.0 j.0 ≡ false
other_before j p q qs k s d e = other_nodes q.0 j.0 (λ h. all_at (λ (g : Node × List ℕ). p.0 ≡ g.0 → ⊥) qs q (in_at qs k q e) d.0 (sym s ∙ sym h))

-- the result at a place is the one that is found for its node
pub standing : (js : Results) (qs : Sources) → Stands js qs → AreDistinct planning qs → (k : ℕ) (q : Node × List ℕ) → k < length js → slice_get qs k ≡ Some q
    → (j : Node × PlainJudged) × (slice_get js k ≡ Some j) × (lookup (same_node q.0) (outcomes js) ≡ Some j.1.outcome)
standing [] qs s d k q h e = absurd (omega arith)
standing (j ∷ js) [] s d k q h e = absurd s
standing (j ∷ js) (p ∷ qs) s d zero q h e =
    (j, refl, look_yes (same_node q.0) (j.0, j.1.outcome) (outcomes js) (subst (λ n. same_node q.0 n ≡ true) (ap (λ (z : Node × List ℕ). z.0) (sym (same_Some p q e)) ∙ sym s.0) (node_itself q.0)))
standing (j ∷ js) (p ∷ qs) s d (suc k) q h e =
    let rest = standing js qs s.1 d.1 k q (omega arith) e in
    (rest.0, rest.1, look_no (same_node q.0) (j.0, j.1.outcome) (outcomes js) (other_before j p q qs k s.0 d e) ∙ rest.2)

-- and none is found for a node behind them
pub not_yet : (js : Results) (qs : Sources) → Stands js qs → AreDistinct planning qs → (k : ℕ) (q : Node × List ℕ) → length js ≤ k → slice_get qs k ≡ Some q → lookup (same_node q.0) (outcomes js) ≡ None
not_yet [] qs s d k q h e = refl
not_yet (j ∷ js) [] s d k q h e = absurd s
not_yet (j ∷ js) (p ∷ qs) s d zero q h e = absurd (omega arith)
not_yet (j ∷ js) (p ∷ qs) s d (suc k) q h e = look_no (same_node q.0) (j.0, j.1.outcome) (outcomes js) (other_before j p q qs k s.0 d e) ∙ not_yet js qs s.1 d.1 k q (omega arith) e

kept_at : (js : Results) (k : ℕ) (j : Node × PlainJudged) → slice_get js k ≡ Some j → is_sound_at (soundness js) k ≡ is_sound j.1.outcome
kept_at js k j e =
    ap (λ (o : Option Bool). option_map_or (λ (b : Bool). b) o false) (slice_get-map (λ (j : Node × PlainJudged). is_sound j.1.outcome) js k ∙ ap (option_map (λ (j : Node × PlainJudged). is_sound j.1.outcome)) e)

kept_past : (js : Results) (k : ℕ) → length js ≤ k → is_sound_at (soundness js) k ≡ false
kept_past js k h =
    let count : length (soundness js) ≡ length js = length-map js (λ (j : Node × PlainJudged). is_sound j.1.outcome) in
    ap (λ (o : Option Bool). option_map_or (λ (b : Bool). b) o false) (slice_get_past (soundness js) k (omega arith))

-- whether the node at a place is sound
pub sound_at : (js : Results) (qs : Sources) → Stands js qs → AreDistinct planning qs → (k : ℕ) (q : Node × List ℕ) → slice_get qs k ≡ Some q → is_sound_in plain (outcomes js) q.0 ≡ is_sound_at (soundness js) k
sound_at js qs s d k q e = elim (cases_lt k (length js)) [
  | inl lt ↦ let j = standing js qs s d k q lt e in ap (λ o. option_map_or is_sound o false) j.2 ∙ sym (kept_at js k j.0 j.1)
  | inr ge ↦ ap (λ o. option_map_or is_sound o false) (not_yet js qs s d k q ge e) ∙ sym (kept_past js k ge)
]

-- the least number that passes, or there is none
abbrev pub IsLeast : (ℕ → Bool) → Option ℕ → Type 0
IsLeast p None = (k : ℕ) → p k ≡ false
IsLeast p (Some m) = (p m ≡ true) × ((k : ℕ) → k < m → p k ≡ false)

-- the same of the numbers below a bound
abbrev IsLeastBelow : ℕ → (ℕ → Bool) → Option ℕ → Type 0
IsLeastBelow n p None = (k : ℕ) → k < n → p k ≡ false
IsLeastBelow n p (Some m) = (m < n) × (p m ≡ true) × ((k : ℕ) → k < m → p k ≡ false)

abbrev or_else : {X : Type 0} → Option X → Option X → Option X
or_else (Some x) o = Some x
or_else None o = o

find_either : {X : Type 0} (f : X → Bool) (xs ys : List X) → find f (xs ++ ys) ≡ or_else (find f xs) (find f ys)
find_either f [] ys = refl
find_either f (x ∷ xs) ys = both_ways (f x)
    (λ e. ap (λ b. cond b (Some x) (find f (xs ++ ys))) e ∙ sym (ap (λ b. or_else (cond b (Some x) (find f xs)) (find f ys)) e))
    (λ e. ap (λ b. cond b (Some x) (find f (xs ++ ys))) e ∙ find_either f xs ys ∙ sym (ap (λ b. or_else (cond b (Some x) (find f xs)) (find f ys)) e))

module _ (p f : ℕ → Bool) where
  abbrev passes : ℕ → Bool
  passes k = p k && f k

  -- one more number that doesn't pass
  none_more : (n : ℕ) → ((k : ℕ) → k < n → passes k ≡ false) → passes n ≡ false → (k : ℕ) → k < suc n → passes k ≡ false
  none_more n h e k lt = elim (cases_eq k n) [
    | inl same ↦ ap passes same ∙ e
    | inr other ↦ h k (omega arith)
  ]

  last_found : (n : ℕ) → ((k : ℕ) → k < n → passes k ≡ false) → (b c : Bool) → p n ≡ b → f n ≡ c → IsLeastBelow (suc n) passes (find f (cond b (n ∷ []) []))
  last_found n h true true x y = subst (λ (c : Bool). IsLeastBelow (suc n) passes (cond c (Some n) None)) (sym y) (omega arith, ap (λ a. a && f n) x ∙ y, h)
  last_found n h true false x y = subst (λ (c : Bool). IsLeastBelow (suc n) passes (cond c (Some n) None)) (sym y) (none_more n h (ap (λ a. a && f n) x ∙ y))
  last_found n h false c x y = none_more n h (ap (λ a. a && f n) x)

  more_found : (n : ℕ) (o : Option ℕ) → IsLeastBelow n passes o → IsLeastBelow (suc n) passes (or_else o (find f (cond (p n) (n ∷ []) [])))
  more_found n (Some m) h = (let lt : m < n = h.0 in omega arith, h.1, h.2)
  more_found n None h = last_found n h (p n) (f n) refl refl

  found_below : (n : ℕ) → IsLeastBelow n passes (find f (below n p))
  found_below zero = λ k lt. absurd (omega arith)
  found_below (suc n) = subst (IsLeastBelow (suc n) passes) (sym (find_either f (below n p) (cond (p n) (n ∷ []) []))) (more_found n (find f (below n p)) (found_below n))

  found_least : (n : ℕ) (o : Option ℕ) → ((k : ℕ) → n ≤ k → passes k ≡ false) → IsLeastBelow n passes o → IsLeast passes o
  found_least n (Some m) none h = (h.1, h.2)
  found_least n None none h = λ k. elim (cases_lt k n) [ inl lt ↦ h k lt | inr ge ↦ none k ge ]

found_ids : (f : ℕ → Bool) (ns : List NodeId) → option_map (λ (n : NodeId). n.0) (find (λ (n : NodeId). f n.0) ns) ≡ find f (ids ns)
found_ids f [] = refl
found_ids f (n ∷ ns) = both_ways (f n.0)
    (λ e. ap (λ (b : Bool). option_map (λ (n : NodeId). n.0) (cond b (Some n) (find (λ (n : NodeId). f n.0) ns))) e ∙ sym (ap (λ (b : Bool). cond b (Some n.0) (find f (ids ns))) e))
    (λ e. ap (λ (b : Bool). option_map (λ (n : NodeId). n.0) (cond b (Some n) (find (λ (n : NodeId). f n.0) ns))) e ∙ found_ids f ns ∙ sym (ap (λ (b : Bool). cond b (Some n.0) (find f (ids ns))) e))

least_alike : (p q : ℕ → Bool) (o : Option ℕ) → ((k : ℕ) → q k ≡ p k) → IsLeast p o → IsLeast q o
least_alike p q None e h = λ k. e k ∙ h k
least_alike p q (Some x) e h = (e x ∙ h.0, λ k l. e k ∙ h.1 k l)

-- the node at a place
abbrev pub place_node : Sources → Option ℕ → Option Node
place_node qs None = None
place_node qs (Some k) = option_map_or (λ (q : Node × List ℕ). Some q.0) (slice_get qs k) None

abbrev at : (Node × List ℕ → Bool) → Sources → ℕ → Bool
at f qs k = option_map_or f (slice_get qs k) false

find_first : (t : PlainTree) (m : Node) (done : Outcomes) (qs : Sources) (o : Option ℕ)
    → IsLeast (λ k. at (λ (q : Node × List ℕ). is_need plain t m q.0 && not (is_sound_in plain done q.0)) qs k) o → first_bad plain t m done qs ≡ place_node qs o
find_first t m done [] None h = refl
find_first t m done [] (Some k) h = absurd (differ (sym h.0))
find_first t m done (q ∷ qs) None h = ap (λ b. cond b (Some q.0) (first_bad plain t m done qs)) (h 0) ∙ find_first t m done qs None (λ k. h (suc k))
find_first t m done (q ∷ qs) (Some zero) h = ap (λ b. cond b (Some q.0) (first_bad plain t m done qs)) h.0
find_first t m done (q ∷ qs) (Some (suc k)) h =
    ap (λ b. cond b (Some q.0) (first_bad plain t m done qs)) (h.1 0 (omega arith)) ∙ find_first t m done qs (Some k) (h.0, λ i l. h.1 (suc i) (omega arith))

-- where there is none all needs are sound
pub none_bad : (t : PlainTree) (m : Node) (done : Outcomes) (qs : Sources) → first_bad plain t m done qs ≡ None → (q : Node × List ℕ) → IsIn q qs → is_need plain t m q.0 ≡ true → is_sound_in plain done q.0 ≡ true
none_bad t m done [] e q i need = absurd i
none_bad t m done (p ∷ qs) e q i need =
    let bad : Node × List ℕ → Bool = λ r. is_need plain t m r.0 && not (is_sound_in plain done r.0) in
    both_ways (bad p)
    (λ y. absurd (let h : Some p.0 ≡ None = sym (ap (λ (b : Bool). cond b (Some p.0) (first_bad plain t m done qs)) y) ∙ e in let g : ⊥ = cc in g))
    (λ y.
    let rest : first_bad plain t m done qs ≡ None = sym (ap (λ (b : Bool). cond b (Some p.0) (first_bad plain t m done qs)) y) ∙ e in
    elim i [
      | inl s ↦ both_ways (is_sound_in plain done q.0)
          (λ z. z)
          (λ z. absurd (clash (bad q) (ap (λ b. b && not (is_sound_in plain done q.0)) need ∙ ap not z) (ap bad s ∙ y)))
      | inr j ↦ none_bad t m done qs rest q j need
    ])

module _ (t : PlainTree) (js : Results) (qs : Sources) (stands : Stands js qs) (apart : AreDistinct planning qs) (whole : (q : Node × List ℕ) → IsIn q qs → list_any (λ (p : Node × List ℕ). same_node q.0 p.0) t.sources ≡ true)
    (n : ℕ) (a : Node × List ℕ) (here : slice_get qs n ≡ Some a) where
  abbrev needed : ℕ → Bool
  needed k = not (nat_eq k n) && needs_place (entries (input_of t)) a.0 (slice_get (nodes_of qs) k)

  node_at : (k : ℕ) (q : Node × List ℕ) → slice_get qs k ≡ Some q → slice_get (nodes_of qs) k ≡ Some q.0
  node_at k q e = slice_get-map (λ (q : Node × List ℕ). q.0) qs k ∙ ap (option_map (λ (q : Node × List ℕ). q.0)) e

  same_places : (k : ℕ) (q : Node × List ℕ) → slice_get qs k ≡ Some q → same_node a.0 q.0 ≡ nat_eq k n
  same_places k q e = elim (cases_eq k n) [
    | inl s ↦
        let at : a ≡ q = same_Some a q (sym here ∙ ap (slice_get qs) (sym s) ∙ e) in
        subst (λ (x : Node × List ℕ). same_node a.0 x.0 ≡ true) at (node_itself a.0) ∙ sym (is_same k n s)
    | inr o ↦
        let other : k ≡ n → ⊥ = λ h. omega arith in
        other_nodes a.0 q.0 (λ h. other (one_spot qs apart k n q a e here (sym h))) ∙ sym (is_other k n other)
  ]

  -- a node at another place is a need where the graph says so
  pub need_at : (k : ℕ) (q : Node × List ℕ) → slice_get qs k ≡ Some q → is_need plain t a.0 q.0 ≡ needed k
  need_at k q e =
      ap (λ b. b && (not (same_node a.0 q.0) && needs_node (entries (input_of t)) a.0 q.0)) (whole q (in_at qs k q e))
      ∙ ap (λ b. not b && needs_node (entries (input_of t)) a.0 q.0) (same_places k q e)
      ∙ ap (λ (o : Option Node). not (nat_eq k n) && needs_place (entries (input_of t)) a.0 o) (sym (node_at k q e))

  nothing : (b c : Bool) → ((b && false) && c) ≡ false
  nothing true c = refl
  nothing false c = refl

  no_need : (k : ℕ) → slice_get qs k ≡ None → (needed k && not (is_sound_at (soundness js) k)) ≡ false
  no_need k e =
      let out : slice_get (nodes_of qs) k ≡ None = slice_get-map (λ (q : Node × List ℕ). q.0) qs k ∙ ap (option_map (λ (q : Node × List ℕ). q.0)) e in
      ap (λ (o : Option Node). (not (nat_eq k n) && needs_place (entries (input_of t)) a.0 o) && not (is_sound_at (soundness js) k)) out ∙ nothing (not (nat_eq k n)) (not (is_sound_at (soundness js) k))

  bad_at : (k : ℕ) (o : Option (Node × List ℕ)) → slice_get qs k ≡ o
      → option_map_or (λ (q : Node × List ℕ). is_need plain t a.0 q.0 && not (is_sound_in plain (outcomes js) q.0)) o false ≡ (needed k && not (is_sound_at (soundness js) k))
  bad_at k None e = sym (no_need k e)
  bad_at k (Some q) e = ap (λ b. b && not (is_sound_in plain (outcomes js) q.0)) (need_at k q e) ∙ ap (λ b. needed k && not b) (sound_at js qs stands apart k q e)

  abbrev unsound : ℕ → Bool
  unsound k = not (is_sound_at (soundness js) k)

  found_is : (needs : List NodeId) → ids needs ≡ needs_in (entries (input_of t)) (nodes_of qs) n a.0 → option_map (λ (n : NodeId). n.0) (first_unsound (soundness js) needs) ≡ find unsound (below (length (nodes_of qs)) needed)
  found_is needs are = found_ids unsound needs ∙ ap (find unsound) are

  -- a need that isn't sound has a place in the order
  pub unsound_within : (needs : List NodeId) → ids needs ≡ needs_in (entries (input_of t)) (nodes_of qs) n a.0 → (p : NodeId) → first_unsound (soundness js) needs ≡ Some p → p.0 < length qs
  unsound_within needs are p h =
      let e : find unsound (below (length (nodes_of qs)) needed) ≡ Some p.0 = sym (found_is needs are) ∙ ap (option_map (λ (n : NodeId). n.0)) h in
      let least = subst (IsLeastBelow (length (nodes_of qs)) (λ k. needed k && unsound k)) e (found_below needed unsound (length (nodes_of qs))) in
      subst (λ k. p.0 < k) (length-map qs (λ (q : Node × List ℕ). q.0)) least.0

  -- the first need that isn't sound, by the places of needs
  pub first_bad_is : (needs : List NodeId) → ids needs ≡ needs_in (entries (input_of t)) (nodes_of qs) n a.0
      → first_bad plain t a.0 (outcomes js) qs ≡ place_node qs (option_map (λ (n : NodeId). n.0) (first_unsound (soundness js) needs))
  first_bad_is needs are =
      let count : length (nodes_of qs) ≡ length qs = length-map qs (λ (q : Node × List ℕ). q.0) in
      let least : IsLeast (λ k. needed k && unsound k) (find unsound (below (length (nodes_of qs)) needed)) =
      found_least needed unsound (length (nodes_of qs)) (find unsound (below (length (nodes_of qs)) needed)) (λ k ge. no_need k (slice_get_past qs k (omega arith))) (found_below needed unsound (length (nodes_of qs))) in
      subst (λ (o : Option ℕ). first_bad plain t a.0 (outcomes js) qs ≡ place_node qs o) (sym (found_is needs are))
      (find_first t a.0 (outcomes js) qs (find unsound (below (length (nodes_of qs)) needed))
      (least_alike (λ k. needed k && unsound k) (λ k. at (λ (q : Node × List ℕ). is_need plain t a.0 q.0 && not (is_sound_in plain (outcomes js) q.0)) qs k) (find unsound (below (length (nodes_of qs)) needed))
      (λ k. bad_at k (slice_get qs k) refl) least))
