-- The nodes of an order by their places and by their numbers.
use Rattle.std.proofs.Common.{◌≡◌, ◌↔◌, ℕ, zero, suc, ◌+◌, ◌<◌, ◌≤◌, Bool, true, false, ◌&&◌, not, cond, eqb, List, [], ◌∷◌, ◌++◌, get_or, take, length, nat_eq, Some, refl, ap, sym, ◌∙◌, subst, inl, inr, arith, add-one}
use Rattle.std.specs.declared.option.Option.{Option}
use Rattle.std.specs.List.{All, AllByRecursion, Contains, IsDistinct, list_any, slice_get}
use Rattle.std.proofs.lemmas.Bool.{cases_lt}
use Rattle.std.proofs.lemmas.List.{get_or_default, map-append, take_more}
use Rattle.std.proofs.lemmas.List.Concat.{flat_map-append}
use Rattle.std.proofs.lemmas.Map.Steps.{length-le_from_distinct_below}
use Rattle.std.proofs.lemmas.Option.{slice_get_within, slice_get-get_or, get_or_from_slice_get}
use Rattle.mk_base.specs.declared.name.Node.{Node}
use Rattle.mk_base.specs.declared.place.NodeId.{NodeId}
use Rattle.numbered_nodes.specs.Bits.{has}
use Rattle.numbered_nodes.proofs.Booleans.{both_ways, not_true, split_or, or_right, from_test}
use Rattle.numbered_nodes.specs.Edges.{Relates}
use Rattle.numbered_nodes.specs.Order.{IsOrder}
use Rattle.mod_graph.specs.declared.entries.Entry.{Entry}
use Rattle.numbered_nodes.specs.Chains.{below}
use Rattle.mod_graph.specs.Edges.{number_of, needs}
use Rattle.mod_graph.specs.Graph.{nodes_at, one_node, needs_place, needs_in, ids}
use Rattle.mod_graph.specs.Seen.{is_needed, places_needed}
use Rattle.numbered_nodes.proofs.Below.{same_tests, below_alike}
use Rattle.numbered_nodes.proofs.Chains.{or_left}
use Rattle.mod_graph.proofs.NodeOrders.{node_at, number_is_place, needs_numbered}
use Rattle.mod_graph.proofs.Numbering.{any_with, element_at}
use Rattle.mod_graph.proofs.SortedHeaders.{AreApart}

-- one more number passes
pub below_push : (p : ℕ → Bool) (n : ℕ) (xs ys : List NodeId) (x : NodeId) → ids xs ≡ below n p → p n ≡ true → ys ≡ xs ++ x ∷ [] → x.0 ≡ n → ids ys ≡ below (n + 1) p
below_push p n xs ys x before there push same =
    ap ids push ∙ map-append (λ (m : NodeId). m.0) xs (x ∷ []) ∙ ap (λ (l : List ℕ). l ++ x.0 ∷ []) before ∙ ap (λ k. below n p ++ k ∷ []) same
    ∙ sym (ap (λ k. below k p) (add-one n) ∙ ap (λ b. below n p ++ cond b (n ∷ []) []) there)

in_front : (os : List ℕ) (i j : ℕ) → i < j → j ≤ length os → Contains (take j os) (get_or os i 0)
in_front [] i j lt le = absurd (omega arith)
in_front (o ∷ os) i zero lt le = absurd (omega arith)
in_front (o ∷ os) zero (suc j) lt le = (0, omega arith, refl)
in_front (o ∷ os) (suc i) (suc j) lt le = let h = in_front os i j (omega arith) (omega arith) in (suc h.0, (let less = h.1 in omega arith), h.2)

differs_from : (x : ℕ) (xs : List ℕ) → list_any (eqb x) xs ≡ false → AllByRecursion (λ y. eqb x y ≡ false) xs
differs_from x [] h = tt
differs_from x (y ∷ ys) h = both_ways (eqb x y)
    (λ t. absurd (let e : true ≡ false = sym (or_left (eqb x y) (list_any (eqb x) ys) t) ∙ h in cc))
    (λ f. (f, differs_from x ys (not_true (list_any (eqb x) ys) (λ t. let e : true ≡ false = sym (or_right (eqb x y) (list_any (eqb x) ys) t) ∙ h in cc))))

distinct_front : (x : ℕ) (xs : List ℕ) → list_any (eqb x) xs ≡ false → IsDistinct eqb xs → IsDistinct eqb (x ∷ xs)
unfolding IsDistinct
distinct_front x xs out rest = (differs_from x xs out, rest)

distinct_none : IsDistinct eqb []
unfolding IsDistinct
distinct_none = tt

-- numbers at different places are different
distinct_from : (xs : List ℕ) → ((i j : ℕ) → i < j → j < length xs → get_or xs i 0 ≡ get_or xs j 0 → ⊥) → IsDistinct eqb xs
distinct_from [] h = distinct_none
distinct_from (x ∷ xs) h = distinct_front x xs
    (not_true (list_any (eqb x) xs) (λ t.
    let s = any_with (eqb x) xs t in
    h 0 (suc s.0) (omega arith) (let lt = slice_get_within xs s.0 s.1 s.2 in omega arith) (from_test x s.1 s.3 ∙ sym (get_or_from_slice_get xs s.0 s.1 0 s.2))))
    (distinct_from xs (λ i j less lt same. h (suc i) (suc j) (omega arith) (omega arith) same))

module _ (R : ℕ → ℕ → Type 0) (n : ℕ) (os : List ℕ) (p : IsOrder R n os) where
  pub order_range : All (λ k. k < n) os
  order_range k d lt = let len = p.0 in subst (λ z. z < n) (get_or_default os k 0 d lt) (p.1 k (omega arith)).node

  pub no_repeat : (i j : ℕ) → i < j → j < length os → get_or os i 0 ≡ get_or os j 0 → ⊥
  no_repeat i j less lt same = let len = p.0 in (p.1 j (omega arith)).new (subst (λ x. Contains (take j os) x) same (in_front os i j less (omega arith)))

  pub order_once : (j k : ℕ) → j < length os → k < length os → get_or os j 0 ≡ get_or os k 0 → j ≡ k
  order_once j k lj lk same = elim (cases_lt j k) [
    | inl lt ↦ absurd (no_repeat j k lt lk same)
    | inr ge ↦ elim (cases_lt k j) [
      | inl lt ↦ absurd (no_repeat k j lt lj (sym same))
      | inr le ↦ omega arith
    ]
  ]

  -- each number stands in the order
  pub order_has : (r : ℕ) → r < n → (k : ℕ) × (k < length os) × (get_or os k 0 ≡ r)
  order_has r lt = both_ways (list_any (eqb r) os)
      (λ y. let s = any_with (eqb r) os y in (s.0, slice_get_within os s.0 s.1 s.2, get_or_from_slice_get os s.0 s.1 0 s.2 ∙ sym (from_test r s.1 s.3)))
      (λ out.
      let most = length-le_from_distinct_below (r ∷ os) n (distinct_front r os out (distinct_from os no_repeat)) (λ q h. elim (split_or (eqb q r) (list_any (eqb q) os) h) [
        | inl same ↦ subst (λ z. z < n) (sym (from_test q r same)) lt
        | inr more ↦
            let s = any_with (eqb q) os more in
            let at = get_or_from_slice_get os s.0 s.1 0 s.2 ∙ sym (from_test q s.1 s.3) in
            subst (λ z. z < n) at (order_range s.0 0 (slice_get_within os s.0 s.1 s.2))
      ]) in
      let len = p.0 in
      let size : length (r ∷ os) ≡ suc (length os) = refl in
      absurd (omega arith))

pub node_first : (es : List Entry) (o : ℕ) (os : List ℕ) (e : Entry) → slice_get es o ≡ Some e → nodes_at es (o ∷ os) ≡ e.node ∷ nodes_at es os
node_first es o os e p = ap (λ (x : Option Entry). one_node x ++ nodes_at es os) p

-- one more node is listed
pub node_next : (es : List Entry) (os : List ℕ) (i o : ℕ) (e : Entry) (ns ms : List Node) → i < length os → o ≡ get_or os i o → o < length es → ns ≡ nodes_at es (take i os) → ms ≡ ns ++ (get_or es o e).node ∷ []
    → ms ≡ nodes_at es (take (i + 1) os)
node_next es os i o e ns ms lt at lo before push =
    push ∙ ap (λ (l : List Node). l ++ (get_or es o e).node ∷ []) before ∙ ap (λ (l : List Node). nodes_at es (take i os) ++ l) (sym (node_first es o [] (get_or es o e) (slice_get-get_or es o e lo)))
    ∙ sym (flat_map-append (λ k. one_node (slice_get es k)) (take i os) (o ∷ []))
    ∙ ap (λ x. nodes_at es (take i os ++ x ∷ [])) at ∙ ap (nodes_at es) (sym (take_more os i o lt))

module _ (es : List Entry) where
  pub node_count : (os : List ℕ) → All (λ k. k < length es) os → length (nodes_at es os) ≡ length os
  node_count [] h = refl
  node_count (o ∷ os) h =
      let at = element_at es o (h 0 0 (omega arith)) in
      ap length (node_first es o os at.0 at.1) ∙ ap suc (node_count os (λ k d lt. h (suc k) d (omega arith)))

module _ (es : List Entry) (apart : AreApart es) (os : List ℕ) (p : IsOrder (λ a b. needs es a b ≡ true) (length es) os) where
  pub in_range : All (λ k. k < length es) os
  in_range = order_range (λ a b. needs es a b ≡ true) (length es) os p

  numbers_below : (k x : ℕ) → slice_get os k ≡ Some x → x < length es
  numbers_below k x h = subst (λ z. z < length es) (get_or_from_slice_get os k x 0 h) (in_range k 0 (slice_get_within os k x h))

  -- the number of the node at a place
  pub placed : (k : ℕ) (q : Node) → slice_get (nodes_at es os) k ≡ Some q → (k < length os) × (number_of es q ≡ Some (get_or os k 0))
  placed k q h =
      let s = node_at es os numbers_below k q h in (
        slice_get_within os k s.0 s.2,
        subst (λ d. number_of es d ≡ Some (get_or os k 0)) s.4 (number_is_place es apart s.0 s.1 s.3 ∙ ap (λ x. Some x) (sym (get_or_from_slice_get os k s.0 0 s.2))),
      )

  pub node_there : (k : ℕ) → k < length os → (m : Node) × (slice_get (nodes_at es os) k ≡ Some m)
  node_there k lt = let count = node_count es os in_range in element_at (nodes_at es os) k (omega arith)

  -- what a row of needs lists is what the node needs
  pub needs_listed : (rows : List (List ℕ)) → ((a b : ℕ) → a < length es → b < length es → Relates rows a b ↔ (needs es a b ≡ true))
      → (k : ℕ) (q : Node) → slice_get (nodes_at es os) k ≡ Some q → places_needed (get_or rows (get_or os k 0) []) os k ≡ needs_in es (nodes_at es os) k q
  needs_listed rows same k q h =
      let own = placed k q h in
      let a = get_or os k 0 in
      let row = get_or rows a [] in
      ap (λ n. below n (is_needed row os k)) (sym (node_count es os in_range))
      ∙ below_alike (length (nodes_at es os)) (is_needed row os k) (λ j. not (nat_eq j k) && needs_place es q (slice_get (nodes_at es os) j)) (λ j lt.
      let count = node_count es os in_range in
      let there = node_there j (omega arith) in
      let m = there.0 in
      let other = placed j m there.1 in
      let b = get_or os j 0 in
      let both = same a b (in_range k 0 own.0) (in_range j 0 other.0) in
      ap (λ t. not (nat_eq j k) && t) (same_tests (has row b) (needs es a b) both.0 both.1 ∙ sym (needs_numbered es q m a b own.1 other.1) ∙ ap (needs_place es q) (sym there.1)))
