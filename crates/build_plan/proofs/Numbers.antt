-- The order of a tree whose sources stand by node is that of its numbered nodes.
use Rattle.std.proofs.Common.{◌≡◌, ◌↔◌, ℕ, zero, suc, ◌+◌, ◌<◌, Bool, true, false, not, cond, ◌&&◌, ◌||◌, List, [], ◌∷◌, ◌++◌, append_assoc, length, get_or, take, Some, None, nat_eq, refl, ap, sym, ◌∙◌, subst, inl, inr, arith}
use Rattle.std.specs.declared.option.Option.{Option}
use Rattle.std.specs.Option.{option_map_or}
use Rattle.std.specs.List.{slice_get, remove, flat_map, AllByRecursion, Contains}
use Rattle.std.proofs.lemmas.Bool.{cases_eq, cases_lt}
use Rattle.std.proofs.lemmas.List.{append-nil}
use Rattle.std.proofs.lemmas.List.Folds.{list_any-append}
use Rattle.std.proofs.lemmas.List.Elements.{Contains-append_left, Contains-append_cases}
use Rattle.std.proofs.lemmas.Option.{same_Some, slice_get_within}
use Rattle.numbered_nodes.proofs.Booleans.{split_or, or_right, not_true, is_same, is_other, from_test}
use Rattle.numbered_nodes.proofs.Searches.{contains_last, Contains-one}
use Rattle.numbered_nodes.specs.Order.{IsNext, IsReady, IsOrder}
use Rattle.build_theory.specs.Build.{Tree, Language, is_node, is_need, has, is_ready, first_at, next_at, order_from, order}
use Rattle.build_theory.specs.Laws.{IsIn, IsOrdered, IsExact}
use Rattle.build_theory.proofs.Lists.{both_ways, clash, and_both, or_left, then_holds, any_of, all_of, all_holds, all_at}

-- how many places before one don't pass
abbrev rank : (ℕ → Bool) → ℕ → ℕ
rank p zero = 0
rank p (suc k) = cond (p zero) (rank (λ j. p (suc j)) k) (suc (rank (λ j. p (suc j)) k))

rank_zero : (p : ℕ → Bool) (k : ℕ) → ((j : ℕ) → j < k → p j ≡ true) → rank p k ≡ 0
rank_zero p zero h = refl
rank_zero p (suc k) h = rw (h 0 (omega arith)) (rank_zero (λ j. p (suc j)) k (λ j lt. h (suc j) (omega arith)))

module _ {X : Type 0} where
  -- the elements at the places that don't pass
  abbrev rest : (ℕ → Bool) → List X → List X
  rest p [] = []
  rest p (x ∷ xs) = cond (p zero) (rest (λ k. p (suc k)) xs) (x ∷ rest (λ k. p (suc k)) xs)

  at_rank : (p : ℕ → Bool) (xs : List X) (k : ℕ) (x : X) → slice_get xs k ≡ Some x → p k ≡ false → slice_get (rest p xs) (rank p k) ≡ Some x
  at_rank p [] k x e h = absurd (let no_ : ⊥ = cc in no_)
  at_rank p (y ∷ ys) zero x e h = rw h e
  at_rank p (y ∷ ys) (suc k) x e h = both_ways (p zero)
      (λ b. rw b (at_rank (λ j. p (suc j)) ys k x e h))
      (λ b. rw b (at_rank (λ j. p (suc j)) ys k x e h))

  rest_alike : (p r : ℕ → Bool) (xs : List X) → ((k : ℕ) → r k ≡ p k) → rest p xs ≡ rest r xs
  rest_alike p r [] h = refl
  rest_alike p r (x ∷ xs) h =
      let tail : rest (λ k. p (suc k)) xs ≡ rest (λ k. r (suc k)) xs = rest_alike (λ k. p (suc k)) (λ k. r (suc k)) xs (λ k. h (suc k)) in
      ap (λ b. cond b (rest (λ k. p (suc k)) xs) (x ∷ rest (λ k. p (suc k)) xs)) (sym (h 0)) ∙ ap (λ ys. cond (r 0) ys (x ∷ ys)) tail

  -- one place more passes
  without_rank : (p r : ℕ → Bool) (xs : List X) (k : ℕ) → k < length xs → p k ≡ false → r k ≡ true → ((j : ℕ) → (j ≡ k → ⊥) → r j ≡ p j) → remove (rest p xs) (rank p k) ≡ rest r xs
  without_rank p r [] k lt e f h = absurd (omega arith)
  without_rank p r (x ∷ xs) zero lt e f h = rw (e, f) (rest_alike (λ j. p (suc j)) (λ j. r (suc j)) xs (λ j. h (suc j) (λ s. absurd (omega arith))))
  without_rank p r (x ∷ xs) (suc k) lt e f h =
      let tail : remove (rest (λ j. p (suc j)) xs) (rank (λ j. p (suc j)) k) ≡ rest (λ j. r (suc j)) xs = without_rank (λ j. p (suc j)) (λ j. r (suc j)) xs k (omega arith) e f (λ j out. h (suc j) (λ s. out (let t : j ≡ k = omega arith in t))) in
      let same : r 0 ≡ p 0 = h 0 (λ s. absurd (omega arith)) in
      both_ways (p 0)
      (λ b. let c : r 0 ≡ true = same ∙ b in rw (b, c) tail)
      (λ b. let c : r 0 ≡ false = same ∙ b in rw (b, c) (ap (λ (ys : List X). x ∷ ys) tail))

  rest_whole : (xs : List X) → rest (λ k. false) xs ≡ xs
  rest_whole [] = refl
  rest_whole (x ∷ xs) = ap (λ (ys : List X). x ∷ ys) (rest_whole xs)

  place_of : (xs : List X) (x : X) → IsIn x xs → (k : ℕ) × (slice_get xs k ≡ Some x)
  place_of [] x i = absurd i
  place_of (y ∷ ys) x i = elim i [
    | inl e ↦ (0, ap (λ z. Some z) (sym e))
    | inr j ↦ let s = place_of ys x j in (suc s.0, s.1)
  ]

  in_at : (xs : List X) (k : ℕ) (x : X) → slice_get xs k ≡ Some x → IsIn x xs
  in_at [] k x e = let no_ : ⊥ = cc in no_
  in_at (y ∷ ys) zero x e = inl (sym (same_Some y x e))
  in_at (y ∷ ys) (suc k) x e = inr (in_at ys k x e)

  element_at : (xs : List X) (k : ℕ) → k < length xs → (x : X) × (slice_get xs k ≡ Some x)
  element_at [] k lt = absurd (omega arith)
  element_at (x ∷ xs) zero lt = (x, refl)
  element_at (x ∷ xs) (suc k) lt = element_at xs k (omega arith)

either_way : (a b c d : Bool) → a ≡ c → b ≡ d → (a || (b || false)) ≡ (d || c)
either_way true true c d e f = rw (← e, ← f) refl
either_way true false c d e f = rw (← e, ← f) refl
either_way false true c d e f = rw (← e, ← f) refl
either_way false false c d e f = rw (← e, ← f) refl

module _ {G N S B K E R : Type 0} (l : Language G N S B K E R) where
  -- the node at the first place needs the one at the second
  abbrev pub need_at : Tree G N S → ℕ → ℕ → Bool
  need_at t a b = option_map_or (λ (m : N × S). option_map_or (λ (n : N × S). l.needs t m.0 n.0) (slice_get t.sources b) false) (slice_get t.sources a) false

  abbrev pub one : Option (N × S) → List (N × S)
  one (Some q) = q ∷ []
  one None = []

  -- each node is less than those behind it
  abbrev pub AreRising : List (N × S) → Type 0
  AreRising [] = Unit {0}
  AreRising (q ∷ qs) = AllByRecursion (λ (r : N × S). l.less q.0 r.0 ≡ true) qs × AreRising qs

  -- the first that is ready among those at the places that don't pass
  first_found : (ready : N × S → Bool) (p : ℕ → Bool) (xs : List (N × S)) (i k : ℕ) (q : N × S) → slice_get xs k ≡ Some q → p k ≡ false → ready q ≡ true
      → ((j : ℕ) (r : N × S) → j < k → slice_get xs j ≡ Some r → p j ≡ false → ready r ≡ false) → first_at l ready i (rest p xs) ≡ Some (i + rank p k)
  first_found ready p [] i k q e h y none = absurd (let no_ : ⊥ = cc in no_)
  first_found ready p (x ∷ xs) i zero q e h y none =
      let here : ready x ≡ true = ap ready (same_Some x q e) ∙ y in
      let at : i ≡ i + 0 = omega arith in
      rw (h, here) (ap (λ k. Some k) at)
  first_found ready p (x ∷ xs) i (suc k) q e h y none =
      both_ways (p 0)
      (λ b. rw b (first_found ready (λ j. p (suc j)) xs i k q e h y (λ j r lt. none (suc j) r (omega arith))))
      (λ b.
      let not_here : ready x ≡ false = none 0 x (omega arith) refl b in
      let tail = first_found ready (λ j. p (suc j)) xs (i + 1) k q e h y (λ j r lt. none (suc j) r (omega arith)) in
      let at : (i + 1) + rank (λ j. p (suc j)) k ≡ i + suc (rank (λ j. p (suc j)) k) = omega arith in
      rw (b, not_here) (tail ∙ ap (λ j. Some j) at))

  none_found : (ready : N × S → Bool) (p : ℕ → Bool) (xs : List (N × S)) (i : ℕ) → ((j : ℕ) (r : N × S) → slice_get xs j ≡ Some r → p j ≡ false → ready r ≡ false) → first_at l ready i (rest p xs) ≡ None
  none_found ready p [] i none = refl
  none_found ready p (x ∷ xs) i none =
      both_ways (p 0)
      (λ b. rw b (none_found ready (λ j. p (suc j)) xs i (λ j r. none (suc j) r)))
      (λ b. let not_here : ready x ≡ false = none 0 x refl b in rw (b, not_here) (none_found ready (λ j. p (suc j)) xs (i + 1) (λ j r. none (suc j) r)))

  module _ (o : IsOrdered l) (x : IsExact l) (t : Tree G N S) (rising : AreRising t.sources) where
    less_apart : (a b : N) → l.less a b ≡ true → a ≡ b → ⊥
    less_apart a b e same = clash (l.less b a) (subst (λ c. l.less c a ≡ true) same (subst (λ c. l.less a c ≡ true) (sym same) e)) (o.apart a b e)

    apart_before : (qs : List (N × S)) → AreRising qs → (j k : ℕ) (q r : N × S) → j < k → slice_get qs j ≡ Some q → slice_get qs k ≡ Some r → q.0 ≡ r.0 → ⊥
    apart_before [] s j k q r lt e f same = let no_ : ⊥ = cc in no_
    apart_before (y ∷ ys) s j zero q r lt e f same = omega arith
    apart_before (y ∷ ys) s zero (suc k) q r lt e f same = less_apart y.0 r.0 (all_at (λ (z : N × S). l.less y.0 z.0 ≡ true) ys r (in_at ys k r f) s.0) (ap (λ (z : N × S). z.0) (same_Some y q e) ∙ same)
    apart_before (y ∷ ys) s (suc j) (suc k) q r lt e f same = apart_before ys s.1 j k q r (omega arith) e f same

    -- nodes at two places are two
    apart : (j k : ℕ) (q r : N × S) → (j ≡ k → ⊥) → slice_get t.sources j ≡ Some q → slice_get t.sources k ≡ Some r → q.0 ≡ r.0 → ⊥
    apart j k q r other e f same = elim (cases_lt j k) [
      | inl lt ↦ apart_before t.sources rising j k q r lt e f same
      | inr ge ↦ apart_before t.sources rising k j r q (let less : k < j = omega arith in less) f e (sym same)
    ]

    -- the test of nodes is that of their places
    same_places : (j k : ℕ) (q r : N × S) → slice_get t.sources j ≡ Some q → slice_get t.sources k ≡ Some r → l.same q.0 r.0 ≡ nat_eq k j
    same_places j k q r e f = elim (cases_eq k j) [
      | inl same ↦
          let one_ : q ≡ r = same_Some q r (sym e ∙ ap (slice_get t.sources) (sym same) ∙ f) in
          subst (λ (z : N × S). l.same q.0 z.0 ≡ true) one_ (x.itself q.0) ∙ sym (is_same k j same)
      | inr other ↦ not_true (l.same q.0 r.0) (λ h. apart j k q r (λ s. other (sym s)) e f (x.tells q.0 r.0 h)) ∙ sym (is_other k j other)
    ]

    abbrev n : ℕ
    n = length t.sources

    abbrev Need : ℕ → ℕ → Type 0
    Need a b = need_at t a b ≡ true

    need_is : (j k : ℕ) (q r : N × S) → slice_get t.sources j ≡ Some q → slice_get t.sources k ≡ Some r → need_at t j k ≡ l.needs t q.0 r.0
    need_is j k q r e f =
        ap (λ (a : Option (N × S)). option_map_or (λ (m : N × S). option_map_or (λ (n : N × S). l.needs t m.0 n.0) (slice_get t.sources k) false) a false) e
        ∙ ap (λ (b : Option (N × S)). option_map_or (λ (n : N × S). l.needs t q.0 n.0) b false) f

    -- the nodes that are listed are those at the places that are done
    module _ (done : List ℕ) (p : ℕ → Bool) (listed : List N) (tells : (k : ℕ) → (p k ≡ true) ↔ Contains done k) (names : (k : ℕ) (q : N × S) → slice_get t.sources k ≡ Some q → has l listed q.0 ≡ p k) where
      to_ready : (k : ℕ) (q : N × S) → slice_get t.sources k ≡ Some q → IsReady Need n (Contains done) k → is_ready l t listed q.0 ≡ true
      to_ready k q e ready = all_of (λ (r : N × S). not (is_need l t q.0 r.0) || has l listed r.0) t.sources (λ r i.
          both_ways (is_need l t q.0 r.0)
          (λ need.
          let at = place_of t.sources r i in
          let both = and_both (not (l.same q.0 r.0)) (l.needs t q.0 r.0) (and_both (is_node l t r.0) (not (l.same q.0 r.0) && l.needs t q.0 r.0) need).1 in
          let other : at.0 ≡ k → ⊥ = λ s. clash (not (l.same q.0 r.0)) both.0 (ap not (same_places k at.0 q r e at.1 ∙ is_same at.0 k s)) in
          or_right (not (is_need l t q.0 r.0)) (has l listed r.0) (names at.0 r at.1 ∙ (tells at.0).1 (ready at.0 (slice_get_within t.sources at.0 r at.1) (need_is k at.0 q r e at.1 ∙ both.1) other)))
          (λ none. or_left (not (is_need l t q.0 r.0)) (has l listed r.0) (ap not none)))

      of_ready : (k : ℕ) (q : N × S) → slice_get t.sources k ≡ Some q → is_ready l t listed q.0 ≡ true → IsReady Need n (Contains done) k
      of_ready k q e ready = λ z lz need other.
          let at = element_at t.sources z lz in
          let r = at.0 in
          let there : is_node l t r.0 ≡ true = any_of (λ (s : N × S). l.same r.0 s.0) t.sources r (in_at t.sources z r at.1) (x.itself r.0) in
          let unlike : not (l.same q.0 r.0) ≡ true = ap not (same_places k z q r e at.1 ∙ is_other z k other) in
          let needed : l.needs t q.0 r.0 ≡ true = sym (need_is k z q r e at.1) ∙ need in
          let is : is_need l t q.0 r.0 ≡ true = rw (there, unlike) needed in
          let listed_too = then_holds (is_need l t q.0 r.0) (has l listed r.0) (all_holds (λ (s : N × S). not (is_need l t q.0 s.0) || has l listed s.0) t.sources r (in_at t.sources z r at.1) ready) is in
          (tells z).0 (sym (names z r at.1) ∙ listed_too)

      next_is : (k : ℕ) (q : N × S) → slice_get t.sources k ≡ Some q → IsNext (IsReady Need n (Contains done)) (Contains done) n k → next_at l t listed (rest p t.sources) ≡ rank p k
      next_is k q e next =
          let ready : N × S → Bool = λ r. is_ready l t listed r.0 in
          let new : p k ≡ false = not_true (p k) (λ h. next.new ((tells k).0 h)) in
          elim next.least [
            | inl first ↦
                let found = first_found ready p t.sources 0 k q e new (to_ready k q e first.0) (λ j r lt f out. elim (first.1 j lt) [
                  | inl in_ ↦ absurd (clash (p j) ((tells j).1 in_) out)
                  | inr not_ready ↦ not_true (ready r) (λ h. not_ready (of_ready j r f h))
                ]) in
                let at : 0 + rank p k ≡ rank p k = omega arith in
                ap (λ (i : Option ℕ). option_map_or (λ j. j) i 0) found ∙ at
            | inr none ↦
                let missing = none_found ready p t.sources 0 (λ j r f out. elim (none.0 j (slice_get_within t.sources j r f)) [
                  | inl in_ ↦ absurd (clash (p j) ((tells j).1 in_) out)
                  | inr not_ready ↦ not_true (ready r) (λ h. not_ready (of_ready j r f h))
                ]) in
                ap (λ (i : Option ℕ). option_map_or (λ j. j) i 0) missing ∙ sym (rank_zero p k (λ j lt. (tells j).1 (none.1 j lt)))
          ]

      step : (m k : ℕ) (q : N × S) → slice_get t.sources k ≡ Some q → IsNext (IsReady Need n (Contains done)) (Contains done) n k
          → order_from l (suc m) t listed (rest p t.sources) ≡ q ∷ order_from l m t (listed ++ q.0 ∷ []) (rest (λ j. nat_eq j k || p j) t.sources)
      step m k q e next =
          let new : p k ≡ false = not_true (p k) (λ h. next.new ((tells k).0 h)) in
          let left = rest p t.sources in
          let out : remove left (rank p k) ≡ rest (λ j. nat_eq j k || p j) t.sources = without_rank p (λ j. nat_eq j k || p j) t.sources k next.node new (or_left (nat_eq k k) (p k) (is_same k k refl)) (λ j other. ap (λ b. b || p j) (is_other j k other)) in
          ap (λ i. option_map_or (λ (r : N × S). r ∷ order_from l m t (listed ++ r.0 ∷ []) (remove left i)) (slice_get left i) []) (next_is k q e next)
          ∙ ap (λ (i : Option (N × S)). option_map_or (λ (r : N × S). r ∷ order_from l m t (listed ++ r.0 ∷ []) (remove left (rank p k))) i []) (at_rank p t.sources k q e new)
          ∙ ap (λ (qs : List (N × S)). q ∷ order_from l m t (listed ++ q.0 ∷ []) qs) out

      names_next : (k : ℕ) (q : N × S) → slice_get t.sources k ≡ Some q → (j : ℕ) (r : N × S) → slice_get t.sources j ≡ Some r → has l (listed ++ q.0 ∷ []) r.0 ≡ (nat_eq j k || p j)
      names_next k q e j r f =
          list_any-append (λ m. l.same m r.0) listed (q.0 ∷ []) ∙ either_way (has l listed r.0) (l.same q.0 r.0) (p j) (nat_eq j k) (names j r f) (same_places k j q r e f)

      tells_next : (k j : ℕ) → ((nat_eq j k || p j) ≡ true) ↔ Contains (done ++ k ∷ []) j
      tells_next k j = (
        (λ h. elim (split_or (nat_eq j k) (p j) h) [
          | inl same ↦ subst (λ z. Contains (done ++ k ∷ []) z) (sym (from_test j k same)) (contains_last done k)
          | inr was ↦ Contains-append_left done (k ∷ []) j ((tells j).0 was)
        ]),
        (λ h. elim (Contains-append_cases done (k ∷ []) j h) [
          | inl was ↦ or_right (nat_eq j k) (p j) ((tells j).1 was)
          | inr last ↦ or_left (nat_eq j k) (p j) (is_same j k (Contains-one k j last))
        ]),
      )

    abbrev Next : List ℕ → ℕ → Type 0
    Next done k = IsNext (IsReady Need n (Contains done)) (Contains done) n k

    walk : (os done : List ℕ) (p : ℕ → Bool) (listed : List N) → ((k : ℕ) → (p k ≡ true) ↔ Contains done k) → ((k : ℕ) (q : N × S) → slice_get t.sources k ≡ Some q → has l listed q.0 ≡ p k)
        → ((i : ℕ) → i < length os → Next (done ++ take i os) (get_or os i 0)) → order_from l (length os) t listed (rest p t.sources) ≡ flat_map (λ k. one (slice_get t.sources k)) os
    walk [] done p listed tells names nexts = refl
    walk (k ∷ os) done p listed tells names nexts =
        let next : Next done k = subst (λ (d : List ℕ). Next d k) (append-nil done) (nexts 0 (omega arith)) in
        let at = element_at t.sources k next.node in
        step done p listed tells names (length os) k at.0 at.1 next
        ∙ ap (λ (qs : List (N × S)). at.0 ∷ qs) (walk os (done ++ k ∷ []) (λ j. nat_eq j k || p j) (listed ++ at.0.0 ∷ []) (tells_next done p listed tells names k) (names_next done p listed tells names k at.0 at.1)
        (λ i lt. subst (λ (d : List ℕ). Next d (get_or os i 0)) (sym (append_assoc done (k ∷ []) (take i os))) (nexts (suc i) (omega arith))))
        ∙ ap (λ (i : Option (N × S)). one i ++ flat_map (λ j. one (slice_get t.sources j)) os) (sym at.1)

    pub numbered : (os : List ℕ) → IsOrder Need n os → order l t ≡ flat_map (λ k. one (slice_get t.sources k)) os
    numbered os h =
        let len = h.0 in
        ap (λ (qs : List (N × S)). order_from l n t [] qs) (sym (rest_whole t.sources)) ∙ ap (λ m. order_from l m t [] (rest (λ k. false) t.sources)) (sym len)
        ∙ walk os [] (λ k. false) [] (λ k. ((λ e. absurd (let no_ : ⊥ = cc in no_)), (λ c. let lt = c.1 in absurd (omega arith)))) (λ k q e. refl) (λ i lt. h.1 i (omega arith))

  pub order_by_numbers : IsOrdered l → IsExact l → (t : Tree G N S) → AreRising t.sources → (os : List ℕ) → IsOrder (λ a b. need_at t a b ≡ true) (length t.sources) os
      → order l t ≡ flat_map (λ k. one (slice_get t.sources k)) os
  order_by_numbers o x t rising os h = numbered o x t rising os h
