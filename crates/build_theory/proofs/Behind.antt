-- A node all of whose needs are of a set that is closed under needs stands behind them in the order.
use Rattle.std.proofs.Common.{◌≡◌, Bool, true, false, not, ◌&&◌, ◌||◌, List, [], ◌∷◌, ◌++◌, map, refl, ap, sym, ◌∙◌, subst, inl, inr, append_assoc}
use Rattle.std.specs.List.{list_any, list_all}
use Rattle.build_theory.specs.Build.{Tree, Language, is_node, is_need, has, is_ready, order}
use Rattle.build_theory.specs.Laws.{IsIn, IsExact}
use Rattle.build_theory.proofs.Lists.{both_ways, differ, clash, and_both, then_holds, all_holds, any_in, any_of, in_back, in_either, in_shuffled}
use Rattle.build_theory.proofs.Whole.{order_is_whole}
use Rattle.build_theory.proofs.Points.{taken_at}

pub fails_in : {X : Type 0} (p : X → Bool) (xs : List X) → list_all p xs ≡ false → (x : X) × IsIn x xs × (p x ≡ false)
fails_in p [] e = absurd (differ e)
fails_in p (x ∷ xs) e =
    both_ways (p x)
    (λ y. let k : list_all p (x ∷ xs) ≡ list_all p xs = rw y refl in let s = fails_in p xs (sym k ∙ e) in (s.0, inr s.1, s.2))
    (λ y. (x, inl refl, y))

pub fails_both : (b c : Bool) → (not b || c) ≡ false → (b ≡ true) × (c ≡ false)
fails_both true c e = (refl, e)
fails_both false c e = absurd (differ e)

module _ {G N S B K E R : Type 0} (l : Language G N S B K E R) (t : Tree G N S) where
  -- wherever m stands in the order, all that it needs stands before it
  abbrev pub IsPlaced : N → Type 0
  IsPlaced m = (before : List (N × S)) (q : N × S) (after : List (N × S)) → order l t ≡ before ++ q ∷ after → q.0 ≡ m → (n : N) → is_need l t m n ≡ true → list_any (λ p. l.same n p.0) before ≡ true

  -- each of a set is placed, and all that it needs is of the set
  abbrev pub IsClosed : (N → Bool) → Type 0
  IsClosed sound = (m : N) → sound m ≡ true → IsPlaced m × ((n : N) → is_need l t m n ≡ true → sound n ≡ true)

module _ {G N S B K E R : Type 0} (l : Language G N S B K E R) (exact : IsExact l) where
  turned : (a b : N) → l.same a b ≡ true → l.same b a ≡ true
  turned a b e = subst (λ c. l.same c a ≡ true) (exact.tells a b e) (exact.itself a)

  has_same : (ks : List (N × S)) (m : N) → has l (map (λ p. p.0) ks) m ≡ list_any (λ p. l.same p.0 m) ks
  has_same [] m = refl
  has_same (k ∷ ks) m = ap (λ b. l.same k.0 m || b) (has_same ks m)

  pub listed_in : (ks : List (N × S)) (m : N) → has l (map (λ p. p.0) ks) m ≡ true → list_any (λ p. l.same m p.0) ks ≡ true
  listed_in ks m e =
      let s = any_in (λ (p : N × S). l.same p.0 m) ks (sym (has_same ks m) ∙ e) in
      any_of (λ (p : N × S). l.same m p.0) ks s.0 s.1 (turned s.0.0 m s.2)

  pub listed_of : (ks : List (N × S)) (m : N) → list_any (λ p. l.same m p.0) ks ≡ true → has l (map (λ p. p.0) ks) m ≡ true
  listed_of ks m e =
      let s = any_in (λ (p : N × S). l.same m p.0) ks e in
      has_same ks m ∙ any_of (λ (p : N × S). l.same p.0 m) ks s.0 s.1 (turned m s.0.0 s.2)

  module _ (t : Tree G N S) where
    module _ (sound : N → Bool) (closed : IsClosed l t sound) (before : List (N × S)) (q : N × S) (after : List (N × S)) (e : order l t ≡ before ++ q ∷ after)
        (none : (p : N × S) → IsIn p (q ∷ after) → is_ready l t (map (λ p. p.0) before) p.0 ≡ false) (other : sound q.0 ≡ false) where
      -- what the first of the set behind q needs is listed
      was_listed : (xs : List (N × S)) (y : N × S) (ys : List (N × S)) → after ≡ xs ++ y ∷ ys → ((x : N × S) → IsIn x xs → sound x.0 ≡ false) → sound y.0 ≡ true
          → (m : N) → is_need l t y.0 m ≡ true → has l (map (λ p. p.0) before) m ≡ false → ⊥
      was_listed xs y ys s others h m need unlisted =
          let c = closed y.0 h in
          let whole : order l t ≡ (before ++ q ∷ xs) ++ y ∷ ys = e ∙ ap (λ zs. before ++ q ∷ zs) s ∙ sym (append_assoc before (q ∷ xs) (y ∷ ys)) in
          let z = any_in (λ (p : N × S). l.same m p.0) (before ++ q ∷ xs) (c.0 (before ++ q ∷ xs) y ys whole refl m need) in
          let there : sound z.0.0 ≡ true = subst (λ k. sound k ≡ true) (exact.tells m z.0.0 z.2) (c.1 m need) in
          elim (in_either before (q ∷ xs) z.0 z.1) [
            | inl i ↦ clash (has l (map (λ p. p.0) before) m) (listed_of before m (any_of (λ (p : N × S). l.same m p.0) before z.0 i z.2)) unlisted
            | inr i ↦ elim i [
              | inl k ↦ clash (sound z.0.0) there (subst (λ (w : N × S). sound w.0 ≡ false) (sym k) other)
              | inr k ↦ clash (sound z.0.0) there (others z.0 k)
            ]
          ]

      -- and so none behind q is the first of the set
      not_first : (xs : List (N × S)) (y : N × S) (ys : List (N × S)) → after ≡ xs ++ y ∷ ys → ((x : N × S) → IsIn x xs → sound x.0 ≡ false) → sound y.0 ≡ true → ⊥
      not_first xs y ys s others h =
          let unready = none y (inr (subst (IsIn y) (sym s) (in_back xs y ys))) in
          let f = fails_in (λ r. not (is_need l t y.0 r.0) || has l (map (λ p. p.0) before) r.0) t.sources unready in
          let g = fails_both (is_need l t y.0 f.0.0) (has l (map (λ p. p.0) before) f.0.0) f.2 in
          was_listed xs y ys s others h f.0.0 g.0 g.1

      none_left : (ys xs : List (N × S)) → after ≡ xs ++ ys → ((x : N × S) → IsIn x xs → sound x.0 ≡ false) → (p : N × S) → IsIn p ys → sound p.0 ≡ false
      none_left [] xs s others p i = absurd i
      none_left (y ∷ ys) xs s others p i =
          let here : sound y.0 ≡ false = both_ways (sound y.0) (λ h. absurd (not_first xs y ys s others h)) (λ h. h) in
          elim i [
            | inl k ↦ subst (λ (w : N × S). sound w.0 ≡ false) (sym k) here
            | inr j ↦ none_left ys (xs ++ y ∷ []) (s ∙ sym (append_assoc xs (y ∷ []) ys)) (λ x k. elim (in_either xs (y ∷ []) x k) [
              | inl v ↦ others x v
              | inr v ↦ elim v [ inl w ↦ subst (λ (z : N × S). sound z.0 ≡ false) (sym w) here | inr w ↦ absurd w ]
            ]) p j
          ]

    -- a node outside the set all of whose needs are of it is placed
    pub stands_behind : (sound : N → Bool) → IsClosed l t sound → (m : N) → sound m ≡ false → ((n : N) → is_need l t m n ≡ true → sound n ≡ true) → IsPlaced l t m
    stands_behind sound closed m other ready before q after e same n need =
        let parts = and_both (is_node l t n) (not (l.same m n) && l.needs t m n) need in
        let node = any_in (λ (p : N × S). l.same n p.0) t.sources parts.0 in
        let at = exact.tells n node.0.0 node.2 in
        let needed : is_need l t q.0 node.0.0 ≡ true = subst (λ k. is_need l t k node.0.0 ≡ true) (sym same) (subst (λ k. is_need l t m k ≡ true) at need) in
        elim (taken_at l t before q after e) [
          | inl r ↦
              let all = all_holds (λ p. not (is_need l t q.0 p.0) || has l (map (λ p. p.0) before) p.0) t.sources node.0 node.1 r in
              subst (λ k. list_any (λ (p : N × S). l.same k p.0) before ≡ true) (sym at) (listed_in before node.0.0 (then_holds (is_need l t q.0 node.0.0) (has l (map (λ p. p.0) before) node.0.0) all needed))
          | inr none ↦
              let place : IsIn node.0 (before ++ q ∷ after) = subst (IsIn node.0) e (in_shuffled node.0 (order_is_whole l t) node.1) in
              let outside : sound q.0 ≡ false = subst (λ k. sound k ≡ false) (sym same) other in
              elim (in_either before (q ∷ after) node.0 place) [
                | inl i ↦ any_of (λ (p : N × S). l.same n p.0) before node.0 i node.2
                | inr i ↦ elim i [
                  | inl k ↦
                      let one : m ≡ n = sym same ∙ ap (λ (z : N × S). z.0) (sym k) ∙ sym at in
                      let apart = and_both (not (l.same m n)) (l.needs t m n) parts.1 in
                      absurd (clash (not (l.same m n)) apart.0 (ap not (subst (λ z. l.same m z ≡ true) one (exact.itself m))))
                  | inr k ↦ absurd (clash (sound node.0.0) (subst (λ z. sound z ≡ true) at (ready n need)) (none_left sound closed before q after e none outside after [] refl (λ x v. absurd v) node.0 k))
                ]
              ]
        ]
