-- A node before which there is no cycle stands behind its needs.
use Rattle.std.proofs.Common.{arith, ◌≡◌, ◌⊎◌, ℕ, zero, suc, ◌+◌, ◌<◌, ◌≤◌, Bool, true, false, not, ◌&&◌, ◌||◌, List, [], ◌∷◌, ◌++◌, map, refl, ap, sym, subst, inl, inr, cond}
use Rattle.std.specs.List.{list_any}
use Rattle.build_theory.specs.Build.{Tree, Language, is_node, is_need, has, is_ready, order}
use Rattle.build_theory.specs.Laws.{IsIn, IsExact}
use Rattle.build_theory.specs.Machine.{AreTransitive, HasNoCycleBefore, NeedsStandBefore}
use Rattle.build_theory.proofs.Lists.{both_ways, differ, clash, and_both, then_holds, all_holds, any_in, any_of, in_either, in_shuffled}
use Rattle.build_theory.proofs.Whole.{order_is_whole}
use Rattle.build_theory.proofs.Points.{taken_at}
use Rattle.build_theory.proofs.Behind.{IsPlaced, fails_in, fails_both, listed_in, listed_of}
use Rattle.build_theory.proofs.Places.{has_place}

-- how many of the elements pass
abbrev one_if : Bool → ℕ
one_if b = cond b 1 0

abbrev count : {X : Type 0} → (X → Bool) → List X → ℕ
count p [] = 0
count p (x ∷ xs) = one_if (p x) + count p xs

one_up : (b c : Bool) → (b ≡ true → c ≡ true) → one_if b ≤ one_if c
one_up false true h = omega arith
one_up false false h = omega arith
one_up true true h = omega arith
one_up true false h = absurd (differ (sym (h refl)))

one_more : (b c : Bool) → b ≡ false → c ≡ true → one_if b < one_if c
one_more false true h k = omega arith
one_more b false h k = absurd (differ (sym k))
one_more true c h k = absurd (differ h)

count_up : {X : Type 0} (p r : X → Bool) (xs : List X) → ((x : X) → p x ≡ true → r x ≡ true) → count p xs ≤ count r xs
count_up p r [] h = omega arith
count_up p r (x ∷ xs) h = omega (arith, one_up (p x) (r x) (h x), count_up p r xs h)

count_more : {X : Type 0} (p r : X → Bool) (xs : List X) (y : X) → ((x : X) → p x ≡ true → r x ≡ true) → IsIn y xs → p y ≡ false → r y ≡ true → count p xs < count r xs
count_more p r [] y h i e f = absurd i
count_more p r (x ∷ xs) y h (inl k) e f = omega (arith, one_more (p x) (r x) (subst (λ z. p z ≡ false) k e) (subst (λ z. r z ≡ true) k f), count_up p r xs h)
count_more p r (x ∷ xs) y h (inr k) e f = omega (arith, one_up (p x) (r x) (h x), count_more p r xs y h k e f)

both_hold : (b c : Bool) → b ≡ true → c ≡ true → (b && c) ≡ true
both_hold true c h k = k
both_hold false c h k = absurd (differ (sym h))

module _ {G N S B K E R : Type 0} (l : Language G N S B K E R) (exact : IsExact l) (t : Tree G N S) (chain : AreTransitive l t) where
  -- no node needs itself among the node and what it needs
  abbrev IsBelow : N → N → Type 0
  IsBelow m x = (m ≡ x) ⊎ (is_need l t m x ≡ true)

  parts : (a b : N) → is_need l t a b ≡ true → (is_node l t b ≡ true) × (not (l.same a b) ≡ true) × (l.needs t a b ≡ true)
  parts a b h =
      let p = and_both (is_node l t b) (not (l.same a b) && l.needs t a b) h in
      let q = and_both (not (l.same a b)) (l.needs t a b) p.1 in
      (p.0, q.0, q.1)

  -- a node that needs another, and doesn't need itself
  other : (a b : N) → l.needs t a a ≡ false → is_node l t b ≡ true → l.needs t a b ≡ true → is_need l t a b ≡ true
  other a b free node needs =
      both_ways (l.same a b)
      (λ y. absurd (clash (l.needs t a a) (subst (λ c. l.needs t a c ≡ true) (sym (exact.tells a b y)) needs) free))
      (λ y. both_hold (is_node l t b) (not (l.same a b) && l.needs t a b) node (both_hold (not (l.same a b)) (l.needs t a b) (ap not y) needs))

  not_itself : (m x : N) → HasNoCycleBefore l t m → IsBelow m x → l.needs t x x ≡ false
  not_itself m x free (inl e) = subst (λ z. l.needs t z z ≡ false) e free.0
  not_itself m x free (inr h) = free.1 x h

  below_on : (m x y : N) → HasNoCycleBefore l t m → IsBelow m x → is_need l t x y ≡ true → IsBelow m y
  below_on m x y free (inl e) h = inr (subst (λ z. is_need l t z y ≡ true) (sym e) h)
  below_on m x y free (inr k) h =
      let p = parts m x k in
      let q = parts x y h in
      inr (other m y free.0 q.0 (chain m x y p.2 q.2))

  -- what is left, where none of it is ready
  module _ (before : List (N × S)) (left : List (N × S)) (e : order l t ≡ before ++ left)
      (none : (p : N × S) → IsIn p left → is_ready l t (map (λ p. p.0) before) p.0 ≡ false) where
    -- one that is left needs another one that is left
    needs_one : (x : N × S) → IsIn x left → (r : N × S) × IsIn r left × (is_need l t x.0 r.0 ≡ true)
    needs_one x i =
        let f = fails_in (λ r. not (is_need l t x.0 r.0) || has l (map (λ p. p.0) before) r.0) t.sources (none x i) in
        let g = fails_both (is_need l t x.0 f.0.0) (has l (map (λ p. p.0) before) f.0.0) f.2 in
        let place : IsIn f.0 (before ++ left) = subst (IsIn f.0) e (in_shuffled f.0 (order_is_whole l t) f.1) in (
          f.0,
          (elim (in_either before left f.0 place) [
            | inl j ↦ absurd (clash (has l (map (λ p. p.0) before) f.0.0) (listed_of l exact before f.0.0 (any_of (λ (p : N × S). l.same f.0.0 p.0) before f.0 j (exact.itself f.0.0))) g.1)
            | inr j ↦ j
          ]),
          g.0,
        )

    descend : (n : ℕ) (m : N) → HasNoCycleBefore l t m → (x : N × S) → IsIn x left → IsBelow m x.0 → count (λ p. is_need l t x.0 p.0) left < n → ⊥
    descend zero m free x i b h = omega arith
    descend (suc n) m free x i b h =
        let r = needs_one x i in
        let fx : l.needs t x.0 x.0 ≡ false = not_itself m x.0 free b in
        let br : IsBelow m r.0.0 = below_on m x.0 r.0.0 free b r.2 in
        let fr : l.needs t r.0.0 r.0.0 ≡ false = not_itself m r.0.0 free br in
        let up : (p : N × S) → is_need l t r.0.0 p.0 ≡ true → is_need l t x.0 p.0 ≡ true = λ p k.
        let q = parts r.0.0 p.0 k in
        other x.0 p.0 fx q.0 (chain x.0 r.0.0 p.0 (parts x.0 r.0.0 r.2).2 q.2) in
        let own : is_need l t r.0.0 r.0.0 ≡ false = both_ways (is_need l t r.0.0 r.0.0) (λ y. absurd (clash (l.needs t r.0.0 r.0.0) (parts r.0.0 r.0.0 y).2 fr)) (λ y. y) in
        let less = count_more (λ (p : N × S). is_need l t r.0.0 p.0) (λ (p : N × S). is_need l t x.0 p.0) left r.0 up r.1 own r.2 in
        descend n m free r.0 r.1 br (omega (arith, less))

  placed : (m : N) → HasNoCycleBefore l t m → IsPlaced l t m
  placed m free before q after e same n need =
      let p = parts m n need in
      let node = any_in (λ (p : N × S). l.same n p.0) t.sources p.0 in
      let at = exact.tells n node.0.0 node.2 in
      let needed : is_need l t q.0 node.0.0 ≡ true = subst (λ k. is_need l t k node.0.0 ≡ true) (sym same) (subst (λ k. is_need l t m k ≡ true) at need) in
      elim (taken_at l t before q after e) [
        | inl r ↦
            let all = all_holds (λ p. not (is_need l t q.0 p.0) || has l (map (λ p. p.0) before) p.0) t.sources node.0 node.1 r in
            subst (λ k. list_any (λ (p : N × S). l.same k p.0) before ≡ true) (sym at) (listed_in l exact before node.0.0 (then_holds (is_need l t q.0 node.0.0) (has l (map (λ p. p.0) before) node.0.0) all needed))
        | inr none ↦ absurd (descend before (q ∷ after) e none (suc (count (λ p. is_need l t q.0 p.0) (q ∷ after))) m free q (inl refl) (inl (sym same)) (omega arith))
      ]

pub needs_stand_before : {G N S B K E R : Type 0} (l : Language G N S B K E R) → NeedsStandBefore l
needs_stand_before l exact t distinct chain q i free = has_place l t [] exact distinct q i (placed l exact t chain q.0 free)
