-- What is listed and tested where one goes from a number that passes to the next one that does.
use Rattle.std.proofs.Common.{◌≡◌, ℕ, ◌+◌, ◌<◌, ◌≤◌, Bool, true, false, ◌&&◌, ◌||◌, not, List, [], ◌∷◌, ◌++◌, get_or, length, nat_eq, refl, ap, sym, ◌∙◌, subst, arith}
use Rattle.std.specs.Prelude.{Result, Ok, Err, IfOk}
use Rattle.std.specs.List.{All}
use Rattle.mk_base.specs.declared.place.NodeId.{NodeId}
use Rattle.numbered_nodes.specs.Bits.{has}
use Rattle.numbered_nodes.proofs.Booleans.{is_same, from_test}
use Rattle.numbered_nodes.specs.Order.{IsOrder}
use Rattle.numbered_nodes.specs.Chains.{any_below, below}
use Rattle.mod_graph.specs.Graph.{ids}
use Rattle.mod_graph.specs.Seen.{ArePlaces, is_needed, is_place, places_needed}
use Rattle.numbered_nodes.proofs.Below.{NoneFrom, any_below_from, any_below_with, any_next, below_alike, below_skip, or_none, same_tests}
use Rattle.numbered_nodes.proofs.Chains.{and_both, both_and}
use Rattle.mod_graph.proofs.Placed.{below_push, order_has, order_range}

or_swap : (b c : Bool) → (b || c) ≡ (c || b)
or_swap true true = refl
or_swap true false = refl
or_swap false true = refl
or_swap false false = refl

-- what follows from a fact about what a call answers
pub if_ok : {X E : Type 0} (P Q : X → Type 0) (r : Result X E) → ((x : X) → P x → Q x) → IfOk r P → IfOk r Q
if_ok P Q (Ok x) f p = f x p
if_ok P Q (Err e) f p = tt

-- what stands in both of two sets or in neither isn't in the one outside the other
pub outside : (s t : Bool) → (s ≡ true → t ≡ true) → (not t && s) ≡ false
outside true true f = refl
outside true false f = absurd (let h : ⊥ = cc (f refl) in h)
outside false true f = refl
outside false false f = refl

-- what stands in a set outside another
pub stands : (s t : Bool) → s ≡ true → t ≡ false → (not t && s) ≡ true
stands s true e f = absurd (let h : ⊥ = cc in h)
stands s false e f = e

module _ (p : ℕ → Bool) where
  pub ids_found : (a b : ℕ) (xs ys : List NodeId) (x : NodeId) → ids xs ≡ below a p → a ≤ b → NoneFrom p a b → p b ≡ true → ys ≡ xs ++ x ∷ [] → x.0 ≡ b → ids ys ≡ below (b + 1) p
  ids_found a b xs ys x before le none there push same = below_push p b xs ys x (before ∙ sym (below_skip p a b le none)) there push same

-- the place of one more number in the row
pub place_found : (row places : List ℕ) (a b k : ℕ) (old new : Bool) → a ≤ b → NoneFrom (has row) a b → has row b ≡ true
    → old ≡ any_below a (λ r. has row r && nat_eq k (get_or places r 0)) → new ≡ (nat_eq k (get_or places b 0) || old) → new ≡ any_below (b + 1) (λ r. has row r && nat_eq k (get_or places r 0))
place_found row places a b k old new le none there before added =
    let p : ℕ → Bool = λ r. has row r && nat_eq k (get_or places r 0) in
    added ∙ or_swap (nat_eq k (get_or places b 0)) old ∙ ap (λ t. t || nat_eq k (get_or places b 0)) before
    ∙ ap (λ t. any_below a p || (t && nat_eq k (get_or places b 0))) (sym there)
    ∙ sym (any_next p a b le (λ r from to. ap (λ t. t && nat_eq k (get_or places r 0)) (none r from to)))

-- the places that invert an order
pub are_places : (R : ℕ → ℕ → Type 0) (n : ℕ) (os places : List ℕ) → IsOrder R n os → length places ≡ length os → All (λ k. k < length os) places
    → ((k : ℕ) → k < length os → get_or places (get_or os k 0) 0 ≡ k) → ArePlaces places os
are_places R n os places p many range at = record {
  count = many;
  range = range;
  order_range = λ k d lt. let size = p.0 in let less = order_range R n os p k d lt in omega arith;
  place_of = at;
  number_at = λ r lt.
      let size = p.0 in
      let there = order_has R n os p r (omega arith) in
      ap (λ x. get_or os (get_or places x 0) 0) (sym there.2) ∙ ap (λ j. get_or os j 0) (at there.0 there.1) ∙ there.2;
}

-- a place is that of a number in the row where the number at it is in the row
pub place_there : (row places order : List ℕ) → ArePlaces places order → (k : ℕ) → k < length order → is_place row places k ≡ has row (get_or order k 0)
place_there row places order are k lt = same_tests (is_place row places k) (has row (get_or order k 0))
    (λ yes.
    let s = any_below_with (length places) (λ r. has row r && nat_eq k (get_or places r 0)) yes in
    let both = and_both (has row s.0) (nat_eq k (get_or places s.0 0)) s.2 in
    let same = from_test k (get_or places s.0 0) both.1 in
    let many = are.count in
    let less = s.1 in
    subst (λ r. has row r ≡ true) (sym (ap (λ j. get_or order j 0) same ∙ are.number_at s.0 (omega arith))) both.0)
    (λ there.
    let many = are.count in
    let less = are.order_range k 0 lt in
    any_below_from (length places) (λ r. has row r && nat_eq k (get_or places r 0)) (get_or order k 0) (omega arith)
    (both_and (has row (get_or order k 0)) (nat_eq k (get_or places (get_or order k 0) 0)) there (is_same k (get_or places (get_or order k 0) 0) (sym (are.place_of k lt)))))

-- the places that were put together, without the own one, are those needed
pub needed_listed : (row places order placed skipped none : List ℕ) (place : ℕ) → ArePlaces places order → ((k : ℕ) → has none k ≡ false) → ((k : ℕ) → has skipped k ≡ (nat_eq k place || has none k))
    → ((k : ℕ) → has placed k ≡ is_place row places k) → below (length order) (λ k. not (has skipped k) && has placed k) ≡ places_needed row order place
needed_listed row places order placed skipped none place are empty own all = below_alike (length order) (λ k. not (has skipped k) && has placed k) (is_needed row order place) (λ k lt.
    ap (λ t. not t && has placed k) (own k ∙ or_none (nat_eq k place) (has none k) (empty k)) ∙ ap (λ t. not (nat_eq k place) && t) (all k ∙ place_there row places order are k lt))
