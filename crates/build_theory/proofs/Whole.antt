-- The order lists each node once.
use Rattle.std.proofs.Common.{arith, ◌≡◌, ℕ, zero, suc, ◌+◌, ◌<◌, ◌≤◌, Bool, List, [], ◌∷◌, ◌++◌, length, remove, slice_get, refl, ap, sym, subst, Some}
use Rattle.std.specs.declared.option.Option.{Option}
use Rattle.std.specs.Option.{option_map_or}
use Rattle.std.proofs.lemmas.List.Edits.{length-remove}
use Rattle.build_theory.specs.Build.{Tree, Language, first_at, is_ready, next_at, order_from}
use Rattle.build_theory.specs.Laws.{Shuffles, none, skip, swap, then_, OrderIsWhole}
use Rattle.build_theory.proofs.Lists.{both_ways, same_shuffled}

pub picked : {X : Type 0} (xs : List X) (i : ℕ) → i < length xs → (x : X) × (slice_get xs i ≡ Some x) × Shuffles xs (x ∷ remove xs i)
picked [] i h = absurd (omega arith)
picked (y ∷ ys) zero h = (y, refl, same_shuffled (y ∷ ys))
picked (y ∷ ys) (suc i) h =
    let p = picked ys i (omega arith) in
    (p.0, p.1, then_ (skip p.2) swap)

module _ {G N S B K E R : Type 0} (l : Language G N S B K E R) where
  place_within : (p : N × S → Bool) (i : ℕ) (qs : List (N × S)) (b : ℕ) → 0 < b → i + length qs ≤ b → option_map_or (λ k. k) (first_at l p i qs) 0 < b
  place_within p i [] b some h = some
  place_within p i (q ∷ qs) b some h =
      both_ways (p q)
      (λ y. let e : first_at l p i (q ∷ qs) ≡ Some i = rw y refl in rw e (let k : i < b = omega arith in k))
      (λ y. let e : first_at l p i (q ∷ qs) ≡ first_at l p (i + 1) qs = rw y refl in rw e (place_within p (i + 1) qs b some (omega arith)))

  pub next_within : (t : Tree G N S) (listed : List N) (left : List (N × S)) → 0 < length left → next_at l t listed left < length left
  next_within t listed left h = place_within (λ q. is_ready l t listed q.0) 0 left (length left) h (omega arith)

  pub whole_from : (n : ℕ) (t : Tree G N S) (listed : List N) (left : List (N × S)) → length left ≡ n → Shuffles left (order_from l n t listed left)
  whole_from zero t listed [] e = none
  whole_from zero t listed (q ∷ left) e = absurd (omega arith)
  whole_from (suc n) t listed left e =
      let i = next_at l t listed left in
      let within : i < length left = next_within t listed left (omega arith) in
      let p = picked left i within in
      let rest : length (remove left i) ≡ n = omega (arith, length-remove left i within) in
      let step : order_from l (suc n) t listed left ≡ p.0 ∷ order_from l n t (listed ++ p.0.0 ∷ []) (remove left i) =
      ap (λ (o : Option (N × S)). option_map_or (λ q. q ∷ order_from l n t (listed ++ q.0 ∷ []) (remove left i)) o []) p.1 in
      subst (Shuffles left) (sym step) (then_ p.2 (skip (whole_from n t (listed ++ p.0.0 ∷ []) (remove left i) rest)))

  pub order_is_whole : OrderIsWhole l
  order_is_whole t = whole_from (length t.sources) t [] t.sources refl
