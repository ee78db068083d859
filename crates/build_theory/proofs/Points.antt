-- Where the order takes a node, that node is ready, or none of those that are left is.
use Rattle.std.proofs.Common.{arith, ◌≡◌, ◌⊎◌, ℕ, zero, suc, ◌+◌, ◌<◌, Bool, true, false, List, [], ◌∷◌, ◌++◌, length, map, remove, slice_get, refl, ap, sym, ◌∙◌, subst, Some, None, inl, inr, append_assoc, append-nil}
use Rattle.std.specs.declared.option.Option.{Option}
use Rattle.std.specs.Option.{option_map_or}
use Rattle.std.proofs.lemmas.List.Edits.{length-remove}
use Rattle.build_theory.specs.Build.{Tree, Language, first_at, is_ready, next_at, order_from, order}
use Rattle.build_theory.specs.Laws.{Shuffles, IsIn}
use Rattle.build_theory.proofs.Lists.{both_ways, in_shuffled, shuffled_back}
use Rattle.build_theory.proofs.Whole.{picked, next_within, whole_from}

not_empty : {X : Type 0} (xs : List X) (x : X) (ys : List X) → [] ≡ xs ++ x ∷ ys → ⊥
not_empty [] x ys e = cc
not_empty (y ∷ xs) x ys e = cc

module _ {G N S B K E R : Type 0} (l : Language G N S B K E R) where
  none_passes : (p : N × S → Bool) (i : ℕ) (qs : List (N × S)) → first_at l p i qs ≡ None → (x : N × S) → IsIn x qs → p x ≡ false
  none_passes p i [] e x h = absurd h
  none_passes p i (q ∷ qs) e x h =
      both_ways (p q)
      (λ y. let f : first_at l p i (q ∷ qs) ≡ Some i = rw y refl in let g : Some i ≡ None = sym f ∙ e in absurd (let k : ⊥ = cc in k))
      (λ y.
      let f : first_at l p i (q ∷ qs) ≡ first_at l p (i + 1) qs = rw y refl in
      elim h [ inl k ↦ ap p k ∙ y | inr k ↦ none_passes p (i + 1) qs (sym f ∙ e) x k ])

  some_passes : (p : N × S → Bool) (i : ℕ) (qs : List (N × S)) (k : ℕ) → first_at l p i qs ≡ Some k → (j : ℕ) × (k ≡ i + j) × (x : N × S) × (slice_get qs j ≡ Some x) × (p x ≡ true)
  some_passes p i [] k e = absurd (let h : ⊥ = cc in h)
  some_passes p i (q ∷ qs) k e =
      both_ways (p q)
      (λ y.
      let f : first_at l p i (q ∷ qs) ≡ Some i = rw y refl in
      let g : Some i ≡ Some k = sym f ∙ e in
      let h : i ≡ k = cc in
      (0, (let j : k ≡ i + 0 = omega arith in j), q, refl, y))
      (λ y.
      let f : first_at l p i (q ∷ qs) ≡ first_at l p (i + 1) qs = rw y refl in
      let s = some_passes p (i + 1) qs k (sym f ∙ e) in
      let at = s.1 in
      (suc s.0, (let j : k ≡ i + suc s.0 = omega (arith, at) in j), s.2, s.3, s.4))

  -- q is ready where these are listed, or none of q and what is left behind it is
  abbrev pub IsTaken : Tree G N S → List N → N × S → List (N × S) → Type 0
  IsTaken t listed q after = (is_ready l t listed q.0 ≡ true) ⊎ ((p : N × S) → IsIn p (q ∷ after) → is_ready l t listed p.0 ≡ false)

  taken_here : (t : Tree G N S) (listed : List N) (left : List (N × S)) (q p : N × S) (after : List (N × S)) → Shuffles left (q ∷ after) → slice_get left (next_at l t listed left) ≡ Some p → p ≡ q
      → (o : Option ℕ) → first_at l (λ q. is_ready l t listed q.0) 0 left ≡ o → IsTaken t listed q after
  taken_here t listed left q p after s at same None e = inr (λ x i. none_passes (λ q. is_ready l t listed q.0) 0 left e x (in_shuffled x (shuffled_back s) i))
  taken_here t listed left q p after s at same (Some k) e =
      let f = some_passes (λ q. is_ready l t listed q.0) 0 left k e in
      let place = f.1 in
      let next : next_at l t listed left ≡ f.0 = ap (λ o. option_map_or (λ (i : ℕ). i) o 0) e ∙ (let h : k ≡ f.0 = omega (arith, place) in h) in
      let one : Some f.2 ≡ Some p = sym f.3 ∙ ap (slice_get left) (sym next) ∙ at in
      let x : f.2 ≡ p = cc in
      inl (subst (λ (z : N × S). is_ready l t listed z.0 ≡ true) (x ∙ same) f.4)

  taken_from : (n : ℕ) (t : Tree G N S) (listed : List N) (left : List (N × S)) → length left ≡ n → (before : List (N × S)) (q : N × S) (after : List (N × S)) → order_from l n t listed left ≡ before ++ q ∷ after
      → IsTaken t (listed ++ map (λ p. p.0) before) q after
  taken_from zero t listed left long before q after e = absurd (not_empty before q after e)
  taken_from (suc n) t listed left long [] q after e =
      let i = next_at l t listed left in
      let within : i < length left = next_within l t listed left (omega arith) in
      let p = picked left i within in
      let step : order_from l (suc n) t listed left ≡ p.0 ∷ order_from l n t (listed ++ p.0.0 ∷ []) (remove left i) =
      ap (λ (o : Option (N × S)). option_map_or (λ q. q ∷ order_from l n t (listed ++ q.0 ∷ []) (remove left i)) o []) p.1 in
      let whole : Shuffles left (q ∷ after) = subst (Shuffles left) e (whole_from l (suc n) t listed left long) in
      let heads : p.0 ∷ order_from l n t (listed ++ p.0.0 ∷ []) (remove left i) ≡ q ∷ after = sym step ∙ e in
      let same : p.0 ≡ q = cc in
      subst (λ ks. IsTaken t ks q after) (sym (append-nil listed)) (taken_here t listed left q p.0 after whole p.1 same (first_at l (λ q. is_ready l t listed q.0) 0 left) refl)
  taken_from (suc n) t listed left long (b ∷ before) q after e =
      let i = next_at l t listed left in
      let within : i < length left = next_within l t listed left (omega arith) in
      let p = picked left i within in
      let step : order_from l (suc n) t listed left ≡ p.0 ∷ order_from l n t (listed ++ p.0.0 ∷ []) (remove left i) =
      ap (λ (o : Option (N × S)). option_map_or (λ q. q ∷ order_from l n t (listed ++ q.0 ∷ []) (remove left i)) o []) p.1 in
      let heads : p.0 ∷ order_from l n t (listed ++ p.0.0 ∷ []) (remove left i) ≡ b ∷ (before ++ q ∷ after) = sym step ∙ e in
      let same : p.0 ≡ b = cc in
      let tails : order_from l n t (listed ++ p.0.0 ∷ []) (remove left i) ≡ before ++ q ∷ after = cc in
      let rest : length (remove left i) ≡ n = omega (arith, length-remove left i within) in
      let told : (listed ++ p.0.0 ∷ []) ++ map (λ (p : N × S). p.0) before ≡ listed ++ b.0 ∷ map (λ (p : N × S). p.0) before =
      append_assoc listed (p.0.0 ∷ []) (map (λ (p : N × S). p.0) before) ∙ ap (λ (z : N × S). listed ++ z.0 ∷ map (λ (p : N × S). p.0) before) same in
      subst (λ ks. IsTaken t ks q after) told (taken_from n t (listed ++ p.0.0 ∷ []) (remove left i) rest before q after tails)

  pub taken_at : (t : Tree G N S) (before : List (N × S)) (q : N × S) (after : List (N × S)) → order l t ≡ before ++ q ∷ after → IsTaken t (map (λ p. p.0) before) q after
  taken_at t before q after e = taken_from (length t.sources) t [] t.sources refl before q after e
