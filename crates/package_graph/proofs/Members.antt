-- Members of lists, one after another.
use Rattle.std.proofs.Common.{◌≡◌, ◌⊎◌, ℕ, zero, suc, true, List, [], ◌∷◌, Option, Some, None, refl, inl, inr, subst, arith}
use Rattle.std.specs.List.{Contains, flat_map, list_any}
use Rattle.std.proofs.lemmas.List.Elements.{Contains-append_left, Contains-append_right, Contains-append_cases}
use Rattle.numbered_nodes.proofs.Booleans.{split_or, or_right, is_same, from_test}
use Rattle.numbered_nodes.specs.Chains.{is_at}
use Rattle.package_graph.specs.Targets.{one_place}
use Rattle.numbered_nodes.proofs.Chains.{or_left}

module _ {X : Type 0} where
  pub here : (x : X) (xs : List X) → Contains (x ∷ xs) x
  here x xs = (zero, (omega arith), refl)

  pub later : (x y : X) (xs : List X) → Contains xs y → Contains (x ∷ xs) y
  later x y xs h = Contains-append_right (x ∷ []) xs y h

  pub nothing_in : (x : X) → Contains [] x → ⊥
  nothing_in x h = omega (arith, h.1)

  pub first_or_later : (x y : X) (xs : List X) → Contains (x ∷ xs) y → (x ≡ y) ⊎ Contains xs y
  first_or_later x y xs (zero, lt, is) = inl is
  first_or_later x y xs (suc k, lt, is) = inr (k, omega arith, is)

-- an option is some number exactly where it is the place of the option
pub at_place : (o : Option ℕ) (k : ℕ) → Contains (one_place o) k → is_at o k ≡ true
at_place None k h = absurd (nothing_in k h)
at_place (Some i) k h = elim (first_or_later i k [] h) [ inl e ↦ is_same i k e | inr n ↦ absurd (nothing_in k n) ]

place_in : (o : Option ℕ) (k : ℕ) → is_at o k ≡ true → Contains (one_place o) k
place_in None k e = absurd (let h : ⊥ = cc in h)
place_in (Some i) k e = subst (Contains (i ∷ [])) (from_test i k e) (here i [])

module _ {X : Type 0} (f : X → Option ℕ) where
  -- the places that options have
  pub any_place : (xs : List X) (k : ℕ) → Contains (flat_map (λ x. one_place (f x)) xs) k → list_any (λ x. is_at (f x) k) xs ≡ true
  any_place [] k h = absurd (nothing_in k h)
  any_place (x ∷ xs) k h = elim (Contains-append_cases (one_place (f x)) (flat_map (λ y. one_place (f y)) xs) k h) [
    | inl i ↦ or_left (is_at (f x) k) (list_any (λ y. is_at (f y) k) xs) (at_place (f x) k i)
    | inr i ↦ or_right (is_at (f x) k) (list_any (λ y. is_at (f y) k) xs) (any_place xs k i)
  ]

  pub place_of_any : (xs : List X) (k : ℕ) → list_any (λ x. is_at (f x) k) xs ≡ true → Contains (flat_map (λ x. one_place (f x)) xs) k
  place_of_any [] k e = absurd (let h : ⊥ = cc in h)
  place_of_any (x ∷ xs) k e = elim (split_or (is_at (f x) k) (list_any (λ y. is_at (f y) k) xs) e) [
    | inl i ↦ Contains-append_left (one_place (f x)) (flat_map (λ y. one_place (f y)) xs) k (place_in (f x) k i)
    | inr i ↦ Contains-append_right (one_place (f x)) (flat_map (λ y. one_place (f y)) xs) k (place_of_any xs k i)
  ]
