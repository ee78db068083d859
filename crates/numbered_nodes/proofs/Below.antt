-- Tests over the numbers below a bound: whether some number passes, and which do.
use Rattle.std.proofs.Common.{◌≡◌, ℕ, zero, suc, ◌+◌, ◌<◌, ◌≤◌, Bool, true, false, ◌||◌, cond, List, [], ◌∷◌, ◌++◌, Option, Some, None, refl, ap, sym, ◌∙◌, inl, inr, arith, add-one}
use Rattle.std.proofs.lemmas.Bool.{cases_lt, cases_eq}
use Rattle.std.proofs.lemmas.List.{append-nil}
use Rattle.numbered_nodes.specs.Chains.{is_at, any_below, below}
use Rattle.numbered_nodes.proofs.Booleans.{split_or, or_right, not_true, is_same, from_test}
use Rattle.numbered_nodes.proofs.Chains.{or_left}

-- two tests that pass together are the same
pub same_tests : (a b : Bool) → (a ≡ true → b ≡ true) → (b ≡ true → a ≡ true) → a ≡ b
same_tests true b f g = sym (f refl)
same_tests false true f g = g refl
same_tests false false f g = refl

pub is_at_is : (o : Option ℕ) (k : ℕ) → is_at o k ≡ true → o ≡ Some k
is_at_is None k e = absurd (let h : ⊥ = cc in h)
is_at_is (Some i) k e = ap (λ j. Some j) (from_test i k e)

pub is_at_own : (o : Option ℕ) (k : ℕ) → o ≡ Some k → is_at o k ≡ true
is_at_own o k e = rw e (is_same k k refl)

pub any_below_with : (n : ℕ) (p : ℕ → Bool) → any_below n p ≡ true → (k : ℕ) × (k < n) × (p k ≡ true)
any_below_with zero p e = absurd (let h : ⊥ = cc in h)
any_below_with (suc n) p e = elim (split_or (any_below n p) (p n) e) [
  | inl h ↦ let s = any_below_with n p h in (s.0, (let lt = s.1 in omega arith), s.2)
  | inr h ↦ (n, omega arith, h)
]

pub any_below_from : (n : ℕ) (p : ℕ → Bool) (k : ℕ) → k < n → p k ≡ true → any_below n p ≡ true
any_below_from zero p k lt h = absurd (omega arith)
any_below_from (suc n) p k lt h = elim (cases_eq k n) [
  | inl same ↦ or_right (any_below n p) (p n) (ap p (sym same) ∙ h)
  | inr other ↦ or_left (any_below n p) (p n) (any_below_from n p k (omega arith) h)
]

-- tests that agree below a bound
pub any_below_alike : (n : ℕ) (p q : ℕ → Bool) → ((k : ℕ) → k < n → p k ≡ q k) → any_below n p ≡ any_below n q
any_below_alike zero p q f = refl
any_below_alike (suc n) p q f = ap (λ b. b || p n) (any_below_alike n p q (λ k h. f k (omega arith))) ∙ ap (λ b. any_below n q || b) (f n (omega arith))

pub below_alike : (n : ℕ) (p q : ℕ → Bool) → ((k : ℕ) → k < n → p k ≡ q k) → below n p ≡ below n q
below_alike zero p q h = refl
below_alike (suc n) p q h =
    ap (λ (l : List ℕ). l ++ cond (p n) (n ∷ []) []) (below_alike n p q (λ k lt. h k (omega arith)))
    ∙ ap (λ b. below n q ++ cond b (n ∷ []) []) (h n (omega arith))

-- no number from one bound on and below another passes
abbrev pub NoneFrom : (ℕ → Bool) → ℕ → ℕ → Type 0
NoneFrom p a b = (k : ℕ) → a ≤ k → k < b → p k ≡ false

pub or_none : (b c : Bool) → c ≡ false → (b || c) ≡ b
or_none true c e = refl
or_none false c e = e

pub or_assoc : (x y z : Bool) → ((x || y) || z) ≡ (x || (y || z))
or_assoc true y z = refl
or_assoc false y z = refl

-- a set whose numbers stand in an empty one has none
pub absent_in : (s t : Bool) → (s ≡ true → t ≡ true) → t ≡ false → s ≡ false
absent_in s t f e = not_true s (λ yes. let h : true ≡ false = sym (f yes) ∙ e in cc)

module _ (p : ℕ → Bool) where
  -- where no number passes in between, the bound doesn't matter
  pub below_skip : (a b : ℕ) → a ≤ b → NoneFrom p a b → below b p ≡ below a p
  below_skip a zero le none = ap (λ n. below n p) (let e : zero ≡ a = omega arith in e)
  below_skip a (suc b) le none = elim (cases_lt b a) [
    | inl less ↦ ap (λ n. below n p) (let e : suc b ≡ a = omega arith in e)
    | inr more ↦ ap (λ t. below b p ++ cond t (b ∷ []) []) (none b more (omega arith)) ∙ append-nil (below b p) ∙ below_skip a b more (λ k from to. none k from (omega arith))
  ]

  pub any_skip : (a b : ℕ) → a ≤ b → NoneFrom p a b → any_below b p ≡ any_below a p
  any_skip a zero le none = ap (λ n. any_below n p) (let e : zero ≡ a = omega arith in e)
  any_skip a (suc b) le none = elim (cases_lt b a) [
    | inl less ↦ ap (λ n. any_below n p) (let e : suc b ≡ a = omega arith in e)
    | inr more ↦ or_none (any_below b p) (p b) (none b more (omega arith)) ∙ any_skip a b more (λ k from to. none k from (omega arith))
  ]

  -- one more number is found
  pub any_next : (a b : ℕ) → a ≤ b → NoneFrom p a b → any_below (b + 1) p ≡ (any_below a p || p b)
  any_next a b le none = ap (λ n. any_below n p) (add-one b) ∙ ap (λ t. t || p b) (any_skip a b le none)

  pub below_found : (a b : ℕ) (xs ys : List ℕ) → xs ≡ below a p → a ≤ b → NoneFrom p a b → p b ≡ true → ys ≡ xs ++ b ∷ [] → ys ≡ below (b + 1) p
  below_found a b xs ys before le none there push =
      push ∙ ap (λ (l : List ℕ). l ++ b ∷ []) (before ∙ sym (below_skip a b le none)) ∙ sym (ap (λ n. below n p) (add-one b) ∙ ap (λ t. below b p ++ cond t (b ∷ []) []) there)
