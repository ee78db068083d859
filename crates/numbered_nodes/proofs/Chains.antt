-- Chains over numbers below a bound: where the steps lie below it, they are the transitive closure of the steps.
use Rattle.std.proofs.Common.{◌≡◌, ◌⊎◌, ℕ, zero, suc, ◌<◌, Bool, true, false, ◌||◌, ◌&&◌, refl, subst, inl, inr, arith}
use Rattle.std.proofs.lemmas.Bool.{cases_eq}
use Rattle.numbered_nodes.proofs.Booleans.{split_or, or_right}
use Rattle.numbered_nodes.specs.Reach.{Reach, edge}
use Rattle.numbered_nodes.proofs.ReachLaws.{chain, least}
use Rattle.numbered_nodes.specs.Chains.{over, AreBelow, IsStep, OverIsReach}

pub and_both : (a b : Bool) → (a && b) ≡ true → (a ≡ true) × (b ≡ true)
and_both true b e = (refl, e)
and_both false b e = absurd (let h : ⊥ = cc in h)

pub both_and : (a b : Bool) → a ≡ true → b ≡ true → (a && b) ≡ true
both_and true b p q = q
both_and false b p q = p

pub or_left : (a b : Bool) → a ≡ true → (a || b) ≡ true
or_left true b e = refl
or_left false b e = absurd (let h : ⊥ = cc in h)

module _ (e : ℕ → ℕ → Bool) where
  -- a step is a chain over any bound
  pub over_step : (n a b : ℕ) → e a b ≡ true → over e n a b ≡ true
  over_step zero a b p = p
  over_step (suc k) a b p = or_left (over e k a b) (over e k a k && over e k k b) (over_step k a b p)

  split_at : (k a b : ℕ) → over e (suc k) a b ≡ true → (over e k a b ≡ true) ⊎ ((over e k a k ≡ true) × (over e k k b ≡ true))
  split_at k a b p = elim (split_or (over e k a b) (over e k a k && over e k k b) p) [
    | inl q ↦ inl q
    | inr q ↦ inr (and_both (over e k a k) (over e k k b) q)
  ]

  keep_at : (k a b : ℕ) → over e k a b ≡ true → over e (suc k) a b ≡ true
  keep_at k a b p = or_left (over e k a b) (over e k a k && over e k k b) p

  join_at : (k a b : ℕ) → over e k a k ≡ true → over e k k b ≡ true → over e (suc k) a b ≡ true
  join_at k a b p q = or_right (over e k a b) (over e k a k && over e k k b) (both_and (over e k a k) (over e k k b) p q)

  to_k : (k a : ℕ) → over e (suc k) a k ≡ true → over e k a k ≡ true
  to_k k a p = elim (split_at k a k p) [ inl q ↦ q | inr q ↦ q.0 ]

  from_k : (k b : ℕ) → over e (suc k) k b ≡ true → over e k k b ≡ true
  from_k k b p = elim (split_at k k b p) [ inl q ↦ q | inr q ↦ q.1 ]

  -- two chains that meet at a number below the bound are one
  over_via : (k m a b : ℕ) → m < k → over e k a m ≡ true → over e k m b ≡ true → over e k a b ≡ true
  over_via zero m a b lt p q = absurd (omega arith)
  over_via (suc k) m a b lt p q = elim (cases_eq m k) [
    | inl same ↦ join_at k a b (to_k k a (subst (λ x. over e (suc k) a x ≡ true) same p)) (from_k k b (subst (λ x. over e (suc k) x b ≡ true) same q))
    | inr other ↦
        let less : m < k = omega arith in
        elim (split_at k a m p) [
          | inl x ↦ elim (split_at k m b q) [
            | inl y ↦ keep_at k a b (over_via k m a b less x y)
            | inr y ↦ join_at k a b (over_via k m a k less x y.0) y.1
          ]
          | inr x ↦ elim (split_at k m b q) [
            | inl y ↦ join_at k a b x.0 (over_via k m k b less x.1 y)
            | inr y ↦ join_at k a b x.0 y.1
          ]
        ]
  ]

  over_sound : (k a b : ℕ) → over e k a b ≡ true → Reach (IsStep e) a b
  over_sound zero a b p = edge p
  over_sound (suc k) a b p = elim (split_at k a b p) [
    | inl q ↦ over_sound k a b q
    | inr q ↦ chain (over_sound k a k q.0) (over_sound k k b q.1)
  ]

  over_ends : (n : ℕ) → AreBelow e n → (k a b : ℕ) → over e k a b ≡ true → (a < n) × (b < n)
  over_ends n within zero a b p = within a b p
  over_ends n within (suc k) a b p = elim (split_at k a b p) [
    | inl q ↦ over_ends n within k a b q
    | inr q ↦ ((over_ends n within k a k q.0).0, (over_ends n within k k b q.1).1)
  ]

  -- what a chain leads from and to lies below the bound
  pub over_below : (n a b : ℕ) → AreBelow e n → over e n a b ≡ true → (a < n) × (b < n)
  over_below n a b within p = over_ends n within n a b p

  -- where the steps lie below the bound, two chains that meet are one
  pub over_chain : (n a b c : ℕ) → AreBelow e n → over e n a b ≡ true → over e n b c ≡ true → over e n a c ≡ true
  over_chain n a b c within p q = over_via n b a c (over_below n a b within p).1 p q

  -- and the chains are what is reached by steps
  pub over_is_reach : (n : ℕ) → OverIsReach e n
  over_is_reach n within a b = (
    over_sound n a b,
    (λ p. least (λ x y. over e n x y ≡ true) (over_step n) (λ x y z. over_chain n x y z within) p),
  )
