-- What a node needs is what it reaches by steps.
use Rattle.std.proofs.Common.{◌≡◌, ◌⊎◌, ◌↔◌, ◌<◌, ◌+◌, ℕ, arith, inl, inr, sym, ◌∙◌, subst, refl, ap}
use Rattle.numbered_nodes.specs.Reach.{Reach, edge, onward, InOneLoop}
use Rattle.numbered_nodes.proofs.ReachLaws.{chain, more_edges, loop_sym, loop_trans}
use Rattle.numbered_nodes.specs.Needs.{Needs, reached, mate, beyond, Leads, Hub, link, away, into, InOneNumber, InLoop, Follows}

module _ (E Same : ℕ → ℕ → Type 0) (n : ℕ) (within : (a b : ℕ) → E a b → a < n) (decide : (a b : ℕ) → Same a b ⊎ (Same a b → ⊥)) (same_self : (a : ℕ) → Same a a) (same_sym : (a b : ℕ) → Same a b → Same b a) (same_trans : (a b c : ℕ) → Same a b → Same b c → Same a c) where
  -- a step into another loop leads to each node of it
  step_mate : (a x y : ℕ) → Leads E Same n a x → (Same a x → ⊥) → Same x y → y < n → Leads E Same n a y
  step_mate a x y (inl e) out s lt = inr (x, e, out, s, lt)
  step_mate a x y (inr h) out s lt = inr (h.0, h.1, h.2, same_trans h.0 x y h.3 s, lt)

  starts : {a b : ℕ} → Reach E a b → a < n
  starts (edge {a = a} {b = b} e) = within a b e
  starts (onward {a = a} {b = m} e p) = within a m e

  enter : {a x : ℕ} (y : ℕ) → Reach (Leads E Same n) a x → (Same a x → ⊥) → Same x y → y < n → Reach (Leads E Same n) a y
  enter y (edge {a = a} {b = x} l) out s lt = edge (step_mate a x y l out s lt)
  enter y (onward {a = a} {b = m} {c = x} l p) out s lt = elim (decide m x) [
    | inl same ↦ edge (step_mate a m y l (λ u. out (same_trans a m x u same)) (same_trans m x y same s) lt)
    | inr other ↦ onward l (enter y p other s lt)
  ]

  from_needs : {q x : ℕ} → Needs E Same n q x → Reach (Leads E Same n) q x
  from_needs (reached p) = more_edges (λ a b e. inl e) p
  from_needs (mate {x = x} {y = y} m out s lt) = enter y (from_needs m) out s lt
  from_needs (beyond {x = x} {y = y} m out s p) = chain (enter y (from_needs m) out s (starts p)) (more_edges (λ a b e. inl e) p)

  module _ (one_way : (a b c : ℕ) → Reach (Leads E Same n) a b → (Same a b → ⊥) → Reach (Leads E Same n) b c → Same a c → ⊥) (q : ℕ) where
    -- a need in the node's own loop is reached without another loop
    own : {a : ℕ} → Needs E Same n q a → Same q a → Reach E q a
    own (reached p) s = p
    own (mate {x = x} {y = y} m out t lt) s = absurd (out (same_trans q y x s (same_sym x y t)))
    own (beyond {x = x} {y = y} {z = z} m out t p) s = absurd (one_way q y z (enter y (from_needs m) out t (starts p)) (λ u. out (same_trans q y x u (same_sym x y t))) (more_edges (λ a b e. inl e) p) s)

    step : (a b : ℕ) → (a ≡ q) ⊎ Needs E Same n q a → Leads E Same n a b → Needs E Same n q b
    step a b (inl here) (inl e) = reached (edge (subst (λ z. E z b) here e))
    step a b (inl here) (inr h) = mate (reached (edge (subst (λ z. E z h.0) here h.1))) (λ u. h.2 (subst (λ z. Same z h.0) (sym here) u)) h.3 h.4
    step a b (inr m) l = elim (decide q a) [
      | inl same ↦ elim l [
        | inl e ↦ reached (chain (own m same) (edge e))
        | inr h ↦ mate (reached (chain (own m same) (edge h.1))) (λ u. h.2 (same_trans a q h.0 (same_sym q a same) u)) h.3 h.4
      ]
      | inr other ↦ elim l [
        | inl e ↦ beyond m other (same_self a) (edge e)
        | inr h ↦ mate (beyond m other (same_self a) (edge h.1)) (one_way q a h.0 (from_needs m) other (edge (inl h.1))) h.3 h.4
      ]
    ]

    to_needs : {a b : ℕ} → (a ≡ q) ⊎ Needs E Same n q a → Reach (Leads E Same n) a b → Needs E Same n q b
    to_needs h (edge {a = a} {b = b} l) = step a b h l
    to_needs h (onward {a = a} {b = m} l p) = to_needs (inr (step a m h l)) p

    pub needs_are_reached : (x : ℕ) → Needs E Same n q x ↔ Reach (Leads E Same n) q x
    needs_are_reached x = ((λ m. from_needs m), (λ p. to_needs (inl refl) p))

-- no way leads back from another loop
module _ (E M : ℕ → ℕ → Type 0) (module_of : ℕ → ℕ) (n : ℕ) (follows : Follows E M module_of n) where
  -- of modules: the same or reached
  abbrev Down : ℕ → ℕ → Type 0
  Down m k = (m ≡ k) ⊎ Reach M m k

  down_on : (a b c : ℕ) → Down a b → Down b c → Down a c
  down_on a b c (inl e) q = subst (λ z. Down z c) (sym e) q
  down_on a b c (inr p) (inl e) = inr (subst (λ z. Reach M a z) e p)
  down_on a b c (inr p) (inr q) = inr (chain p q)

  down_edge : (a b : ℕ) → E a b → Down (module_of a) (module_of b)
  down_edge a b e = elim ((follows a b e).1) [ inl s ↦ inl s | inr m ↦ inr (edge m) ]

  down_loop : (m k : ℕ) → InOneLoop M m k → Down m k
  down_loop m k (inl e) = inl e
  down_loop m k (inr p) = inr p.0

  down_step : (a b : ℕ) → Leads E (InLoop E M module_of n) n a b → Down (module_of a) (module_of b)
  down_step a b (inl e) = down_edge a b e
  down_step a b (inr h) = down_on (module_of a) (module_of h.0) (module_of b) (down_edge a h.0 h.1) (down_loop (module_of h.0) (module_of b) h.3)

  down : {a b : ℕ} → Reach (Leads E (InLoop E M module_of n) n) a b → Down (module_of a) (module_of b)
  down (edge {a = a} {b = b} l) = down_step a b l
  down (onward {a = a} {b = m} {c = b} l p) = down_on (module_of a) (module_of m) (module_of b) (down_step a m l) (down p)

  both : (m k : ℕ) → Down m k → Down k m → InOneLoop M m k
  both m k (inl e) q = inl e
  both m k (inr p) (inl e) = inl (sym e)
  both m k (inr p) (inr q) = inr (p, q)

  one_way : (a b c : ℕ) → Reach (Leads E (InLoop E M module_of n) n) a b → (InLoop E M module_of n a b → ⊥) → Reach (Leads E (InLoop E M module_of n) n) b c → InLoop E M module_of n a c → ⊥
  one_way a b c p out r s = out (both (module_of a) (module_of b) (down p) (down_on (module_of b) (module_of c) (module_of a) (down r) (down_loop (module_of c) (module_of a) (loop_sym s))))

  pub needs_law : ((a b : ℕ) → InLoop E M module_of n a b ⊎ (InLoop E M module_of n a b → ⊥)) → (q x : ℕ) → Needs E (InLoop E M module_of n) n q x ↔ Reach (Leads E (InLoop E M module_of n) n) q x
  needs_law decide q x = needs_are_reached E (InLoop E M module_of n) n (λ a b e. (follows a b e).0) decide (λ a. inl refl) (λ a b s. loop_sym s) (λ a b c s t. loop_trans s t) one_way q x

-- by a node for each loop the same is reached
module _ (E : ℕ → ℕ → Type 0) (loop_of : ℕ → ℕ) (n : ℕ) (within : (a b : ℕ) → E a b → (a < n) × (b < n)) where
  hub_step : {a b : ℕ} → Leads E (InOneNumber E loop_of n) n a b → Reach (Hub E loop_of n) a b
  hub_step (inl e) = edge (link e)
  hub_step {a} {b} (inr h) = onward {b = n + loop_of h.0} (away h.1 h.2 refl) (edge (into (ap (λ k. n + k) h.3) h.4))

  to_hub : {a b : ℕ} → Reach (Leads E (InOneNumber E loop_of n) n) a b → Reach (Hub E loop_of n) a b
  to_hub (edge l) = hub_step l
  to_hub (onward l p) = chain (hub_step l) (to_hub p)

  -- where a path of hubs stands for a path from a
  abbrev Stands : ℕ → ℕ → Type 0
  Stands x a = (x ≡ a) ⊎ ((z : ℕ) × E a z × (loop_of a ≡ loop_of z → ⊥) × (x ≡ n + loop_of z))

  from_hub : {x b : ℕ} (a : ℕ) → Reach (Hub E loop_of n) x b → Stands x a → a < n → b < n → Reach (Leads E (InOneNumber E loop_of n) n) a b
  from_hub a (edge {a = x} {b = b} (link e)) (inl s) la lb = edge (inl (subst (λ u. E u b) s e))
  from_hub a (edge {a = x} {b = b} (link e)) (inr s) la lb = let lx = (within x b e).0 in let at = s.3 in absurd (omega arith)
  from_hub a (edge {a = x} {b = b} (away {z = z} e out h)) s la lb = absurd (omega arith)
  from_hub a (edge {a = x} {b = b} (into h lt)) (inl s) la lb = absurd (omega arith)
  from_hub a (edge {a = x} {b = b} (into h lt)) (inr s) la lb = let at = s.3 in edge (inr (s.0, s.1, s.2, (omega arith), lt))
  from_hub a (onward {a = x} {b = m} {c = b} (link e) p) (inl s) la lb = onward (inl (subst (λ u. E u m) s e)) (from_hub m p (inl refl) (within x m e).1 lb)
  from_hub a (onward {a = x} {b = m} {c = b} (link e) p) (inr s) la lb = let lx = (within x m e).0 in let at = s.3 in absurd (omega arith)
  from_hub a (onward {a = x} {b = m} {c = b} (away {z = z} e out h) p) (inl s) la lb = from_hub a p (inr (z, subst (λ u. E u z) s e, (λ u. out (ap loop_of s ∙ u)), h)) la lb
  from_hub a (onward {a = x} {b = m} {c = b} (away {z = z} e out h) p) (inr s) la lb = let lx = (within x z e).0 in let at = s.3 in absurd (omega arith)
  from_hub a (onward {a = x} {b = m} {c = b} (into h lt) p) (inl s) la lb = absurd (omega arith)
  from_hub a (onward {a = x} {b = m} {c = b} (into h lt) p) (inr s) la lb = let at = s.3 in onward (inr (s.0, s.1, s.2, (omega arith), lt)) (from_hub m p (inl refl) lt lb)

  pub hubs_lead : (a b : ℕ) → a < n → b < n → Reach (Hub E loop_of n) a b ↔ Reach (Leads E (InOneNumber E loop_of n) n) a b
  hubs_lead a b la lb = ((λ p. from_hub a p (inl refl) la lb), (λ p. to_hub p))
