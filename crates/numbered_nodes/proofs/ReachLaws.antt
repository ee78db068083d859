use Rattle.std.proofs.Common.{ℕ, inl, inr, sym, subst}
use Rattle.numbered_nodes.specs.Reach.{Reach, edge, onward, InOneLoop}

module _ {E : ℕ → ℕ → Type 0} where
  pub chain : {a b c : ℕ} → Reach E a b → Reach E b c → Reach E a c
  chain (edge e) q = onward e q
  chain (onward e p) q = onward e (chain p q)

  -- reach is the least relation that has the edges and is transitive
  pub least : (R : ℕ → ℕ → Type 0) → ((a b : ℕ) → E a b → R a b) → ((a b c : ℕ) → R a b → R b c → R a c) → {a b : ℕ} → Reach E a b → R a b
  least R has trans (edge {a} {b} e) = has a b e
  least R has trans (onward {a} {b} {c} e p) = trans a b c (has a b e) (least R has trans p)

  pub loop_sym : {a b : ℕ} → InOneLoop E a b → InOneLoop E b a
  loop_sym (inl e) = inl (sym e)
  loop_sym (inr p) = inr (p.1, p.0)

  pub loop_trans : {a b c : ℕ} → InOneLoop E a b → InOneLoop E b c → InOneLoop E a c
  loop_trans {a} {b} {c} (inl e) q = subst (λ x. InOneLoop E x c) (sym e) q
  loop_trans {a} {b} {c} (inr p) (inl e) = subst (λ x. InOneLoop E a x) e (inr p)
  loop_trans (inr p) (inr q) = inr (chain p.0 q.0, chain q.1 p.1)

-- reach over more edges
pub more_edges : {E F : ℕ → ℕ → Type 0} → ((a b : ℕ) → E a b → F a b) → {a b : ℕ} → Reach E a b → Reach F a b
more_edges f (edge {a} {b} e) = edge (f a b e)
more_edges f (onward {a} {b} e p) = onward (f a b e) (more_edges f p)
