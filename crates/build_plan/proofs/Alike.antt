-- Needs that are the same below a bound have the same orders.
use Rattle.std.proofs.Common.{◌↔◌, ℕ, ◌<◌, List, get_or, take, inl, inr, arith}
use Rattle.std.specs.List.{Contains}
use Rattle.numbered_nodes.specs.Order.{IsReady, IsIdle, IsNext, IsOrder}

module _ (P Q : ℕ → ℕ → Type 0) (n : ℕ) (same : (a b : ℕ) → a < n → b < n → P a b ↔ Q a b) where
  ready_forth : (L : ℕ → Type 0) (x : ℕ) → x < n → IsReady P n L x → IsReady Q n L x
  ready_forth L x lt h = λ z lz q ne. h z lz ((same x z lt lz).1 q) ne

  ready_back : (L : ℕ → Type 0) (x : ℕ) → x < n → IsReady Q n L x → IsReady P n L x
  ready_back L x lt h = λ z lz p ne. h z lz ((same x z lt lz).0 p) ne

  idle_forth : (L : ℕ → Type 0) (y : ℕ) → y < n → IsIdle (IsReady P n L) L y → IsIdle (IsReady Q n L) L y
  idle_forth L y lt h = elim h [ inl l ↦ inl l | inr no_ ↦ inr (λ r. no_ (ready_back L y lt r)) ]

  next_forth : (L : ℕ → Type 0) (x : ℕ) → IsNext (IsReady P n L) L n x → IsNext (IsReady Q n L) L n x
  next_forth L x h = record {
    node = h.node;
    new = h.new;
    least = elim h.least [
      | inl l ↦ inl (ready_forth L x h.node l.0, λ y ly. let lx = h.node in idle_forth L y (omega arith) (l.1 y ly))
      | inr l ↦ inr ((λ y ly. idle_forth L y ly (l.0 y ly)), l.1)
    ];
  }

  pub order_alike : (os : List ℕ) → IsOrder P n os → IsOrder Q n os
  order_alike os h = (h.0, λ i lt. next_forth (Contains (take i os)) (get_or os i 0) (h.1 i lt))
