use Rattle.std.proofs.Common.{◌≡◌, ◌↔◌, ◌<◌, ℕ, List, inl, inr, get_or}
use Rattle.numbered_nodes.specs.Reach.{Reach, InOneLoop}
use Rattle.numbered_nodes.proofs.ReachLaws.{chain}
use Rattle.numbered_nodes.specs.Edges.{Relates}
use Rattle.numbered_nodes.specs.Mates.{AreMates}

module _ {E : ℕ → ℕ → Type 0} (rows : List (List ℕ)) (exact : (a b : ℕ) → Relates rows a b ↔ Reach E a b) where
  pub rows_chain : (a b c : ℕ) → Relates rows a b → Relates rows b c → Relates rows a c
  rows_chain a b c p q = (exact a c).1 (chain ((exact a b).0 p) ((exact b c).0 q))

  pub to_loop : (a b : ℕ) → AreMates rows a b → InOneLoop E a b
  to_loop a b (inl e) = inl e
  to_loop a b (inr p) = inr ((exact a b).0 p.0, (exact b a).0 p.1)

  from_loop : (a b : ℕ) → InOneLoop E a b → AreMates rows a b
  from_loop a b (inl e) = inl e
  from_loop a b (inr p) = inr ((exact a b).1 p.0, (exact b a).1 p.1)

  pub as_loops : (v : List ℕ) (n : ℕ) → ((a b : ℕ) → a < n → b < n → (get_or v a 0 ≡ get_or v b 0) ↔ AreMates rows a b) → (a b : ℕ) → a < n → b < n → (get_or v a 0 ≡ get_or v b 0) ↔ InOneLoop E a b
  as_loops v n h a b la lb = ((λ e. to_loop a b ((h a b la lb).0 e)), (λ m. (h a b la lb).1 (from_loop a b m)))
