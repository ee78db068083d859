-- Groups over one relation are groups over another that is the same.
use Rattle.std.proofs.Common.{ℕ, List, [], get_or, take, inl, inr}
use Rattle.numbered_nodes.specs.Reach.{InOneLoop}
use Rattle.numbered_nodes.proofs.ReachLaws.{more_edges}
use Rattle.node_groups.specs.Groups.{IsIn, IsReady, IsNext, IsGroups}

loop_alike : {E F : ℕ → ℕ → Type 0} → ((a b : ℕ) → E a b → F a b) → (a b : ℕ) → InOneLoop E a b → InOneLoop F a b
loop_alike f a b (inl e) = inl e
loop_alike f a b (inr p) = inr (more_edges f p.0, more_edges f p.1)

module _ (E F : ℕ → ℕ → Type 0) (n : ℕ) (to : (a b : ℕ) → E a b → F a b) (from : (a b : ℕ) → F a b → E a b) where
  ready_to : (L : ℕ → Type 0) (x : ℕ) → IsReady E n L x → IsReady F n L x
  ready_to L x r = λ a b in_a e out. r a b (loop_alike from x a in_a) (from a b e) (λ one. out (loop_alike to x b one))

  ready_from : (L : ℕ → Type 0) (x : ℕ) → IsReady F n L x → IsReady E n L x
  ready_from L x r = λ a b in_a e out. r a b (loop_alike to x a in_a) (to a b e) (λ one. out (loop_alike from x b one))

  next_alike : (L : ℕ → Type 0) (xs : List ℕ) → IsNext E n L xs → IsNext F n L xs
  next_alike L xs p = record {
    class = record {
      some = p.class.some;
      members = λ x. (
        (λ h. let q = (p.class.members x).0 h in (q.0, loop_alike to (get_or xs 0 0) x q.1)),
        (λ q. (p.class.members x).1 (q.0, loop_alike from (get_or xs 0 0) x q.1)),
      );
      rising = p.class.rising;
    };
    new = p.new;
    ready = ready_to L (get_or xs 0 0) p.ready;
    least = λ y lt r. p.least y lt (ready_from L y r);
  }

  pub groups_alike : (gs : List (List ℕ)) → IsGroups E n gs → IsGroups F n gs
  groups_alike gs p = (p.0, (λ i lt. next_alike (IsIn (take i gs)) (get_or gs i []) (p.1 i lt)))
