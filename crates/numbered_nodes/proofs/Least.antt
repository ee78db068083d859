-- Equal least mates are one loop.
use Rattle.std.proofs.Common.{◌≡◌, ◌↔◌, ℕ, ◌<◌, List, inl, inr, sym, subst, arith}
use Rattle.std.proofs.lemmas.Bool.{cases_lt}
use Rattle.numbered_nodes.specs.Edges.{Relates}
use Rattle.numbered_nodes.specs.Mates.{AreMates}

module _ (rows : List (List ℕ)) (chain : (a b c : ℕ) → Relates rows a b → Relates rows b c → Relates rows a c) where
  back : (a b : ℕ) → AreMates rows a b → AreMates rows b a
  back a b (inl e) = inl (sym e)
  back a b (inr p) = inr (p.1, p.0)

  on : (a b c : ℕ) → AreMates rows a b → AreMates rows b c → AreMates rows a c
  on a b c (inl e) q = subst (λ x. AreMates rows x c) (sym e) q
  on a b c (inr p) (inl e) = subst (λ x. AreMates rows a x) e (inr p)
  on a b c (inr p) (inr q) = inr (chain a b c p.0 q.0, chain c b a q.1 p.1)

  pub by_least : (f : ℕ → ℕ) (n : ℕ) → ((a : ℕ) → a < n → AreMates rows a (f a)) → ((a b : ℕ) → a < n → b < f a → AreMates rows a b → ⊥) → (a b : ℕ) → a < n → b < n → (f a ≡ f b) ↔ AreMates rows a b
  by_least f n mate least a b la lb = (
    (λ e. on a (f a) b (mate a la) (subst (λ x. AreMates rows x b) (sym e) (back b (f b) (mate b lb)))),
    (λ m. elim (cases_lt (f a) (f b)) [
      | inl lt ↦ absurd (least b (f a) lb lt (on b a (f a) (back a b m) (mate a la)))
      | inr ge ↦ elim (cases_lt (f b) (f a)) [
        | inl lt ↦ absurd (least a (f b) la lt (on a b (f b) m (mate b lb)))
        | inr le ↦ omega arith
      ]
    ]),
  )
