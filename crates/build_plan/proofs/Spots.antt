-- Where sources stand in a list that has no node twice.
use Rattle.std.proofs.Common.{◌≡◌, ℕ, zero, suc, true, false, List, [], ◌∷◌, refl, ap, sym, ◌∙◌, subst, inl, inr, Some}
use Rattle.std.specs.Prelude.{slice_get}
use Rattle.std.specs.List.{list_any, AllByRecursion}
use Rattle.std.proofs.lemmas.Option.{same_Some}
use Rattle.mk_base.specs.declared.name.Node.{Node}
use Rattle.build_theory.specs.Laws.{IsIn, AreDistinct}
use Rattle.build_theory.proofs.Lists.{both_ways, all_at, any_of}
use Rattle.mod_graph.specs.Names.{less_node, same_node}
use Rattle.mod_graph.proofs.NodeTests.{node_itself, nodes_tell}
use Rattle.build_plan.specs.Tree.{planning}
use Rattle.build_plan.specs.Plan.{AreRising}
use Rattle.build_plan.proofs.Order.{not_less}

abbrev Sources : Type 0
Sources = List (Node × List ℕ)

-- what stands at a place is in the list
pub in_at : {X : Type 0} (xs : List X) (k : ℕ) (x : X) → slice_get xs k ≡ Some x → IsIn x xs
in_at [] k x e = absurd (let h : ⊥ = cc in h)
in_at (y ∷ ys) zero x e = inl (sym (same_Some y x e))
in_at (y ∷ ys) (suc k) x e = inr (in_at ys k x e)

-- and what is in it stands at a place
pub at_in : {X : Type 0} (xs : List X) (x : X) → IsIn x xs → (k : ℕ) × (slice_get xs k ≡ Some x)
at_in [] x i = absurd i
at_in (y ∷ ys) x i = elim i [
  | inl e ↦ (zero, ap (λ z. Some z) (sym e))
  | inr j ↦ let s = at_in ys x j in (suc s.0, s.1)
]

pub node_there : (qs : Sources) (q : Node × List ℕ) → IsIn q qs → list_any (λ p. same_node q.0 p.0) qs ≡ true
node_there qs q i = any_of (λ p. same_node q.0 p.0) qs q i (node_itself q.0)

-- a node stands at one place
pub one_spot : (qs : Sources) → AreDistinct planning qs → (i k : ℕ) (p q : Node × List ℕ) → slice_get qs i ≡ Some p → slice_get qs k ≡ Some q → p.0 ≡ q.0 → i ≡ k
one_spot [] d i k p q e f s = absurd (let h : ⊥ = cc in h)
one_spot (x ∷ qs) d zero zero p q e f s = refl
one_spot (x ∷ qs) d zero (suc k) p q e f s = absurd (all_at (λ (g : Node × List ℕ). x.0 ≡ g.0 → ⊥) qs q (in_at qs k q f) d.0 (ap (λ (z : Node × List ℕ). z.0) (same_Some x p e) ∙ s))
one_spot (x ∷ qs) d (suc i) zero p q e f s = absurd (all_at (λ (g : Node × List ℕ). x.0 ≡ g.0 → ⊥) qs p (in_at qs i p e) d.0 (ap (λ (z : Node × List ℕ). z.0) (same_Some x q f) ∙ sym s))
one_spot (x ∷ qs) d (suc i) (suc k) p q e f s = ap suc (one_spot qs d.1 i k p q e f s)

-- so it has one source
pub one_source : (qs : Sources) → AreDistinct planning qs → (p q : Node × List ℕ) → IsIn p qs → IsIn q qs → p.0 ≡ q.0 → p ≡ q
one_source qs d p q i j s =
    let a = at_in qs p i in
    let b = at_in qs q j in
    let e : a.0 ≡ b.0 = one_spot qs d a.0 b.0 p q a.1 b.1 s in
    same_Some p q (sym a.1 ∙ ap (slice_get qs) e ∙ b.1)

others : (q : Node × List ℕ) (qs : Sources) → AllByRecursion (λ (r : Node × List ℕ). less_node q.0 r.0 ≡ true) qs → AllByRecursion (λ (r : Node × List ℕ). q.0 ≡ r.0 → ⊥) qs
others q [] h = tt
others q (p ∷ qs) h = ((λ e. not_less q.0 (subst (λ n. less_node q.0 n ≡ true) (sym e) h.0)), others q qs h.1)

-- what rises has no node twice
pub rising_apart : (qs : Sources) → AreRising qs → AreDistinct planning qs
rising_apart [] r = tt
rising_apart (q ∷ qs) r = (others q qs r.0, rising_apart qs r.1)

pub other_nodes : (m n : Node) → (m ≡ n → ⊥) → same_node m n ≡ false
other_nodes m n ne = both_ways (same_node m n) (λ e. absurd (ne (nodes_tell m n e))) (λ e. e)
