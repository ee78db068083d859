-- Where sources stand, one after another.
use Rattle.std.proofs.Common.{◌≡◌, ℕ, zero, suc, ◌+◌, ◌<◌, ◌≤◌, Bool, true, false, ◌||◌, List, [], ◌∷◌, ◌++◌, length, take, get_or, refl, ap, sym, ◌∙◌, subst, cond, Some, None, arith}
use Rattle.std.specs.Prelude.{slice_get}
use Rattle.std.specs.declared.option.Option.{Option}
use Rattle.std.specs.List.{list_any}
use Rattle.std.proofs.lemmas.List.{take_more}
use Rattle.std.proofs.lemmas.List.Folds.{list_any-append}
use Rattle.mk_base.specs.declared.name.Node.{Node}
use Rattle.build_theory.proofs.Lists.{both_ways, clash}
use Rattle.mod_graph.specs.Names.{same_node}
use Rattle.mod_graph.proofs.NodeTests.{node_itself, nodes_tell}
use Rattle.build_plan.specs.declared.sources.Source.{Source}
use Rattle.build_plan.specs.Positions.{IsPlace, pairs}

both_false : (b c : Bool) → b ≡ false → c ≡ false → (b || c) ≡ false
both_false b c e f = ap (λ x. x || c) e ∙ f

pub front_next : {X : Type 0} (xs : List X) (i : ℕ) (x : X) → i < length xs → x ≡ get_or xs i x → take (i + 1) xs ≡ take i xs ++ x ∷ []
front_next xs i x lt is = take_more xs i x lt ∙ ap (λ y. take i xs ++ y ∷ []) (sym is)

get_front : {X : Type 0} (xs ys : List X) (k : ℕ) (x : X) → slice_get xs k ≡ Some x → slice_get (xs ++ ys) k ≡ Some x
get_front [] ys k x e = absurd (let h : ⊥ = cc in h)
get_front (z ∷ xs) ys zero x e = e
get_front (z ∷ xs) ys (suc k) x e = get_front xs ys k x e

get_last : {X : Type 0} (xs : List X) (x : X) → slice_get (xs ++ x ∷ []) (length xs) ≡ Some x
get_last [] x = refl
get_last (z ∷ xs) x = get_last xs x

place_kept : (qs : List (Node × List ℕ)) (q : Node × List ℕ) (n : Node) (o : Option ℕ) → same_node q.0 n ≡ false → IsPlace qs n o → IsPlace (qs ++ q ∷ []) n o
place_kept qs q n None e h =
    let other : same_node n q.0 ≡ false = both_ways (same_node n q.0) (λ k. absurd (clash (same_node q.0 n) (subst (λ d. same_node d n ≡ true) (nodes_tell n q.0 k) (node_itself n)) e)) (λ k. k) in
    list_any-append (λ (p : Node × List ℕ). same_node n p.0) qs (q ∷ [])
    ∙ both_false (list_any (λ (p : Node × List ℕ). same_node n p.0) qs) (same_node n q.0 || false) h (both_false (same_node n q.0) false other refl)
place_kept qs q n (Some i) e h = (h.0, get_front qs (q ∷ []) i (n, h.0) h.1)

-- one more node has its place
pub place_next : (qs : List (Node × List ℕ)) (q : Node × List ℕ) (n : Node) (old new : Option ℕ) (i : ℕ) → i ≡ length qs → new ≡ cond (same_node q.0 n) (Some i) old → IsPlace qs n old → IsPlace (qs ++ q ∷ []) n new
place_next qs q n old new i at e h =
    subst (IsPlace (qs ++ q ∷ []) n) (sym e)
    (both_ways (same_node q.0 n)
    (λ s. subst (λ b. IsPlace (qs ++ q ∷ []) n (cond b (Some i) old)) (sym s)
    (q.1, subst (λ j. slice_get (qs ++ q ∷ []) j ≡ Some (n, q.1)) (sym at) (get_last qs q ∙ ap (λ m. Some (m, q.1)) (nodes_tell q.0 n s))))
    (λ s. subst (λ b. IsPlace (qs ++ q ∷ []) n (cond b (Some i) old)) (sym s) (place_kept qs q n old s h)))

pub pairs_count : (sources : List Source) (i : ℕ) → i ≤ length sources → i ≡ length (pairs (take i sources))
pairs_count sources zero h = refl
pairs_count [] (suc i) h = absurd (omega arith)
pairs_count (x ∷ sources) (suc i) h = ap suc (pairs_count sources i (omega arith))
