-- The order of a tree has its sources.
use Rattle.std.proofs.Common.{◌≡◌, ℕ, zero, suc, List, [], ◌∷◌, length, refl, ap, sym, ◌∙◌, Some, true}
use Rattle.std.specs.Prelude.{slice_get}
use Rattle.std.specs.List.{list_any}
use Rattle.std.proofs.lemmas.Option.{same_Some}
use Rattle.mk_base.specs.declared.name.Node.{Node}
use Rattle.build_theory.specs.Laws as laws
use Rattle.build_theory.specs.Laws.{IsIn, AreDistinct}
use Rattle.build_theory.proofs.Lists.{in_shuffled, shuffled_back}
use Rattle.build_theory.proofs.Files.{distinct_shuffled}
use Rattle.build_theory.proofs.Whole.{order_is_whole}
use Rattle.mod_graph.specs.Names.{same_node}
use Rattle.build_plan.specs.Tree.{SourceTree, planning, nodes_of, ordered}
use Rattle.build_plan.specs.Plan.{IsStanding}
use Rattle.build_plan.proofs.Spots.{node_there, rising_apart}

pub source_from : (qs : List (Node × List ℕ)) (k : ℕ) (d : Node) → slice_get (nodes_of qs) k ≡ Some d → (q : Node × List ℕ) × (slice_get qs k ≡ Some q) × (q.0 ≡ d)
source_from [] k d e = absurd (let h : ⊥ = cc in h)
source_from (q ∷ qs) zero d e = (q, refl, same_Some q.0 d e)
source_from (q ∷ qs) (suc k) d e = source_from qs k d e

-- the order has the sources, no node twice
pub ordered_apart : (t : SourceTree) → IsStanding t → AreDistinct planning (ordered t)
unfolding ordered
ordered_apart t fine = distinct_shuffled planning (order_is_whole planning t) (rising_apart t.sources fine.rising)

pub in_sources : (t : SourceTree) (q : Node × List ℕ) → IsIn q (ordered t) → IsIn q t.sources
unfolding ordered
in_sources t q i = in_shuffled q (shuffled_back (order_is_whole planning t)) i

pub is_source : (t : SourceTree) (q : Node × List ℕ) → IsIn q (ordered t) → list_any (λ (p : Node × List ℕ). same_node q.0 p.0) t.sources ≡ true
is_source t q i = node_there t.sources q (in_sources t q i)

pub shuffled_length : {X : Type 0} {xs ys : List X} → laws.Shuffles xs ys → length xs ≡ length ys
shuffled_length laws.none = refl
shuffled_length (laws.skip s) = ap suc (shuffled_length s)
shuffled_length laws.swap = refl
shuffled_length (laws.then_ s t) = shuffled_length s ∙ shuffled_length t

-- as many nodes as there are sources
pub ordered_count : (t : SourceTree) → length (ordered t) ≡ length t.sources
unfolding ordered
ordered_count t = sym (shuffled_length (order_is_whole planning t))
