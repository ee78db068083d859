-- The language meets what the laws of builds ask, and its order is that of the plan.
use Rattle.std.proofs.Common.{◌≡◌, ℕ, zero, suc, ◌+◌, Bool, cond, List, [], ◌∷◌, ◌++◌, length, refl, ap, ◌∙◌, Some, None}
use Rattle.std.specs.Prelude.{slice_get}
use Rattle.std.specs.declared.option.Option.{Option}
use Rattle.std.specs.Option.{option_map_or}
use Rattle.std.specs.List.{remove}
use Rattle.mk_base.specs.declared.name.Node.{Node}
use Rattle.build_theory.specs.Build.{insert, by_node, sorted, is_ready, first_at, next_at, order_from, order}
use Rattle.build_theory.specs.Laws.{IsOrdered, IsExact}
use Rattle.mod_graph.specs.Names.{less_node}
use Rattle.mod_graph.proofs.NodeTests.{nodes_tell, node_itself, less_apart, less_chain, less_total}
use Rattle.build_plan.specs.Tree as plan
use Rattle.build_plan.specs.Tree.{Settings, planning, ordered, sources_of}
use Rattle.plain_build.specs.declared.build.PlainBuild.{PlainBuild}
use Rattle.plain_build.specs.Plain.{PlainTree, plain}
use Rattle.plain_build.specs.Result.{settings_in, tree_of}
use Rattle.plain_build.specs.Done.{sorted_tree}

abbrev Sources : Type 0
Sources = List (Node × List ℕ)

pub plain_ordered : IsOrdered plain
plain_ordered = record { apart = less_apart; chain = less_chain; total = less_total }

pub plain_exact : IsExact plain
plain_exact = record { tells = nodes_tell; itself = node_itself }

insert_same : (f : Node × List ℕ) (gs : Sources) → insert plain f gs ≡ insert planning f gs
insert_same f [] = refl
insert_same f (g ∷ gs) = ap (λ (l : Sources). cond (less_node f.0 g.0) (f ∷ g ∷ gs) (g ∷ l)) (insert_same f gs)

by_node_same : (fs : Sources) → by_node plain fs ≡ by_node planning fs
by_node_same [] = refl
by_node_same (f ∷ fs) = ap (insert plain f) (by_node_same fs) ∙ insert_same f (by_node planning fs)

abbrev with_sources : Settings → Sources → PlainTree
with_sources g qs = record { settings = g; sources = qs }

-- the tree that is built
pub tree_same : (input : PlainBuild) → sorted plain (tree_of input) ≡ sorted_tree input
unfolding plan.sorted_tree
tree_same input = ap (with_sources (settings_in input)) (by_node_same (sources_of input.files))

first_same : (ready : Node × List ℕ → Bool) (i : ℕ) (qs : Sources) → first_at plain ready i qs ≡ first_at planning ready i qs
first_same ready i [] = refl
first_same ready i (q ∷ qs) = ap (λ (o : Option ℕ). cond (ready q) (Some i) o) (first_same ready (i + 1) qs)

next_same : (t : PlainTree) (listed : List Node) (left : Sources) → next_at plain t listed left ≡ next_at planning t listed left
next_same t listed left = ap (λ (o : Option ℕ). option_map_or (λ (i : ℕ). i) o 0) (first_same (λ (q : Node × List ℕ). is_ready planning t listed q.0) 0 left)

either_same : (f g : Node × List ℕ → Sources) → ((q : Node × List ℕ) → f q ≡ g q) → (o : Option (Node × List ℕ)) → option_map_or f o [] ≡ option_map_or g o []
either_same f g h None = refl
either_same f g h (Some q) = h q

from_same : (n : ℕ) (t : PlainTree) (listed : List Node) (left : Sources) → order_from plain n t listed left ≡ order_from planning n t listed left
from_same zero t listed left = refl
from_same (suc n) t listed left =
    let rest : ℕ → Node × List ℕ → Sources = λ i q. q ∷ order_from plain n t (listed ++ q.0 ∷ []) (remove left i) in
    ap (λ (i : ℕ). option_map_or (rest i) (slice_get left i) []) (next_same t listed left)
    ∙ either_same (rest (next_at planning t listed left)) (λ (q : Node × List ℕ). q ∷ order_from planning n t (listed ++ q.0 ∷ []) (remove left (next_at planning t listed left)))
    (λ q. ap (λ (l : Sources). q ∷ l) (from_same n t (listed ++ q.0 ∷ []) (remove left (next_at planning t listed left)))) (slice_get left (next_at planning t listed left))

-- the order
pub order_same : (t : PlainTree) → order plain t ≡ ordered t
unfolding ordered
order_same t = from_same (length t.sources) t [] t.sources
