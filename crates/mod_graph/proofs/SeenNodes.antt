-- Headers are of different nodes exactly where a set of their nodes takes each one anew.
use Rattle.std.proofs.Common.{◌≡◌, ℕ, zero, suc, ◌<◌, Bool, true, false, not, ◌||◌, List, [], ◌∷◌, length, get_or, take, map, refl, ap, sym, ◌∙◌, subst, arith}
use Rattle.std.specs.List.{AllByRecursion, IsDistinct, list_any}
use Rattle.std.proofs.lemmas.Bool.{false≢true, not-false}
use Rattle.mk_base.specs.declared.name.Node.{Node}
use Rattle.mod_graph.specs.declared.input.HeaderOf.{HeaderOf}
use Rattle.mod_graph.specs.Names.{same_node}
use Rattle.mod_graph.specs.Graph.{AreDistinct}
use Rattle.mod_graph.proofs.NodeNames.{either, nodes_tell, node_itself}

abbrev pub nodes_of : List HeaderOf → List Node
nodes_of hs = map (λ (h : HeaderOf). h.node) hs

all_at : (P : HeaderOf → Type 0) (hs : List HeaderOf) (i : ℕ) (h : HeaderOf) → i < length hs → h ≡ get_or hs i h → AllByRecursion P hs → P h
all_at P [] i h lt is a = absurd (omega arith)
all_at P (g ∷ gs) zero h lt is a = subst P (sym is) a.0
all_at P (g ∷ gs) (suc i) h lt is a = all_at P gs i h (omega arith) is a.1

told_apart : (m n : Node) → (n ≡ m → ⊥) → same_node m n ≡ false
told_apart m n apart = either (same_node m n) (λ e. absurd (apart (sym (nodes_tell m n e)))) (λ e. e)

-- where no two are of one node, none of a header's node stands before it
pub first_of_node : (hs : List HeaderOf) (i : ℕ) (h : HeaderOf) → i < length hs → h ≡ get_or hs i h → AreDistinct hs → list_any (same_node h.node) (nodes_of (take i hs)) ≡ false
first_of_node [] i h lt is d = absurd (omega arith)
first_of_node (g ∷ gs) zero h lt is d = refl
first_of_node (g ∷ gs) (suc i) h lt is d =
    let less : i < length gs = omega arith in
    let other : same_node h.node g.node ≡ false = told_apart h.node g.node (all_at (λ f. g.node ≡ f.node → ⊥) gs i h less is d.0) in
    ap (λ b. b || list_any (same_node h.node) (nodes_of (take i gs))) other ∙ first_of_node gs i h less is d.1

-- a copy of a node that isn't added to a set is of a node that the set has
pub not_added : (ns : List Node) (m n : Node) (added : Bool) → m ≡ n → added ≡ not (list_any (same_node m) ns) → added ≡ false → list_any (same_node n) ns ≡ true
not_added ns m n added copy is none =
    ap (λ k. list_any (same_node k) ns) (sym copy) ∙ not-false (list_any (same_node m) ns) (sym is ∙ none)

not_same : (m n : Node) → same_node m n ≡ false → m ≡ n → ⊥
not_same m n h e = false≢true (sym h ∙ ap (same_node m) (sym e) ∙ node_itself m)

all_apart : (n : Node) (hs : List HeaderOf) → AllByRecursion (λ m. same_node n m ≡ false) (nodes_of hs) → AllByRecursion (λ (g : HeaderOf). n ≡ g.node → ⊥) hs
all_apart n [] a = tt
all_apart n (h ∷ hs) a = (not_same n h.node a.0, all_apart n hs a.1)

-- headers whose nodes are the keys of a set are of different nodes
pub distinct_by_set : (hs : List HeaderOf) → IsDistinct same_node (nodes_of hs) → AreDistinct hs
unfolding IsDistinct
distinct_by_set [] d = tt
distinct_by_set (h ∷ hs) d = (all_apart h.node hs d.0, distinct_by_set hs d.1)
