-- What a plan holds of a tree.
use Rattle.std.specs.Prelude.{◌≡◌, ℕ, ◌<◌, ◌≤◌, ◌^◌, true, List, [], ◌∷◌, length, map, slice_get, Some}
use Rattle.std.specs.Option.{option_map}
use Rattle.std.specs.List.{AllByRecursion}
use Rattle.mk_base.specs.declared.name.Node.{Node}
use Rattle.mod_graph.specs.declared.graph.Graph.{Graph}
use Rattle.mod_graph.specs.declared.input.HeaderOf.{HeaderOf}
use Rattle.mod_graph.specs.Names.{less_node}
use Rattle.mod_graph.specs.Kept.{IsGraph}
use Rattle.build_plan.specs.declared.plan.Plan.{Plan}
use Rattle.build_plan.specs.declared.plan.PlannedNode.{PlannedNode}
use Rattle.build_plan.specs.Tree.{SourceTree, header_at, input_of, nodes_of, ordered}

-- each node is less than those behind it
abbrev pub AreRising : List (Node × List ℕ) → Type 0
AreRising [] = Unit {0}
AreRising (q ∷ qs) = AllByRecursion (λ r. less_node q.0 r.0 ≡ true) qs × AreRising qs

abbrev pub IsShortNode : Node × List ℕ → Type 0
IsShortNode q = length q.0.module.text < 2 ^ 32

-- A tree whose sources stand by node, with names of fewer than 2^32 bytes.
pub record IsStanding (t : SourceTree) : Type 0 where
  pub rising : AreRising t.sources
  pub unit : length t.settings.unit ≤ 64
  pub few : length t.sources < 2 ^ 32
  pub short : AllByRecursion IsShortNode t.sources

-- The graph of a standing tree: its nodes stand in the tree's order.
pub record IsPlanned (t : SourceTree) (g : Graph) : Type 0 where
  pub standing : IsStanding t
  pub graph : IsGraph (input_of t) g
  pub order : g.order ≡ nodes_of (ordered t)

-- the sources of some nodes, in their order
abbrev pub planned : List PlannedNode → List (Node × List ℕ)
planned ns = map (λ (n : PlannedNode). (n.node, n.bytes.now)) ns

-- the header at a node's place among these is that of its source
abbrev pub HasHeader : List HeaderOf → PlannedNode → Type 0
HasHeader hs n = option_map (λ (h : HeaderOf). h.header) (slice_get hs n.header) ≡ Some (header_at n.node n.bytes.now)

-- the nodes with their sources in the tree's order, each with its header or the diagnostic in its place
pub record AreNodes (t : SourceTree) (hs : List HeaderOf) (ns : List PlannedNode) : Type 0 where
  pub sources : planned ns ≡ ordered t
  pub headers : AllByRecursion (HasHeader hs) ns

-- A plan of a tree: its nodes, and their graph, which knows of each what is wrong with it, what it needs and what it sees of a module.
pub record IsPlan (t : SourceTree) (p : Plan) : Type 0 where
  pub graph : IsPlanned t p.graph
  pub nodes : AreNodes t p.headers p.nodes.items
  pub prelude : p.prelude ≡ t.settings.prelude
