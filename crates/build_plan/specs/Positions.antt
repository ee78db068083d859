-- Where sources stand, and where what a node sees of a module stands.
use Rattle.std.specs.Prelude.{◌≡◌, ℕ, Bool, true, false, nat_lt, List, [], ◌∷◌, map, slice_get, position, Some, None, if◌then◌else◌}
use Rattle.std.specs.declared.option.Option.{Option}
use Rattle.std.specs.List.{list_any, flat_map}
use Rattle.indexmap.specs.IndexMap.{get}
use Rattle.mk_base.specs.declared.name.Node.{Node}
use Rattle.hs_syntax.specs.declared.header.ImportItem.{ImportItem}
use Rattle.mk_base.specs.Texts.{same_text}
use Rattle.mod_graph.specs.Names.{same_node, node_named}
use Rattle.mod_graph.specs.Graph.{Input, View, Tree, view_of}
use Rattle.build_plan.specs.declared.places.NodePlaces.{NodePlaces}
use Rattle.build_plan.specs.declared.sources.Source.{Source}

abbrev pub pairs : List Source → List (Node × List ℕ)
pairs sources = map (λ (s : Source). (s.node, s.bytes.now)) sources

-- where the module's boot node or its real one stands
abbrev pub place_in : NodePlaces → Bool → List ℕ → Option ℕ
place_in p true m = get same_text p.boots m
place_in p false m = get same_text p.reals m

-- this is a place of the node, or there is none
abbrev pub IsPlace : List (Node × List ℕ) → Node → Option ℕ → Type 0
IsPlace qs n None = list_any (λ q. same_node n q.0) qs ≡ false
IsPlace qs n (Some i) = (s : List ℕ) × (slice_get qs i ≡ Some (n, s))

abbrev pub ArePlaces : NodePlaces → List (Node × List ℕ) → Type 0
ArePlaces p qs = (boot : Bool) (m : List ℕ) → IsPlace qs (node_named m boot) (place_in p boot m)

-- the place of a node that is seen, in an order
abbrev pub node_place : List Node → Option View → Option ℕ
node_place ns (Some (Tree m)) = position (same_node m) ns
node_place ns _ = None

-- a place before this one
abbrev pub before_place : ℕ → Option ℕ → Option ℕ
before_place place (Some k) = if nat_lt k place then Some k else None
before_place place None = None

abbrev pub view_by : Input → Option Node → List ℕ → Option View
view_by i (Some n) m = view_of i n m
view_by i None m = None

-- the place of what the node at a place sees of a module, where that is done before it
abbrev pub seen_place : Input → List Node → ℕ → List ℕ → Option ℕ
seen_place i ns place m = before_place place (node_place ns (view_by i (slice_get ns place) m))

abbrev pub one_place : Option ℕ → List ℕ
one_place (Some k) = k ∷ []
one_place None = []

-- the places of what the node at a place sees of the modules that it imports, of those that are done before it
abbrev pub import_places : Input → List Node → ℕ → List ImportItem → List ℕ
import_places i ns place ys = flat_map (λ (y : ImportItem). one_place (seen_place i ns place y.module.text)) ys
