-- What is read off the tables of a graph: the places of what a node needs, and what it sees of a module.
use Rattle.std.specs.Prelude.{◌≡◌, ◌<◌, ℕ, Bool, ◌&&◌, ◌||◌, not, nat_eq, List, [], get_or, length, Some, None, Option, if◌then◌else◌}
use Rattle.std.specs.List.{All}
use Rattle.numbered_nodes.specs.Bits.{has}
use Rattle.mod_graph.specs.declared.input.ViewOf.{ViewOf}
use Rattle.mod_graph.specs.declared.input.ViewOf.TheVariants as view
use Rattle.mod_graph.specs.declared.rows.Rows.{Rows}
use Rattle.numbered_nodes.specs.Chains.{any_below, below}

-- the place of each number below the length of an order, which has each of them once
pub record ArePlaces (places order : List ℕ) : Type 0 where
  pub count : length places ≡ length order
  pub range : All (λ k. k < length order) places
  pub order_range : All (λ r. r < length order) order
  pub place_of : (k : ℕ) → k < length order → get_or places (get_or order k 0) 0 ≡ k
  pub number_at : (r : ℕ) → r < length order → get_or order (get_or places r 0) 0 ≡ r

-- k is the place of some number in the row
abbrev pub is_place : List ℕ → List ℕ → ℕ → Bool
is_place row places k = any_below (length places) (λ r. has row r && nat_eq k (get_or places r 0))

-- the node at the place k is in the row of the one that stands at a place, and isn't that one
abbrev pub is_needed : List ℕ → List ℕ → ℕ → ℕ → Bool
is_needed row order place k = not (nat_eq k place) && has row (get_or order k 0)

-- the places in an order of the nodes in a row, without the place whose row it is
abbrev pub places_needed : List ℕ → List ℕ → ℕ → List ℕ
places_needed row order place = below (length order) (is_needed row order place)

-- a node sees a real node of another loop, and one that it reaches
abbrev pub is_seen : Rows → ℕ → ℕ → Bool
is_seen rows own real = not (nat_eq (get_or rows.loops.items own 0) (get_or rows.loops.items real 0)) || has (get_or rows.reach.items own []) real

-- the real node where it is seen, else the boot node
abbrev pub number_seen : (ℕ → Bool) → Option ℕ → Option ℕ → Option ℕ
number_seen sees None boot = boot
number_seen sees (Some real) boot = if sees real then Some real else boot

-- what is seen of a module outside the tree: the first package's, else Prim where that is the name
abbrev pub outside_seen : Bool → Option ℕ → Option ViewOf
outside_seen is_prim (Some k) = Some (view.Package k)
outside_seen is_prim None = if is_prim then Some view.Prim else None
