-- The parts that a graph is put together from.
use Rattle.std.specs.Prelude.{◌≡◌, ◌<◌, ℕ, List, [], get_or, length, map}
use Rattle.std.specs.List.{All}
use Rattle.mod_graph.specs.declared.entries.Entry.{Entry}
use Rattle.package_graph.specs.declared.modules.PackageModule.{PackageModule}
use Rattle.mod_graph.specs.declared.lists.Lists.{Lists}
use Rattle.package_graph.specs.declared.packages.Packages.{Packages}
use Rattle.mod_graph.specs.declared.places.Numbers.{Numbers}
use Rattle.mod_graph.specs.declared.rows.Rows.{Rows}
use Rattle.numbered_nodes.specs.Chains.{below}
use Rattle.mod_graph.specs.Errors.{errors_of}
use Rattle.mod_graph.specs.Graph.{Input, AreDistinct, entries, ids, in_environment, nodes_at}
use Rattle.mod_graph.specs.Places.{AreNumbers}
use Rattle.mod_graph.specs.Rows.{AreRows}
use Rattle.mod_graph.specs.Seen.{places_needed}
use Rattle.package_graph.specs.Tables.{AreTables}

-- The lists by place of a tree with these entries, by the numbers in its order.
pub record AreLists (l : Lists) (es : List Entry) (r : Rows) (t : Packages) : Type 0 where
  pub order : l.order ≡ nodes_at es r.order.items
  pub needs_count : length l.needs ≡ length r.order.items
  pub needs : (k : ℕ) → k < length r.order.items → ids (get_or l.needs k []) ≡ places_needed (get_or r.needs.items (get_or r.order.items k 0) []) r.order.items k
  pub errors : (ps : List PackageModule) → AreTables t ps → l.errors ≡ map (errors_of es ps) r.order.items
  pub reached_count : length l.reached ≡ length r.order.items
  pub reached : (i : Input) → es ≡ entries i → AreTables t i.packages → l.reached ≡ map (λ a. below (length i.packages) (in_environment i a)) r.order.items
  pub place_count : length l.places.items ≡ length r.order.items
  pub place_range : All (λ k. k < length r.order.items) l.places.items
  pub places : (k : ℕ) → k < length r.order.items → get_or l.places.items (get_or r.order.items k 0) 0 ≡ k

-- The parts of the graph of these headers and packages.
pub record AreParts (i : Input) (l : Lists) (ps : List PackageModule) (n : Numbers) (r : Rows) (t : Packages) : Type 0 where
  pub distinct : AreDistinct i.headers
  pub packages : ps ≡ i.packages
  pub numbers : AreNumbers n (entries i)
  pub rows : AreRows r (entries i)
  pub tables : AreTables t i.packages
  pub lists : AreLists l (entries i) r t
