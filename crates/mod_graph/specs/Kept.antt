-- What a graph keeps.
use Rattle.std.specs.Prelude.{◌≡◌, ◌<◌, ℕ, length, get_or, slice_get, Some}
use Rattle.std.specs.Option.{option_map}
use Rattle.mk_base.specs.declared.name.Node.{Node}
use Rattle.mod_graph.specs.declared.graph.Graph.{Graph}
use Rattle.mod_graph.specs.Graph.{Input, AreDistinct, entries, nodes_at, needs_in, ids, errors_by, reached_by}
use Rattle.mod_graph.specs.Places.{AreNumbers}
use Rattle.mod_graph.specs.Rows.{AreRows}
use Rattle.package_graph.specs.Tables.{AreTables}

-- The graph of these headers and packages: its nodes in their order, with lists for each place in it, and tables by the numbers of nodes.
pub record IsGraph (i : Input) (g : Graph) : Type 0 where
  pub distinct : AreDistinct i.headers
  pub nodes : g.order ≡ nodes_at (entries i) g.rows.order.items
  pub needs : (k : ℕ) (q : Node) → slice_get g.order k ≡ Some q → option_map ids (slice_get g.needs k) ≡ Some (needs_in (entries i) g.order k q)
  pub errors : (k : ℕ) (q : Node) → slice_get g.order k ≡ Some q → slice_get g.errors k ≡ Some (errors_by i q)
  pub reached : (k : ℕ) (q : Node) → slice_get g.order k ≡ Some q → slice_get g.reached k ≡ Some (reached_by i q)
  pub packages : g.packages ≡ i.packages
  pub numbers : AreNumbers g.numbers (entries i)
  pub rows : AreRows g.rows (entries i)
  pub tables : AreTables g.tables i.packages
  pub place_count : length g.places.items ≡ length (entries i)
  pub places : (k : ℕ) → k < length (entries i) → get_or g.places.items (get_or g.rows.order.items k 0) 0 ≡ k
