-- The targets of nodes and of modules, by the tables of their numbers.
use Rattle.std.specs.Prelude.{ℕ, Bool, ◌&&◌, nat_eq, true, List, [], ◌++◌, Some, None, Option, get_or, if◌then◌else◌}
use Rattle.std.specs.List.{list_any, flat_map}
use Rattle.std.specs.Option.{option_or, option_to_list}
use Rattle.mk_base.specs.declared.name.Node.{Node}
use Rattle.hs_syntax.specs.declared.header.ImportItem.{ImportItem}
use Rattle.mod_graph.specs.declared.entries.Entry.{Entry}
use Rattle.mod_graph.specs.declared.places.Numbers.{Numbers}
use Rattle.mod_graph.specs.Edges.{is_at}
use Rattle.mod_graph.specs.Places.{number_in, module_in}

-- what has a number keeps it, and else has this one where it is what is numbered
abbrev pub or_number : Option ℕ → Bool → ℕ → Option ℕ
or_number known here number = option_or known (if here then Some number else None)

-- a row with this number among its targets
abbrev pub has_target : List (List ℕ) → ℕ → ℕ → Bool
has_target rows a b = list_any (λ z. nat_eq z b) (get_or rows a [])

module _ (t : Numbers) where
  -- the boot node of a real node's module
  abbrev pub own_boot : Node → Option ℕ
  own_boot n = if n.boot then None else number_in t true n.module.text

  -- what the imports lead to
  abbrev pub import_targets : List ImportItem → List ℕ
  import_targets ys = flat_map (λ (y : ImportItem). option_to_list (number_in t y.source y.module.text)) ys

  -- what a node leads to
  abbrev pub node_targets : Entry → List ℕ
  node_targets e = option_to_list (own_boot e.node) ++ import_targets e.imports

  -- the modules that are imported
  abbrev pub module_targets : List ImportItem → List ℕ
  module_targets ys = flat_map (λ (y : ImportItem). option_to_list (module_in t y.module.text)) ys

  -- the node is of the module x and imports the module y
  abbrev pub joins_from : Entry → ℕ → ℕ → Bool
  joins_from e x y = is_at (module_in t e.node.module.text) x && list_any (λ (i : ImportItem). is_at (module_in t i.module.text) y) e.imports
