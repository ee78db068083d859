-- The modules of packages in the environments of nodes, by the tables.
use Rattle.std.specs.Prelude.{ℕ, Bool, false, List, [], get_or, slice_get}
use Rattle.std.specs.List.{list_any}
use Rattle.std.specs.Option.{option_map_or}
use Rattle.numbered_nodes.specs.Bits.{has}
use Rattle.hs_syntax.specs.declared.header.ImportItem.{ImportItem}
use Rattle.mod_graph.specs.declared.entries.Entry.{Entry}
use Rattle.package_graph.specs.declared.packages.Packages.{Packages}
use Rattle.mod_graph.specs.declared.places.Numbers.{Numbers}
use Rattle.mod_graph.specs.Errors.{Found, InPackage}
use Rattle.mod_graph.specs.Found.{found_in}

-- what is found is a package's module in whose row the number k stands
abbrev pub brings_in : Packages → Found → ℕ → Bool
brings_in t (InPackage j) k = has (get_or t.rows.items j []) k
brings_in t _ k = false

-- some of the imports is of such a module
abbrev pub imports_bring : Numbers → Packages → List ImportItem → ℕ → Bool
imports_bring n t ys k = list_any (λ (y : ImportItem). brings_in t (found_in n t y.«module».text) k) ys

-- the same of the imports of a node
abbrev pub own_brings : Numbers → Packages → List Entry → ℕ → ℕ → Bool
own_brings n t es a k = option_map_or (λ (e : Entry). imports_bring n t e.imports k) (slice_get es a) false
