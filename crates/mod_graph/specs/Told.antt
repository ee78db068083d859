-- The diagnostics of the graph stage, by the tables.
use Rattle.std.specs.Prelude.{ℕ, Bool, true, false, ◌&&◌, not, is_some, List, [], ◌∷◌, ◌++◌, get_or, slice_get, Some, None, Option, codes, if◌then◌else◌}
use Rattle.std.specs.List.{flat_map, find}
use Rattle.std.specs.Option.{option_map_or}
use Rattle.numbered_nodes.specs.Bits.{has}
use Rattle.mk_base.specs.declared.name.Node.{Node}
use Rattle.mk_base.specs.declared.diag.Diag.{Diag}
use Rattle.hs_syntax.specs.declared.header.ImportItem.{ImportItem}
use Rattle.mod_graph.specs.declared.entries.Entry.{Entry}
use Rattle.package_graph.specs.declared.packages.Packages.{Packages}
use Rattle.mod_graph.specs.declared.places.Numbers.{Numbers}
use Rattle.mod_graph.specs.Entries.{diag_at}
use Rattle.mod_graph.specs.Errors.{Found, InTree, InPackage, InPrim, Nowhere, not_found, no_boot, cycle_text, fault_errors}
use Rattle.mod_graph.specs.Found.{found_in}
use Rattle.mod_graph.specs.Names.{same_text}
use Rattle.mod_graph.specs.Places.{number_in}
use Rattle.mk_base.specs.Places.{first_place}

abbrev pub has_in : Numbers → Bool → List ℕ → Bool
has_in n boot m = is_some (number_in n boot m)

-- the least name of a module with a fault that a table has for a place
abbrev pub name_in : List (Option (List ℕ)) → ℕ → Option (List ℕ)
name_in names k = option_map_or (λ o. o) (slice_get names k) None

-- an import of a module that has the other kind of node alone
abbrev pub told_in_tree : Numbers → ImportItem → List Diag
told_in_tree n y = if has_in n y.source y.«module».text then [] else if y.source then no_boot y else not_found y

-- an import with SOURCE of a module that has no boot file
abbrev pub told_source : ImportItem → List Diag
told_source y = if y.source then no_boot y else []

abbrev pub told_faults : Packages → ℕ → ImportItem → List Diag
told_faults t k y = fault_errors y (name_in t.damaged.items k) (name_in t.dangling.items k)

abbrev pub told_at : Numbers → Packages → Found → ImportItem → List Diag
told_at n t InTree y = told_in_tree n y
told_at n t (InPackage k) y = told_source y ++ told_faults t k y
told_at n t InPrim y = told_source y
told_at n t Nowhere y = not_found y

abbrev pub told_import : Numbers → Packages → ImportItem → List Diag
told_import n t y = told_at n t (found_in n t y.«module».text) y

abbrev pub told_imports : Numbers → Packages → List ImportItem → List Diag
told_imports n t ys = flat_map (told_import n t) ys

-- a boot node without its real node
abbrev pub told_alone : Numbers → Node → List Diag
told_alone n q = if q.boot && not (has_in n false q.«module».text) then diag_at first_place 10 (codes "module " ++ (q.«module».text ++ codes " not found")) ∷ [] else []

-- the import leads to a node whose row has the number a
abbrev pub back_in : Numbers → List (List ℕ) → ℕ → ImportItem → Bool
back_in n reach a y = option_map_or (λ b. has (get_or reach b []) a) (number_in n y.source y.«module».text) false

abbrev pub asks_boot_of : List ℕ → ImportItem → Bool
asks_boot_of m y = y.source && same_text y.«module».text m

abbrev pub told_cycle_at : Node → Option ImportItem → List Diag
told_cycle_at q (Some y) = diag_at y.«module».at 11 (cycle_text y.«module».text) ∷ []
told_cycle_at q None = diag_at first_place 11 (cycle_text q.«module».text) ∷ []

abbrev pub told_own_boot_at : Node → Option ImportItem → List Diag
told_own_boot_at q (Some y) = diag_at y.«module».at 11 (cycle_text q.«module».text) ∷ []
told_own_boot_at q None = []

abbrev pub told_own_boot : Numbers → Entry → List Diag
told_own_boot n e = if not e.node.boot && has_in n true e.node.«module».text then told_own_boot_at e.node (find (asks_boot_of e.node.«module».text) e.imports) else []

abbrev pub told_cycle : Numbers → List (List ℕ) → ℕ → Entry → List Diag
told_cycle n reach a e = if has (get_or reach a []) a then told_cycle_at e.node (find (back_in n reach a) e.imports) else told_own_boot n e
