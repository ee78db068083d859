-- Where the names of modules are found, by the tables.
use Rattle.std.specs.Prelude.{ℕ, is_some, List, Some, None, Option, codes, if◌then◌else◌}
use Rattle.mod_graph.specs.declared.found.Found.{Found}
use Rattle.mod_graph.specs.declared.found.Found.TheVariants as told
use Rattle.package_graph.specs.declared.packages.Packages.{Packages}
use Rattle.mod_graph.specs.declared.places.Numbers.{Numbers}
use Rattle.mod_graph.specs.Errors.{InTree, InPackage, InPrim, Nowhere}
use Rattle.mod_graph.specs.Errors as errors
use Rattle.mod_graph.specs.Names.{same_text}
use Rattle.mod_graph.specs.Places.{module_in}
use Rattle.package_graph.specs.Tables.{first_in}

abbrev pub as_found : Found → errors.Found
as_found told.Tree = InTree
as_found (told.Package k) = InPackage k
as_found told.Prim = InPrim
as_found told.Nowhere = Nowhere

abbrev pub found_at : List ℕ → Option ℕ → errors.Found
found_at m (Some k) = InPackage k
found_at m None = if same_text m (codes "Prim") then InPrim else Nowhere

abbrev pub found_outside : Packages → List ℕ → errors.Found
found_outside t m = found_at m (first_in t m)

abbrev pub found_in : Numbers → Packages → List ℕ → errors.Found
found_in n t m = if is_some (module_in n m) then InTree else found_outside t m
