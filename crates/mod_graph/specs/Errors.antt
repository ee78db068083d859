-- The diagnostics of the graph stage. The codes and texts are this project's own; import cycles and missing boot files are refused as GHC User's Guide has it, "Mutually recursive modules and hs-boot files".
use Rattle.std.specs.Prelude.{ℕ, Bool, true, false, ◌&&◌, not, is_some, List, [], ◌∷◌, ◌++◌, slice_get, Some, None, Option, codes, if◌then◌else◌}
use Rattle.std.specs.List.{flat_map, find}
use Rattle.std.specs.Option.{option_map_or}
use Rattle.std.specs.declared.cmp.Ordering.{Ordering}
use Rattle.std.specs.declared.cmp.Ordering.TheVariants.{Less, Equal, Greater}
use Rattle.mk_base.specs.Order.{diag_cmp}
use Rattle.mk_base.specs.declared.name.Node.{Node}
use Rattle.mk_base.specs.declared.diag.Diag.{Diag}
use Rattle.hs_syntax.specs.declared.header.ImportItem.{ImportItem}
use Rattle.package_graph.specs.declared.modules.PackageModule.{PackageModule}
use Rattle.mod_graph.specs.declared.entries.Entry.{Entry}
use Rattle.mk_base.specs.Places.{first_place}
use Rattle.mod_graph.specs.Names.{same_text, node_named}
use Rattle.mod_graph.specs.Entries.{diag_at}
use Rattle.mod_graph.specs.Edges.{number_of, module_number, target, reaches}
use Rattle.package_graph.specs.Packages.{first_package, least_faulty, is_damaged, is_dangling}

-- Diagnostics in their order, those that are alike in all parts once.
abbrev pub put_by : Ordering → Diag → Diag → List Diag → List Diag → List Diag
put_by Less d e es rest = d ∷ e ∷ es
put_by Equal d e es rest = e ∷ es
put_by Greater d e es rest = e ∷ rest

abbrev pub put_in : Diag → List Diag → List Diag
put_in d [] = d ∷ []
put_in d (e ∷ es) = put_by (diag_cmp d e) d e es (put_in d es)

abbrev pub in_order : List Diag → List Diag
in_order [] = []
in_order (d ∷ ds) = put_in d (in_order ds)

-- Where a module's name is found: in the tree, then in the first package that has it, then as Prim.
pub data Found : Type 0 where
  InTree : Found
  InPackage : ℕ → Found
  InPrim : Found
  Nowhere : Found

abbrev pub not_found : ImportItem → List Diag
not_found y = diag_at y.module.at 10 (codes "module " ++ (y.module.text ++ codes " not found")) ∷ []

abbrev pub no_boot : ImportItem → List Diag
no_boot y = diag_at y.module.at 12 (codes "module " ++ (y.module.text ++ codes " has no boot file")) ∷ []

abbrev pub cycle_text : List ℕ → List ℕ
cycle_text m = codes "import cycle through " ++ m

-- damage is told first
abbrev pub fault_errors : ImportItem → Option (List ℕ) → Option (List ℕ) → List Diag
fault_errors y (Some m) o = diag_at y.module.at 14 (codes "package interface " ++ (m ++ codes " is damaged")) ∷ []
fault_errors y None (Some m) = diag_at y.module.at 15 (codes "package interface " ++ (m ++ codes " names what is not there")) ∷ []
fault_errors y None None = []

module _ (es : List Entry) (ps : List PackageModule) where
  abbrev pub outside_tree : List ℕ → Option ℕ → Found
  outside_tree m (Some k) = InPackage k
  outside_tree m None = if same_text m (codes "Prim") then InPrim else Nowhere

  abbrev pub look_up : List ℕ → Found
  look_up m = if is_some (module_number es m) then InTree else outside_tree m (first_package ps m)

  abbrev pub has_node : Node → Bool
  has_node n = is_some (number_of es n)

  -- an import of a module that has the other kind of node alone
  abbrev pub in_tree_errors : ImportItem → List Diag
  in_tree_errors y = if has_node (target y) then [] else if y.source then no_boot y else not_found y

  abbrev pub errors_at : Found → ImportItem → List Diag
  errors_at InTree y = in_tree_errors y
  errors_at (InPackage k) y = (if y.source then no_boot y else []) ++ fault_errors y (least_faulty ps is_damaged k) (least_faulty ps is_dangling k)
  errors_at InPrim y = if y.source then no_boot y else []
  errors_at Nowhere y = not_found y

  abbrev pub import_errors : ImportItem → List Diag
  import_errors y = errors_at (look_up y.module.text) y

  -- a boot node without its real node
  abbrev pub alone_errors : Node → List Diag
  alone_errors n = if n.boot && not (has_node (node_named n.module.text false))
      then diag_at first_place 10 (codes "module " ++ (n.module.text ++ codes " not found")) ∷ [] else []

  -- the import leads to a node that reaches the node a
  abbrev pub leads_back : ℕ → ImportItem → Bool
  leads_back a y = option_map_or (λ b. reaches es b a) (number_of es (target y)) false

  -- a node that reaches itself: at its first import that leads into its cycle, or at 1:1 where its own boot node alone does
  abbrev pub cycle_at : Node → Option ImportItem → List Diag
  cycle_at n (Some y) = diag_at y.module.at 11 (cycle_text y.module.text) ∷ []
  cycle_at n None = diag_at first_place 11 (cycle_text n.module.text) ∷ []

  -- a real node that imports its own boot node: at the first such import
  abbrev pub own_boot_at : Node → Option ImportItem → List Diag
  own_boot_at n (Some y) = diag_at y.module.at 11 (cycle_text n.module.text) ∷ []
  own_boot_at n None = []

  abbrev pub asks_own_boot : Node → ImportItem → Bool
  asks_own_boot n y = y.source && same_text y.module.text n.module.text

  abbrev pub cycle_errors : ℕ → Entry → List Diag
  cycle_errors a e = if reaches es a a then cycle_at e.node (find (leads_back a) e.imports)
      else if not e.node.boot && has_node (node_named e.node.module.text true) then own_boot_at e.node (find (asks_own_boot e.node) e.imports)
      else []

  abbrev pub entry_errors : ℕ → Entry → List Diag
  entry_errors a e = in_order (e.own ++ (alone_errors e.node ++ (flat_map import_errors e.imports ++ cycle_errors a e)))

  -- the diagnostics of the node a
  abbrev pub errors_of : ℕ → List Diag
  errors_of a = option_map_or (entry_errors a) (slice_get es a) []

  -- the same of a node by its name
  abbrev pub node_errors : Node → List Diag
  node_errors n = option_map_or errors_of (number_of es n) []
