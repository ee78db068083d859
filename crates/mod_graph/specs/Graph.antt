-- The graph of modules: its order, its loops, what each node needs and what is wrong with it, and what it sees of modules.
-- That modules are compiled behind those that they import, and that a loop is broken by a boot file: GHC User's Guide, "Using ghc --make" and "Mutually recursive modules and hs-boot files". Which of a looped module's two nodes is seen is this project's own rule.
use Rattle.std.specs.Prelude.{◌≡◌, ℕ, Bool, true, false, ◌&&◌, ◌||◌, not, nat_eq, List, [], ◌∷◌, length, map, slice_get, Some, None, Option, unwrap_or, if◌then◌else◌}
use Rattle.std.specs.List.{list_any, flat_map, AllByRecursion}
use Rattle.std.specs.Option.{option_map_or}
use Rattle.mk_base.specs.declared.name.Node.{Node}
use Rattle.mk_base.specs.declared.place.NodeId.{NodeId}
use Rattle.mk_base.specs.declared.diag.Diag.{Diag}
use Rattle.hs_syntax.specs.declared.header.ImportItem.{ImportItem}
use Rattle.numbered_nodes.specs.Order.{IsOrder}
use Rattle.mod_graph.specs.declared.input.HeaderOf.{HeaderOf}
use Rattle.package_graph.specs.declared.modules.PackageModule.{PackageModule}
use Rattle.mod_graph.specs.declared.input.ViewOf.{ViewOf}
use Rattle.mod_graph.specs.declared.input.ViewOf.TheVariants as view
use Rattle.mod_graph.specs.declared.entries.Entry.{Entry}
use Rattle.mod_graph.specs.Names.{node_named}
use Rattle.mod_graph.specs.Entries.{entries_of}
use Rattle.numbered_nodes.specs.Chains.{any_below, below}
use Rattle.mod_graph.specs.Edges.{number_of, reaches, in_loop, needs, needs_node}
use Rattle.package_graph.specs.Packages.{has_package}
use Rattle.mod_graph.specs.Errors.{Found, InTree, InPackage, InPrim, Nowhere, look_up, node_errors}

-- what a graph is made of: the headers of a tree, the modules of its packages, and whether Prelude is imported where nothing else is said
pub record Input : Type 0 where
  pub headers : List HeaderOf
  pub packages : List PackageModule
  pub prelude : Bool

-- no node stands twice
abbrev pub AreDistinct : List HeaderOf → Type 0
AreDistinct [] = Unit {0}
AreDistinct (h ∷ hs) = AllByRecursion (λ (g : HeaderOf). h.node ≡ g.node → ⊥) hs × AreDistinct hs

abbrev pub one_node : Option Entry → List Node
one_node (Some e) = e.node ∷ []
one_node None = []

-- the nodes with these numbers
abbrev pub nodes_at : List Entry → List ℕ → List Node
nodes_at es os = flat_map (λ k. one_node (slice_get es k)) os

-- The order of the nodes: of the unlisted nodes all of whose needs other than itself are listed, the least by name comes next; where there is none, the least unlisted node does.
abbrev pub IsNodeOrder : List Entry → List Node → Type 0
IsNodeOrder es ns = (os : List ℕ) × IsOrder (λ a b. needs es a b ≡ true) (length es) os × (ns ≡ nodes_at es os)

-- the number of a node's loop: that of the first node in it, by name
abbrev pub first_below : ℕ → (ℕ → Bool) → ℕ
first_below n p = option_map_or (λ k. k) (slice_get (below n p) 0) 0

abbrev pub loop_number : List Entry → Node → ℕ
loop_number es n = first_below (length es) (in_loop es (unwrap_or (number_of es n) 0))

abbrev pub needs_place : List Entry → Node → Option Node → Bool
needs_place es n (Some m) = needs_node es n m
needs_place es n None = false

-- the places, in an order, of what a node needs besides itself, which stands at a place of its own
abbrev pub needs_in : List Entry → List Node → ℕ → Node → List ℕ
needs_in es ns place n = below (length ns) (λ k. not (nat_eq k place) && needs_place es n (slice_get ns k))

abbrev pub ids : List NodeId → List ℕ
ids ns = map (λ (n : NodeId). n.0) ns

-- What a node sees of a module: a node of the tree, the module of a package at a place, or Prim.
pub data View : Type 0 where
  Tree : Node → View
  Package : ℕ → View
  Prim : View

module _ (i : Input) where
  abbrev pub entries : List Entry
  entries = entries_of i.prelude i.headers

  abbrev pub has : Node → Bool
  has n = option_map_or (λ k. true) (number_of entries n) false

  -- the node m reaches the node n, by their names
  abbrev pub reaches_node : Node → Node → Bool
  reaches_node m n = option_map_or (λ a. option_map_or (λ b. reaches entries a b) (number_of entries n) false) (number_of entries m) false

  -- the node and the module's real node are of one loop
  abbrev pub loops_with : Node → Node → Bool
  loops_with m n = option_map_or (λ a. option_map_or (λ b. in_loop entries a b) (number_of entries n) false) (number_of entries m) false

  abbrev pub boot_view : List ℕ → Option View
  boot_view m = if has (node_named m true) then Some (Tree (node_named m true)) else None

  -- A node sees a module's real node where that is there and the module's loop isn't its own, or it reaches that node; else the boot node where there is one.
  abbrev pub tree_view : Node → List ℕ → Option View
  tree_view q m = if has (node_named m false) && (not (loops_with q (node_named m false)) || reaches_node q (node_named m false))
      then Some (Tree (node_named m false)) else boot_view m

  abbrev pub view_by : Found → Node → List ℕ → Option View
  view_by InTree q m = tree_view q m
  view_by (InPackage k) q m = Some (Package k)
  view_by InPrim q m = Some Prim
  view_by Nowhere q m = None

  abbrev pub view_of : Node → List ℕ → Option View
  view_of q m = view_by (look_up entries i.packages m) q m

  -- the import is of a package's module that is the one at place k or reaches it
  abbrev pub brings : Found → ℕ → Bool
  brings (InPackage j) k = has_package i.packages j k
  brings _ k = false

  abbrev pub imports_package : ℕ → Entry → Bool
  imports_package k e = list_any (λ (y : ImportItem). brings (look_up entries i.packages y.module.text) k) e.imports

  -- the package module at place k is in the environment of the node a: the node, or one that it needs, reaches it
  abbrev pub in_environment : ℕ → ℕ → Bool
  in_environment a k = option_map_or (imports_package k) (slice_get entries a) false
      || any_below (length entries) (λ b. needs entries a b && option_map_or (imports_package k) (slice_get entries b) false)

  -- the places of the package modules in a node's environment, rising
  abbrev pub reached_by : Node → List ℕ
  reached_by n = option_map_or (λ a. below (length i.packages) (in_environment a)) (number_of entries n) []

  abbrev pub errors_by : Node → List Diag
  errors_by n = node_errors entries i.packages n

-- a view names a node by its place in the order
abbrev pub IsView : List Node → Option ViewOf → Option View → Type 0
IsView ns (Some (view.Tree id)) (Some (Tree n)) = slice_get ns id.0 ≡ Some n
IsView ns (Some (view.Package k)) (Some (Package j)) = k ≡ j
IsView ns (Some view.Prim) (Some Prim) = Unit {0}
IsView ns None None = Unit {0}
IsView ns _ _ = ⊥
