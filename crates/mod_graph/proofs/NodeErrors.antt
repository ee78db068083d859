-- The diagnostics of the graph stage by the tables are those of the definition.
use Rattle.std.proofs.Common.{◌≡◌, ◌∙◌, ℕ, ◌<◌, Bool, true, false, ◌&&◌, not, List, [], ◌∷◌, ◌++◌, append_assoc, get_or, length, Option, Some, None, refl, ap, sym}
use Rattle.std.specs.Prelude.{slice_get, codes, is_some, if◌then◌else◌}
use Rattle.std.specs.List.{flat_map, find}
use Rattle.std.specs.Option.{option_map_or}
use Rattle.numbered_nodes.specs.Bits.{has}
use Rattle.mk_base.specs.declared.name.Node.{Node}
use Rattle.mk_base.specs.declared.diag.Diag.{Diag}
use Rattle.hs_syntax.specs.declared.header.ImportItem.{ImportItem}
use Rattle.mod_graph.specs.declared.entries.Entry.{Entry}
use Rattle.package_graph.specs.declared.modules.PackageModule.{PackageModule}
use Rattle.package_graph.specs.declared.packages.Packages.{Packages}
use Rattle.mod_graph.specs.declared.places.Numbers.{Numbers}
use Rattle.mod_graph.specs.declared.rows.Rows.{Rows}
use Rattle.mod_graph.specs.Edges.{number_of, target, reaches}
use Rattle.mod_graph.specs.Entries.{diag_at}
use Rattle.mod_graph.specs.Errors.{Found, InTree, InPackage, InPrim, Nowhere, not_found, no_boot, fault_errors, look_up, has_node, in_tree_errors, errors_at, import_errors, alone_errors, leads_back, cycle_at, own_boot_at, asks_own_boot, cycle_errors, in_order, errors_of, entry_errors}
use Rattle.mod_graph.specs.Names.{same_node, node_named}
use Rattle.package_graph.specs.Packages.{least_faulty, is_damaged, is_dangling}
use Rattle.mod_graph.specs.Places.{AreNumbers}
use Rattle.mk_base.specs.Places.{first_place}
use Rattle.mod_graph.specs.Rows.{AreRows}
use Rattle.package_graph.specs.Tables.{AreTables}
use Rattle.mod_graph.specs.Told.{has_in, name_in, told_in_tree, told_source, told_faults, told_at, told_import, told_imports, told_alone, back_in, told_cycle_at, told_own_boot_at, told_own_boot, told_cycle}
use Rattle.mod_graph.proofs.EnvironmentRows.{found_is, package_below}
use Rattle.numbered_nodes.proofs.Below.{same_tests}
use Rattle.package_graph.proofs.PackageRows.{position_below}

name_at_place : (names : List (Option (List ℕ))) (k : ℕ) (o : Option (List ℕ)) → slice_get names k ≡ Some o → name_in names k ≡ o
name_at_place names k o e = ap (λ (s : Option (Option (List ℕ))). option_map_or (λ n. n) s None) e

module _ (n : Numbers) (r : Rows) (t : Packages) (es : List Entry) (ps : List PackageModule) (numbers : AreNumbers n es) (rows : AreRows r es) (tables : AreTables t ps) where
  has_same : (boot : Bool) (m : List ℕ) → has_in n boot m ≡ has_node es ps (node_named m boot)
  has_same boot m = ap is_some (numbers.0 boot m)

  in_tree_same : (y : ImportItem) → told_in_tree n y ≡ in_tree_errors es ps y
  in_tree_same y = ap (λ b. if b then [] else if y.source then no_boot y else not_found y) (has_same y.source y.«module».text)

  faults_same : (k : ℕ) (y : ImportItem) → k < length ps → told_faults t k y ≡ fault_errors y (least_faulty ps is_damaged k) (least_faulty ps is_dangling k)
  faults_same k y lt =
      let damaged : name_in t.damaged.items k ≡ least_faulty ps is_damaged k = name_at_place t.damaged.items k (least_faulty ps is_damaged k) (tables.damaged k lt) in
      let dangling : name_in t.dangling.items k ≡ least_faulty ps is_dangling k = name_at_place t.dangling.items k (least_faulty ps is_dangling k) (tables.dangling k lt) in
      ap (λ d. fault_errors y d (name_in t.dangling.items k)) damaged ∙ ap (fault_errors y (least_faulty ps is_damaged k)) dangling

  at_same : (f : Found) (y : ImportItem) → look_up es ps y.«module».text ≡ f → told_at n t f y ≡ errors_at es ps f y
  at_same InTree y e = in_tree_same y
  at_same (InPackage k) y e = ap (λ ds. told_source y ++ ds) (faults_same k y (package_below es ps y.«module».text k e))
  at_same InPrim y e = refl
  at_same Nowhere y e = refl

  import_same : (y : ImportItem) → told_import n t y ≡ import_errors es ps y
  import_same y = ap (λ f. told_at n t f y) (found_is n t es ps y.«module».text numbers tables) ∙ at_same (look_up es ps y.«module».text) y refl

  imports_same : (ys : List ImportItem) → told_imports n t ys ≡ flat_map (import_errors es ps) ys
  imports_same ys = λ j. flat_map (λ (y : ImportItem). import_same y j) ys

  alone_same : (q : Node) → told_alone n q ≡ alone_errors es ps q
  alone_same q = ap (λ b. if q.boot && not b then diag_at first_place 10 (codes "module " ++ (q.«module».text ++ codes " not found")) ∷ [] else []) (has_same false q.«module».text)

  reach_same : (b a : ℕ) → b < length es → a < length es → has (get_or r.reach.items b []) a ≡ reaches es b a
  reach_same b a p q = let same = rows.reach b a p q in same_tests (has (get_or r.reach.items b []) a) (reaches es b a) same.0 same.1

  back_at : (y : ImportItem) (a : ℕ) (o : Option ℕ) → number_of es (target y) ≡ o → a < length es → option_map_or (λ b. has (get_or r.reach.items b []) a) o false ≡ option_map_or (λ b. reaches es b a) o false
  back_at y a None e lt = refl
  back_at y a (Some b) e lt = reach_same b a (position_below (λ (f : Entry). same_node (target y) f.node) es b e) lt

  back_same : (a : ℕ) (y : ImportItem) → a < length es → back_in n r.reach.items a y ≡ leads_back es ps a y
  back_same a y lt =
      ap (λ o. option_map_or (λ b. has (get_or r.reach.items b []) a) o false) (numbers.0 y.source y.«module».text)
      ∙ back_at y a (number_of es (target y)) refl lt

  cycle_at_same : (q : Node) (o : Option ImportItem) → told_cycle_at q o ≡ cycle_at es ps q o
  cycle_at_same q None = refl
  cycle_at_same q (Some y) = refl

  own_boot_at_same : (q : Node) (o : Option ImportItem) → told_own_boot_at q o ≡ own_boot_at es ps q o
  own_boot_at_same q None = refl
  own_boot_at_same q (Some y) = refl

  cycle_same : (a : ℕ) (e : Entry) → a < length es → told_cycle n r.reach.items a e ≡ cycle_errors es ps a e
  cycle_same a e lt =
      let q : Node = e.node in
      let back : told_cycle_at q (find (back_in n r.reach.items a) e.imports) ≡ cycle_at es ps q (find (leads_back es ps a) e.imports) =
      ap (told_cycle_at q) (λ j. find (λ (y : ImportItem). back_same a y lt j) e.imports) ∙ cycle_at_same q (find (leads_back es ps a) e.imports) in
      let own : told_own_boot n e ≡ (if not q.boot && has_node es ps (node_named q.«module».text true) then own_boot_at es ps q (find (asks_own_boot es ps q) e.imports) else []) =
      ap (λ b. if not q.boot && b then told_own_boot_at q (find (asks_own_boot es ps q) e.imports) else []) (has_same true q.«module».text)
      ∙ ap (λ ds. if not q.boot && has_node es ps (node_named q.«module».text true) then ds else []) (own_boot_at_same q (find (asks_own_boot es ps q) e.imports)) in
      ap (λ b. if b then told_cycle_at q (find (back_in n r.reach.items a) e.imports) else told_own_boot n e) (reach_same a a lt lt)
      ∙ ap (λ ds. if reaches es a a then ds else told_own_boot n e) back
      ∙ ap (λ ds. if reaches es a a then cycle_at es ps q (find (leads_back es ps a) e.imports) else ds) own

  -- what is told of a node, put in order, are its diagnostics
  pub told_same : (a : ℕ) (e : Entry) (ds : List Diag) → a < length es → slice_get es a ≡ Some e
      → ds ≡ in_order (((e.own ++ told_alone n e.node) ++ told_imports n t e.imports) ++ told_cycle n r.reach.items a e) → ds ≡ errors_of es ps a
  told_same a e ds lt at is =
      let alone : List Diag = told_alone n e.node in
      let imports : List Diag = told_imports n t e.imports in
      let cycle : List Diag = told_cycle n r.reach.items a e in
      is
      ∙ ap in_order (append_assoc (e.own ++ alone) imports cycle ∙ append_assoc e.own alone (imports ++ cycle))
      ∙ ap (λ xs. in_order (e.own ++ (xs ++ (imports ++ cycle)))) (alone_same e.node)
      ∙ ap (λ xs. in_order (e.own ++ (alone_errors es ps e.node ++ (xs ++ cycle)))) (imports_same e.imports)
      ∙ ap (λ xs. in_order (e.own ++ (alone_errors es ps e.node ++ (flat_map (import_errors es ps) e.imports ++ xs)))) (cycle_same a e lt)
      ∙ sym (ap (λ o. option_map_or (entry_errors es ps a) o []) at)
