-- The parts of a graph, by place.
use Rattle.std.proofs.Common.{◌≡◌, ℕ, Bool, suc, ◌+◌, ◌<◌, List, [], ◌∷◌, get_or, length, map, Some, refl, ap, sym, ◌∙◌, subst, arith}
use Rattle.std.specs.List.{All, range_with_len, slice_get}
use Rattle.std.specs.Option.{option_map, option_map_or}
use Rattle.std.proofs.lemmas.List.FromFn.{get_or-map-range_with_len}
use Rattle.std.proofs.lemmas.Option.{slice_get-map, slice_get-get_or}
use Rattle.mk_base.specs.declared.name.Node.{Node}
use Rattle.mod_graph.specs.declared.entries.Entry.{Entry}
use Rattle.package_graph.specs.declared.modules.PackageModule.{PackageModule}
use Rattle.mod_graph.specs.declared.lists.Lists.{Lists}
use Rattle.package_graph.specs.declared.packages.Packages.{Packages}
use Rattle.mod_graph.specs.declared.places.Numbers.{Numbers}
use Rattle.mod_graph.specs.declared.rows.Rows.{Rows}
use Rattle.mod_graph.specs.declared.input.HeaderOf.{HeaderOf}
use Rattle.mod_graph.specs.Names.{less_node}
use Rattle.mod_graph.specs.Entries.{by_node, counted, entries_from, entries_of, insert}
use Rattle.numbered_nodes.specs.Chains.{below}
use Rattle.mod_graph.specs.Edges.{number_of}
use Rattle.mod_graph.specs.Errors.{errors_of}
use Rattle.mod_graph.specs.Graph.{Input, AreDistinct, entries, errors_by, ids, in_environment, needs_in, nodes_at, reached_by}
use Rattle.mod_graph.specs.Parts.{AreLists, AreParts}
use Rattle.mod_graph.specs.Places.{AreNumbers}
use Rattle.mod_graph.specs.Rows.{AreRows}
use Rattle.package_graph.specs.Tables.{AreTables}
use Rattle.numbered_nodes.proofs.Booleans.{both_ways}
use Rattle.mod_graph.proofs.Placed.{in_range, needs_listed, node_count, placed}
use Rattle.mod_graph.proofs.SortedHeaders.{AreApart, nodes_apart}

-- a list with an item for each number, picked by the numbers of an order
pub picked_are : {X : Type 0} (f : ℕ → List X) (n : ℕ) (os : List ℕ) → All (λ k. k < n) os → map (λ k. get_or (map f (range_with_len 0 n)) k []) os ≡ map f os
picked_are f n [] h = refl
picked_are {X = X} f n (o ∷ os) h =
    let lt : o < n = h 0 0 (omega arith) in
    let at : get_or (map f (range_with_len 0 n)) o [] ≡ f o = get_or-map-range_with_len f 0 n o o [] lt (omega arith) in
    ap (λ (x : List X). x ∷ map (λ k. get_or (map f (range_with_len 0 n)) k []) os) at ∙ ap (λ (l : List (List X)). f o ∷ l) (picked_are f n os (λ k d less. h (suc k) d (omega arith)))

insert_count : (h : HeaderOf) (gs : List HeaderOf) → length (insert h gs) ≡ suc (length gs)
insert_count h [] = refl
insert_count h (g ∷ gs) = both_ways (less_node h.node g.node)
    (λ y. rw y refl)
    (λ y. rw y (ap suc (insert_count h gs)))

sorted_count : (hs : List HeaderOf) → length (by_node hs) ≡ length hs
sorted_count [] = refl
sorted_count (h ∷ hs) = insert_count h (by_node hs) ∙ ap suc (sorted_count hs)

from_count : (prelude : Bool) (number before : ℕ) (hs : List HeaderOf) → length (entries_from prelude number before hs) ≡ length hs
from_count prelude number before [] = refl
from_count prelude number before (h ∷ hs) = ap suc (from_count prelude (suc number) (before + counted h.size) hs)

-- each header has one entry
pub entries_count : (prelude : Bool) (hs : List HeaderOf) → length (entries_of prelude hs) ≡ length hs
entries_count prelude hs = from_count prelude 0 0 (by_node hs) ∙ sorted_count hs

-- the parts, each made of the same entries and packages
pub parts_of : (i : Input) (l : Lists) (ps qs : List PackageModule) (n : Numbers) (r : Rows) (t : Packages) (a b d : List Entry) → AreDistinct i.headers → ps ≡ i.packages → a ≡ entries i → AreNumbers n a → b ≡ entries i → AreRows r b
    → qs ≡ i.packages → AreTables t qs → d ≡ entries i → AreLists l d r t → AreParts i l ps n r t
parts_of i l ps qs n r t a b d distinct packages e numbers f rows g tables h lists = record {
  distinct = distinct;
  packages = packages;
  numbers = subst (AreNumbers n) e numbers;
  rows = subst (AreRows r) f rows;
  tables = subst (AreTables t) g tables;
  lists = subst (λ es. AreLists l es r t) h lists;
}

module _ (i : Input) (l : Lists) (ps : List PackageModule) (n : Numbers) (r : Rows) (t : Packages) (parts : AreParts i l ps n r t) where
  abbrev numbers : List ℕ
  numbers = r.order.items

  apart : AreApart (entries i)
  apart = nodes_apart i.prelude i.headers parts.distinct

  pub listed_range : All (λ k. k < length (entries i)) r.order.items
  listed_range = in_range (entries i) apart r.order.items parts.rows.order

  pub order_size : length l.order ≡ length (entries i)
  order_size = ap length parts.lists.order ∙ node_count (entries i) r.order.items listed_range ∙ parts.rows.order.0

  at_place : (k : ℕ) (q : Node) → slice_get l.order k ≡ Some q → (k < length numbers) × (number_of (entries i) q ≡ Some (get_or numbers k 0))
  at_place k q h = placed (entries i) apart r.order.items parts.rows.order k q (ap (λ (ns : List Node). slice_get ns k) (sym parts.lists.order) ∙ h)

  pub needs_are_listed : (k : ℕ) (q : Node) → slice_get l.order k ≡ Some q → option_map ids (slice_get l.needs k) ≡ Some (needs_in (entries i) l.order k q)
  needs_are_listed k q h =
      let at = at_place k q h in
      let lt = at.0 in
      let size = parts.lists.needs_count in
      let here : slice_get (nodes_at (entries i) numbers) k ≡ Some q = ap (λ (ns : List Node). slice_get ns k) (sym parts.lists.order) ∙ h in
      ap (option_map ids) (slice_get-get_or l.needs k [] (omega arith))
      ∙ ap (λ (x : List ℕ). Some x) (parts.lists.needs k lt ∙ needs_listed (entries i) apart r.order.items parts.rows.order r.needs.items parts.rows.needs_are k q here)
      ∙ ap (λ (ns : List Node). Some (needs_in (entries i) ns k q)) (sym parts.lists.order)

  at_number : {X : Type 0} (f : ℕ → List X) (xs : List (List X)) (k : ℕ) (q : Node) → xs ≡ map f numbers → slice_get l.order k ≡ Some q → slice_get xs k ≡ Some (option_map_or f (number_of (entries i) q) [])
  at_number {X = X} f xs k q e h =
      let at = at_place k q h in
      ap (λ (ys : List (List X)). slice_get ys k) e ∙ slice_get-map f numbers k ∙ ap (option_map f) (slice_get-get_or numbers k 0 at.0)
      ∙ sym (ap (λ o. Some (option_map_or f o [])) at.1)

  pub errors_are_listed : (k : ℕ) (q : Node) → slice_get l.order k ≡ Some q → slice_get l.errors k ≡ Some (errors_by i q)
  errors_are_listed k q h = at_number (errors_of (entries i) i.packages) l.errors k q (parts.lists.errors i.packages parts.tables) h

  pub reached_are_listed : (k : ℕ) (q : Node) → slice_get l.order k ≡ Some q → slice_get l.reached k ≡ Some (reached_by i q)
  reached_are_listed k q h = at_number (λ a. below (length i.packages) (in_environment i a)) l.reached k q (parts.lists.reached i refl parts.tables) h
