-- The entries of a standing tree: one for each source, at its place.
use Rattle.std.proofs.Common.{◌≡◌, ℕ, zero, suc, ◌+◌, Bool, true, List, [], ◌∷◌, length, map, refl, ap, sym, ◌∙◌, subst, Some}
use Rattle.std.specs.Prelude.{slice_get}
use Rattle.std.specs.List.{AllByRecursion}
use Rattle.std.proofs.lemmas.Option.{same_Some}
use Rattle.std.proofs.lemmas.List.{length-map}
use Rattle.mk_base.specs.declared.name.Node.{Node}
use Rattle.mod_graph.specs.declared.input.HeaderOf.{HeaderOf}
use Rattle.mod_graph.specs.declared.entries.Entry.{Entry}
use Rattle.mod_graph.specs.Names.{less_node}
use Rattle.mod_graph.specs.Entries.{insert, by_node, counted, entry_of, is_too_large, entries_from}
use Rattle.mod_graph.specs.Edges.{number_of}
use Rattle.mod_graph.specs.Graph.{AreDistinct, entries}
use Rattle.mod_graph.proofs.SortedHeaders.{nodes_apart}
use Rattle.mod_graph.proofs.NodeOrders.{number_is_place}
use Rattle.build_plan.specs.Tree.{SourceTree, header_for, input_of, nodes_of}
use Rattle.build_plan.specs.Plan.{AreRising}
use Rattle.build_plan.proofs.Order.{not_less}

abbrev Sources : Type 0
Sources = List (Node × List ℕ)

first_put : (f g : HeaderOf) (gs : List HeaderOf) → less_node f.node g.node ≡ true → insert f (g ∷ gs) ≡ f ∷ g ∷ gs
first_put f g gs e = rw e refl

put_front : (q : Node × List ℕ) (qs : Sources) → AllByRecursion (λ (r : Node × List ℕ). less_node q.0 r.0 ≡ true) qs → insert (header_for q) (map header_for qs) ≡ header_for q ∷ map header_for qs
put_front q [] h = refl
put_front q (p ∷ qs) h = first_put (header_for q) (header_for p) (map header_for qs) h.0

sorted_already : (qs : Sources) → AreRising qs → by_node (map header_for qs) ≡ map header_for qs
sorted_already [] r = refl
sorted_already (q ∷ qs) r = ap (insert (header_for q)) (sorted_already qs r.1) ∙ put_front q qs r.0

other_headers : (q : Node × List ℕ) (qs : Sources) → AllByRecursion (λ (r : Node × List ℕ). less_node q.0 r.0 ≡ true) qs → AllByRecursion (λ (g : HeaderOf). q.0 ≡ g.node → ⊥) (map header_for qs)
other_headers q [] h = tt
other_headers q (p ∷ qs) h = ((λ e. not_less q.0 (subst (λ n. less_node q.0 n ≡ true) (sym e) h.0)), other_headers q qs h.1)

-- no header stands twice
pub headers_apart : (qs : Sources) → AreRising qs → AreDistinct (map header_for qs)
headers_apart [] r = tt
headers_apart (q ∷ qs) r = (other_headers q qs r.0, headers_apart qs r.1)

nodes_from : (prelude : Bool) (number before : ℕ) (qs : Sources) → map (λ (e : Entry). e.node) (entries_from prelude number before (map header_for qs)) ≡ nodes_of qs
nodes_from prelude number before [] = refl
nodes_from prelude number before (q ∷ qs) = ap (λ ns. q.0 ∷ ns) (nodes_from prelude (suc number) (before + counted (length q.1)) qs)

-- the entry of a source, where those before have so many bytes
pub record IsEntry (t : SourceTree) (k : ℕ) (q : Node × List ℕ) : Type 0 where
  pub number : ℕ
  pub before : ℕ
  pub is : slice_get (entries (input_of t)) k ≡ Some (entry_of t.settings.prelude number (is_too_large before (length q.1)) (header_for q))

entry_from : (prelude : Bool) (number before : ℕ) (qs : Sources) (k : ℕ) (q : Node × List ℕ) → slice_get qs k ≡ Some q
    → (m : ℕ) × (b : ℕ) × (slice_get (entries_from prelude number before (map header_for qs)) k ≡ Some (entry_of prelude m (is_too_large b (length q.1)) (header_for q)))
entry_from prelude number before [] k q e = absurd (let h : ⊥ = cc in h)
entry_from prelude number before (p ∷ qs) zero q e =
    (number, before, ap (λ (z : Node × List ℕ). Some (entry_of prelude number (is_too_large before (length z.1)) (header_for z))) (same_Some p q e))
entry_from prelude number before (p ∷ qs) (suc k) q e = entry_from prelude (suc number) (before + counted (length p.1)) qs k q e

module _ (t : SourceTree) (rising : AreRising t.sources) where
  entries_are : entries (input_of t) ≡ entries_from t.settings.prelude 0 0 (map header_for t.sources)
  entries_are = ap (entries_from t.settings.prelude 0 0) (sorted_already t.sources rising)

  pub entry_nodes : map (λ (e : Entry). e.node) (entries (input_of t)) ≡ nodes_of t.sources
  entry_nodes = ap (map (λ (e : Entry). e.node)) entries_are ∙ nodes_from t.settings.prelude 0 0 t.sources

  pub entry_count : length (entries (input_of t)) ≡ length t.sources
  entry_count = sym (length-map (entries (input_of t)) (λ (e : Entry). e.node)) ∙ ap length entry_nodes ∙ length-map t.sources (λ (q : Node × List ℕ). q.0)

  pub entry_at : (k : ℕ) (q : Node × List ℕ) → slice_get t.sources k ≡ Some q → IsEntry t k q
  entry_at k q e =
      let s = entry_from t.settings.prelude 0 0 t.sources k q e in
      record { number = s.0; before = s.1; is = ap (λ (es : List Entry). slice_get es k) entries_are ∙ s.2 }

  -- the number of a node is its source's place
  pub source_number : (k : ℕ) (q : Node × List ℕ) → slice_get t.sources k ≡ Some q → number_of (entries (input_of t)) q.0 ≡ Some k
  source_number k q e =
      let s = entry_at k q e in
      number_is_place (entries (input_of t)) (nodes_apart t.settings.prelude (map header_for t.sources) (headers_apart t.sources rising)) k
      (entry_of t.settings.prelude s.number (is_too_large s.before (length q.1)) (header_for q)) s.is
