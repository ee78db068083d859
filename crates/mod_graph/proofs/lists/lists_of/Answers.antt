use Rattle.std.proofs.Common.{◌≡◌, ◌<◌, ℕ, true, List, [], get_or, length, map, ap, sym, ◌∙◌, subst, arith}
use Rattle.std.specs.List.{All}
use Rattle.std.proofs.lemmas.List.{length-map}
use Rattle.std.proofs.lemmas.List.FromFn.{length-map-range_with_len}
use Rattle.numbered_nodes.specs.Chains.{below}
use Rattle.mod_graph.specs.Edges.{needs}
use Rattle.mod_graph.specs.Graph.{Input, in_environment, nodes_at}
use Rattle.mod_graph.specs.Seen.{ArePlaces}
use Rattle.mod_graph.proofs.Parts.{picked_are}
use Rattle.mod_graph.proofs.Placed.{order_once, order_range}
use Rattle.mod_graph.proofs.Skips.{are_places}
use Rattle.mod_graph.proofs.lists.lists_of.Goals as goal

pub picked-requires : goal.picked-requires
picked-requires c =
    let es = c.args.entries.now in
    let os = c.args.rows.now.order.items in
    let made = c.requires.made in
    let i : Input = made.0 in
    let by : List (List ℕ) = c.in_ok-by_number.by_number.items in
    let size : length by ≡ length es = ap length (c.in_ok-by_number.ensures i made.1 made.2) ∙ length-map-range_with_len (λ a. below (length i.packages) (in_environment i a)) 0 (length es) in
    let same : length c.deref-4.result.now ≡ length by = ap length c.deref-4.ensures.value in
    subst (λ (l : List ℕ). All (λ k. k < length c.deref-4.result.now) l) (sym c.deref-5.ensures.value)
    (λ k d lt. let less = order_range (λ a b. needs es a b ≡ true) (length es) os c.requires.rows.order k d lt in omega arith)

pub places_in_order-requires-clause-range : goal.places_in_order-requires-clause-range
places_in_order-requires-clause-range c =
    let es = c.args.entries.now in
    let os = c.args.rows.now.order.items in
    let count = c.requires.rows.order.0 in
    subst (λ (l : List ℕ). All (λ k. k < length l) l) (sym c.deref-2.ensures.value)
    (λ k d lt. let less = order_range (λ a b. needs es a b ≡ true) (length es) os c.requires.rows.order k d lt in omega arith)

pub places_in_order-requires-clause-once : goal.places_in_order-requires-clause-once
places_in_order-requires-clause-once c =
    let es = c.args.entries.now in
    let os = c.args.rows.now.order.items in
    subst (λ (l : List ℕ). (j k : ℕ) → j < length l → k < length l → get_or l j 0 ≡ get_or l k 0 → j ≡ k) (sym c.deref-2.ensures.value)
    (order_once (λ a b. needs es a b ≡ true) (length es) os c.requires.rows.order)

pub all_needs-requires-clause-places : goal.all_needs-requires-clause-places
all_needs-requires-clause-places c =
    let es = c.args.entries.now in
    let os = c.args.rows.now.order.items in
    let places = c.in_ok-places.places.items in
    subst (λ (l : List ℕ). ArePlaces l os) (sym c.deref-3.ensures.value)
    (are_places (λ a b. needs es a b ≡ true) (length es) os places c.requires.rows.order (c.in_ok-places.ensures.len ∙ ap length c.deref-2.ensures.value)
    (subst (λ (l : List ℕ). All (λ k. k < length l) places) c.deref-2.ensures.value c.in_ok-places.ensures.range)
    (subst (λ (l : List ℕ). (k : ℕ) → k < length l → get_or places (get_or l k 0) 0 ≡ k) c.deref-2.ensures.value c.in_ok-places.ensures.places))

pub all_errors-requires-clause-range : goal.all_errors-requires-clause-range
all_errors-requires-clause-range c = order_range (λ a b. needs c.args.entries.now a b ≡ true) (length c.args.entries.now) c.args.rows.now.order.items c.requires.rows.order

pub returns : goal.returns
returns c =
    let es = c.args.entries.now in
    let os = c.args.rows.now.order.items in
    let by : List (List ℕ) = c.in_ok-by_number.by_number.items in
    let places = c.in_ok-places.places.items in
    let picks = c.in_ok-reached.ensures ∙ ap (λ (l : List (List ℕ)). map (λ k. get_or l k []) c.deref-5.result.now) c.deref-4.ensures.value ∙ ap (map (λ k. get_or by k [])) c.deref-5.ensures.value in
    record {
      order = c.in_ok-order.ensures ∙ ap (nodes_at es) c.deref.ensures.value;
      needs_count = c.in_ok-needs.ensures.len;
      needs = c.in_ok-needs.ensures.needs;
      errors = c.in_ok-errors.ensures;
      reached_count = ap length picks ∙ length-map os (λ k. get_or by k []);
      reached = λ i e t.
          let f : ℕ → List ℕ = λ a. below (length i.packages) (in_environment i a) in
          picks ∙ ap (λ (l : List (List ℕ)). map (λ k. get_or l k []) os) (c.in_ok-by_number.ensures i e t)
          ∙ picked_are f (length es) os (order_range (λ a b. needs es a b ≡ true) (length es) os c.requires.rows.order);
      place_count = c.in_ok-places.ensures.len ∙ ap length c.deref-2.ensures.value;
      place_range = subst (λ (l : List ℕ). All (λ k. k < length l) places) c.deref-2.ensures.value c.in_ok-places.ensures.range;
      places = subst (λ (l : List ℕ). (k : ℕ) → k < length l → get_or places (get_or l k 0) 0 ≡ k) c.deref-2.ensures.value c.in_ok-places.ensures.places;
    }
