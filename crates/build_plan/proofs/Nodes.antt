-- The source of the node at a place in the order.
use Rattle.std.proofs.Common.{◌≡◌, ℕ, ◌<◌, true, List, length, map, ap, sym, ◌∙◌, subst, Some, None, arith}
use Rattle.std.specs.Prelude.{slice_get}
use Rattle.std.specs.declared.option.Option.{Option}
use Rattle.std.specs.Option.{option_map}
use Rattle.std.specs.List.{list_any}
use Rattle.std.proofs.lemmas.Option.{same_Some, slice_get-map, slice_get_within}
use Rattle.mk_base.specs.declared.name.Node.{Node}
use Rattle.build_theory.proofs.Lists.{clash}
use Rattle.mod_graph.specs.declared.graph.Graph.{Graph}
use Rattle.mod_graph.specs.declared.input.HeaderOf.{HeaderOf}
use Rattle.mod_graph.specs.Names.{same_node}
use Rattle.build_plan.specs.declared.places.NodePlaces.{NodePlaces}
use Rattle.build_plan.specs.declared.sources.Source.{Source}
use Rattle.build_plan.specs.Plan.{IsPlanned}
use Rattle.build_plan.specs.Positions.{ArePlaces, IsPlace, pairs, place_in}
use Rattle.build_plan.specs.Tree.{SourceTree, header_at, header_for, ordered}
use Rattle.build_plan.proofs.Ordering.{source_from, in_sources, is_source}
use Rattle.build_plan.proofs.Spots.{in_at, one_source, rising_apart}
use Rattle.build_plan.proofs.Standing.{pairs_at, pairs_length}

place_there : (qs : List (Node × List ℕ)) (n : Node) (o : Option ℕ) → IsPlace qs n o → list_any (λ (q : Node × List ℕ). same_node n q.0) qs ≡ true → o ≡ None → ⊥
place_there qs n None p e f = clash (list_any (λ (q : Node × List ℕ). same_node n q.0) qs) e p
place_there qs n (Some i) p e f = let h : ⊥ = cc in h

abbrev pub paired : List ℕ → Node → Node × List ℕ
paired s n = (n, s)

module _ (t : SourceTree) (g : Graph) (plan : IsPlanned t g) (places : NodePlaces) (sources : List Source) (right : ArePlaces places (pairs sources)) (are : pairs sources ≡ t.sources)
    (n : ℕ) (node : Node) (here : slice_get g.order n ≡ Some node) where
  abbrev place : Option ℕ
  place = place_in places node.boot node.module.text

  own : (q : Node × List ℕ) × (slice_get (ordered t) n ≡ Some q) × (q.0 ≡ node)
  own = source_from (ordered t) n node (ap (λ (ns : List Node). slice_get ns n) (sym plan.order) ∙ here)

  is_place : IsPlace t.sources node place
  is_place = subst (λ (qs : List (Node × List ℕ)). IsPlace qs node place) are (right node.boot node.module.text)

  -- a node of the graph has its place
  pub never_lost : place ≡ None → ⊥
  never_lost e =
      place_there t.sources node place is_place (subst (λ (m : Node). list_any (λ (q : Node × List ℕ). same_node m q.0) t.sources ≡ true) own.2 (is_source t own.0 (in_at (ordered t) n own.0 own.1))) e

  module _ (at : ℕ) (found : place ≡ Some at) where
    stands : (s : List ℕ) × (slice_get t.sources at ≡ Some (node, s))
    stands = subst (IsPlace t.sources node) found is_place

    pub source_below : at < length sources
    source_below =
        let lt = slice_get_within t.sources at (node, stands.0) stands.1 in
        let count : length sources ≡ length t.sources = sym (pairs_length sources) ∙ ap length are in
        omega arith

    module _ (s : Source) (e : slice_get sources at ≡ Some s) where
      there : slice_get t.sources at ≡ Some (s.node, s.bytes.now)
      there = ap (λ (qs : List (Node × List ℕ)). slice_get qs at) (sym are) ∙ pairs_at sources at s e

      alike : paired stands.0 node ≡ paired s.bytes.now s.node
      alike = same_Some (node, stands.0) (s.node, s.bytes.now) (sym stands.1 ∙ there)

      -- which has the source of the order
      pub source_here : slice_get (ordered t) n ≡ Some (node, s.bytes.now)
      source_here =
          let q : Node × List ℕ = (s.node, s.bytes.now) in
          let same : own.0 ≡ q =
          one_source t.sources (rising_apart t.sources plan.standing.rising) own.0 q (in_sources t own.0 (in_at (ordered t) n own.0 own.1)) (in_at t.sources at q there) (own.2 ∙ ap (λ (z : Node × List ℕ). z.0) alike) in
          own.1 ∙ ap (λ (z : Node × List ℕ). Some z) (same ∙ ap (paired s.bytes.now) (sym (ap (λ (z : Node × List ℕ). z.0) alike)))

      -- and its header
      pub header_here : (hs : List HeaderOf) → hs ≡ map header_for t.sources → option_map (λ (h : HeaderOf). h.header) (slice_get hs at) ≡ Some (header_at node s.bytes.now)
      header_here hs f =
          ap (λ (l : List HeaderOf). option_map (λ (h : HeaderOf). h.header) (slice_get l at)) f
          ∙ ap (option_map (λ (h : HeaderOf). h.header)) (slice_get-map header_for t.sources at ∙ ap (option_map header_for) there)
          ∙ ap (λ (m : Node). Some (header_at m s.bytes.now)) (sym (ap (λ (z : Node × List ℕ). z.0) alike))
