-- The nodes of a standing tree's graph stand in the tree's order.
use Rattle.std.proofs.Common.{◌≡◌, ◌↔◌, ℕ, ◌<◌, true, false, List, [], ◌∷◌, ◌++◌, length, map, refl, ap, sym, ◌∙◌, subst, Some, None}
use Rattle.std.specs.Prelude.{slice_get}
use Rattle.std.specs.declared.option.Option.{Option}
use Rattle.std.specs.Option.{option_map, option_map_or}
use Rattle.std.specs.List.{flat_map}
use Rattle.std.proofs.lemmas.List.{map-append}
use Rattle.std.proofs.lemmas.Option.{slice_get-map}
use Rattle.mk_base.specs.declared.name.Node.{Node}
use Rattle.numbered_nodes.specs.Order.{IsOrder}
use Rattle.mod_graph.specs.declared.entries.Entry.{Entry}
use Rattle.mod_graph.specs.Edges.{needs, needs_node}
use Rattle.mod_graph.specs.Graph.{entries, nodes_at, one_node, IsNodeOrder}
use Rattle.mod_graph.proofs.Numbering.{element_at}
use Rattle.mod_graph.proofs.NodeOrders.{needs_numbered}
use Rattle.build_plan.specs.Tree.{SourceTree, planning, input_of, nodes_of, ordered}
use Rattle.build_plan.specs.Plan.{AreRising}
use Rattle.build_plan.proofs.Alike.{order_alike}
use Rattle.build_plan.proofs.Entries.{entry_nodes, entry_count, source_number}
use Rattle.build_plan.proofs.Numbers.{need_at, one, order_by_numbers}
use Rattle.build_plan.proofs.Order.{planning_ordered, planning_exact}

abbrev Sources : Type 0
Sources = List (Node × List ℕ)

same_one : (o : Option Entry) (p : Option (Node × List ℕ)) → option_map (λ (e : Entry). e.node) o ≡ option_map (λ (q : Node × List ℕ). q.0) p → one_node o ≡ nodes_of (one planning p)
same_one None None e = refl
same_one None (Some q) e = absurd (let h : ⊥ = cc in h)
same_one (Some x) None e = absurd (let h : ⊥ = cc in h)
same_one (Some x) (Some q) e = let h : x.node ≡ q.0 = cc in ap (λ n. n ∷ []) h

module _ (es : List Entry) (qs : Sources) (same : map (λ (e : Entry). e.node) es ≡ nodes_of qs) where
  same_at : (k : ℕ) → option_map (λ (e : Entry). e.node) (slice_get es k) ≡ option_map (λ (q : Node × List ℕ). q.0) (slice_get qs k)
  same_at k = sym (slice_get-map (λ (e : Entry). e.node) es k) ∙ ap (λ (ns : List Node). slice_get ns k) same ∙ slice_get-map (λ (q : Node × List ℕ). q.0) qs k

  same_nodes : (os : List ℕ) → nodes_at es os ≡ nodes_of (flat_map (λ k. one planning (slice_get qs k)) os)
  same_nodes [] = refl
  same_nodes (k ∷ os) =
      ap (λ (ns : List Node). ns ++ nodes_at es os) (same_one (slice_get es k) (slice_get qs k) (same_at k))
      ∙ ap (λ (ns : List Node). nodes_of (one planning (slice_get qs k)) ++ ns) (same_nodes os)
      ∙ sym (map-append (λ (q : Node × List ℕ). q.0) (one planning (slice_get qs k)) (flat_map (λ k. one planning (slice_get qs k)) os))

module _ (t : SourceTree) (rising : AreRising t.sources) where
  same_need : (a b : ℕ) → a < length t.sources → b < length t.sources → need_at planning t a b ≡ needs (entries (input_of t)) a b
  same_need a b la lb =
      let p = element_at t.sources a la in
      let q = element_at t.sources b lb in
      ap (λ (o : Option (Node × List ℕ)). option_map_or (λ (m : Node × List ℕ). option_map_or (λ (n : Node × List ℕ). needs_node (entries (input_of t)) m.0 n.0) (slice_get t.sources b) false) o false) p.1
      ∙ ap (λ (o : Option (Node × List ℕ)). option_map_or (λ (n : Node × List ℕ). needs_node (entries (input_of t)) p.0.0 n.0) o false) q.1
      ∙ needs_numbered (entries (input_of t)) p.0.0 q.0.0 a b (source_number t rising a p.0 p.1) (source_number t rising b q.0 q.1)

  same_needs : (a b : ℕ) → a < length t.sources → b < length t.sources → (needs (entries (input_of t)) a b ≡ true) ↔ (need_at planning t a b ≡ true)
  same_needs a b la lb = ((λ h. same_need a b la lb ∙ h), (λ h. sym (same_need a b la lb) ∙ h))

  -- the order of the graph is the tree's
  pub graph_order : (ns : List Node) → IsNodeOrder (entries (input_of t)) ns → ns ≡ nodes_of (ordered t)
  unfolding ordered
  graph_order ns h =
      let es = entries (input_of t) in
      let os = h.0 in
      let numbered : IsOrder (λ a b. needs es a b ≡ true) (length t.sources) os = subst (λ n. IsOrder (λ a b. needs es a b ≡ true) n os) (entry_count t rising) h.1 in
      let joined = order_alike (λ a b. needs es a b ≡ true) (λ a b. need_at planning t a b ≡ true) (length t.sources) same_needs os numbered in
      h.2 ∙ same_nodes es t.sources (entry_nodes t rising) os ∙ sym (ap nodes_of (order_by_numbers planning planning_ordered planning_exact t rising os joined))
