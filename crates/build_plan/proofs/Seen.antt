-- Where a node stands that is seen from a place in the order.
use Rattle.std.proofs.Common.{◌≡◌, ℕ, ◌<◌, List, length, refl, ap, sym, ◌∙◌, subst, cond, Some, None, arith}
use Rattle.std.specs.Prelude.{slice_get, nat_lt}
use Rattle.std.specs.declared.option.Option.{Option}
use Rattle.std.proofs.lemmas.List.{length-map}
use Rattle.mk_base.specs.declared.name.Node.{Node}
use Rattle.mk_base.specs.declared.place.NodeId.{NodeId}
use Rattle.mod_graph.specs.declared.graph.Graph.{Graph}
use Rattle.mod_graph.specs.declared.input.ViewOf.{ViewOf}
use Rattle.mod_graph.specs.declared.input.ViewOf.TheVariants as view
use Rattle.mod_graph.specs.Names.{same_node}
use Rattle.mod_graph.specs.Graph.{Input, View, Tree, Package, Prim, IsView, view_of}
use Rattle.mod_graph.specs.Kept.{IsGraph}
use Rattle.mod_graph.proofs.NodeTests.{node_itself, nodes_tell}
use Rattle.mod_graph.proofs.Numbering.{element_at, finds, found_at}
use Rattle.build_plan.specs.Tree.{SourceTree, input_of, nodes_of, ordered}
use Rattle.build_plan.specs.Plan.{IsPlanned}
use Rattle.build_plan.specs.Positions.{before_place, node_place, seen_place, view_by}
use Rattle.build_plan.proofs.Ordering.{source_from}
use Rattle.build_plan.proofs.Ordering.{ordered_apart}
use Rattle.build_plan.proofs.Spots.{one_spot}
use Rattle.build_plan.proofs.Ordering.{ordered_count}

-- the graph has few nodes
pub planned_few : (t : SourceTree) (g : Graph) → IsPlanned t g → length g.order < 4294967296
planned_few t g p =
    let e : length g.order ≡ length t.sources = ap length p.order ∙ length-map (ordered t) (λ (q : Node × List ℕ). q.0) ∙ ordered_count t in
    omega (arith, p.standing.few)

module _ (t : SourceTree) (g : Graph) (plan : IsPlanned t g) where
  -- a node stands at one place
  node_spot : (n : Node) (i k : ℕ) → slice_get g.order i ≡ Some n → slice_get g.order k ≡ Some n → i ≡ k
  node_spot n i k e f =
      let at : (j : ℕ) → slice_get g.order j ≡ Some n → slice_get (nodes_of (ordered t)) j ≡ Some n = λ j h. ap (λ (ns : List Node). slice_get ns j) (sym plan.order) ∙ h in
      let p = source_from (ordered t) i n (at i e) in
      let q = source_from (ordered t) k n (at k f) in
      one_spot (ordered t) (ordered_apart t plan.standing) i k p.0 q.0 p.1 q.1 (p.2 ∙ sym q.2)

  node_placed : (n : Node) (k : ℕ) → slice_get g.order k ≡ Some n → node_place g.order (Some (Tree n)) ≡ Some k
  node_placed n k e =
      let s = finds (same_node n) g.order k n e (node_itself n) in
      let f = found_at (same_node n) g.order s.0 s.1 in
      let at : slice_get g.order s.0 ≡ Some n = f.1 ∙ ap (λ x. Some x) (sym (nodes_tell n f.0 f.2)) in
      s.1 ∙ ap (λ x. Some x) (node_spot n s.0 k at e)

  view_placed : (id : NodeId) (v : Option View) → IsView g.order (Some (view.Tree id)) v → node_place g.order v ≡ Some id.0
  view_placed id None h = absurd h
  view_placed id (Some (Tree n)) h = node_placed n id.0 h
  view_placed id (Some (Package k)) h = absurd h
  view_placed id (Some Prim) h = absurd h

  module _ (place : ℕ) (lt : place < length g.order) (m : List ℕ) (r : Option ViewOf)
      (told : (i : Input) (q : Node) → IsGraph i g → slice_get g.order place ≡ Some q → IsView g.order r (view_of i q m)) where
    here : (q : Node) × (slice_get g.order place ≡ Some q)
    here = element_at g.order place lt

    seen_is : seen_place (input_of t) g.order place m ≡ before_place place (node_place g.order (view_of (input_of t) here.0 m))
    seen_is = ap (λ (o : Option Node). before_place place (node_place g.order (view_by (input_of t) o m))) here.1

    -- where a node is seen
    pub tree_place : (id : NodeId) → r ≡ Some (view.Tree id) → (p : Option ℕ) → p ≡ cond (nat_lt id.0 place) (Some id.0) None → p ≡ seen_place (input_of t) g.order place m
    tree_place id e p h =
        let v = view_placed id (view_of (input_of t) here.0 m) (subst (λ (x : Option ViewOf). IsView g.order x (view_of (input_of t) here.0 m)) e (told (input_of t) here.0 plan.graph here.1)) in
        h ∙ sym (seen_is ∙ ap (before_place place) v)

    none_seen : (v : Option View) → IsView g.order None v → node_place g.order v ≡ None
    none_seen None h = refl
    none_seen (Some (Tree n)) h = absurd h
    none_seen (Some (Package k)) h = absurd h
    none_seen (Some Prim) h = absurd h

    package_seen : (j : ℕ) (v : Option View) → IsView g.order (Some (view.Package j)) v → node_place g.order v ≡ None
    package_seen j None h = absurd h
    package_seen j (Some (Tree n)) h = absurd h
    package_seen j (Some (Package k)) h = refl
    package_seen j (Some Prim) h = absurd h

    prim_seen : (v : Option View) → IsView g.order (Some view.Prim) v → node_place g.order v ≡ None
    prim_seen None h = absurd h
    prim_seen (Some (Tree n)) h = absurd h
    prim_seen (Some (Package k)) h = absurd h
    prim_seen (Some Prim) h = refl

    not_placed : (x : Option ViewOf) → r ≡ x → ((v : Option View) → IsView g.order x v → node_place g.order v ≡ None) → None ≡ seen_place (input_of t) g.order place m
    not_placed x e no_place =
        sym (seen_is ∙ ap (before_place place) (no_place (view_of (input_of t) here.0 m) (subst (λ (y : Option ViewOf). IsView g.order y (view_of (input_of t) here.0 m)) e (told (input_of t) here.0 plan.graph here.1))))

    -- where none is
    pub no_place : r ≡ None → None ≡ seen_place (input_of t) g.order place m
    no_place e = not_placed None e none_seen

    pub package_place : (j : ℕ) → r ≡ Some (view.Package j) → None ≡ seen_place (input_of t) g.order place m
    package_place j e = not_placed (Some (view.Package j)) e (package_seen j)

    pub prim_place : r ≡ Some view.Prim → None ≡ seen_place (input_of t) g.order place m
    prim_place e = not_placed (Some view.Prim) e prim_seen
