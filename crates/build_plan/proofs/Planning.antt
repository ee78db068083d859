-- The nodes of a plan.
use Rattle.std.proofs.Common.{◌≡◌, ℕ, zero, suc, ◌+◌, ◌<◌, ◌≤◌, List, [], ◌∷◌, ◌++◌, length, take, refl, ap, sym, ◌∙◌, subst, Some, None, Bool, add-one}
use Rattle.std.specs.Prelude.{slice_get}
use Rattle.std.specs.declared.option.Option.{Option}
use Rattle.std.specs.Option.{option_map}
use Rattle.std.specs.List.{AllByRecursion}
use Rattle.std.proofs.lemmas.List.{map-append, length-map, take_all}
use Rattle.std.proofs.lemmas.Option.{same_Some, slice_get-map, slice_get_within}
use Rattle.mk_base.specs.declared.name.Node.{Node}
use Rattle.mk_base.specs.declared.diag.Diag.{Diag}
use Rattle.hs_syntax.specs.declared.header.Header.{Header}
use Rattle.hs_syntax.specs.declared.header.ImportItem.{ImportItem}
use Rattle.std.specs.Prelude.{Result}
use Rattle.build_theory.proofs.Lists.{all_at}
use Rattle.mod_graph.specs.declared.input.HeaderOf.{HeaderOf}
use Rattle.mod_graph.specs.Entries.{imports_in}
use Rattle.build_plan.specs.declared.plan.Plan.{Plan}
use Rattle.build_plan.specs.declared.plan.PlannedNode.{PlannedNode}
use Rattle.build_plan.specs.Plan.{AreNodes, HasHeader, IsPlan, planned}
use Rattle.build_plan.specs.Tree.{SourceTree, header_at, imports_of, ordered}
use Rattle.build_plan.proofs.Alls.{all_last}
use Rattle.build_plan.proofs.Spots.{in_at}

take_next : {X : Type 0} (xs : List X) (n : ℕ) (x : X) → slice_get xs n ≡ Some x → take (suc n) xs ≡ take n xs ++ x ∷ []
take_next [] n x e = absurd (let h : ⊥ = cc in h)
take_next (y ∷ ys) zero x e = ap (λ z. z ∷ []) (same_Some y x e)
take_next (y ∷ ys) (suc n) x e = ap (λ l. y ∷ l) (take_next ys n x e)

-- the first nodes, so many of them
pub record AreFirst (t : SourceTree) (hs : List HeaderOf) (ns : List PlannedNode) (n : ℕ) : Type 0 where
  pub sources : planned ns ≡ take n (ordered t)
  pub headers : AllByRecursion (HasHeader hs) ns

pub none_first : (t : SourceTree) (hs : List HeaderOf) (ns : List PlannedNode) → ns ≡ [] → AreFirst t hs ns 0
none_first t hs ns e = record { sources = ap planned e; headers = subst (AllByRecursion (HasHeader hs)) (sym e) tt }

pub next_first : (t : SourceTree) (hs : List HeaderOf) (ns : List PlannedNode) (n : ℕ) (node : PlannedNode) → AreFirst t hs ns n → slice_get (ordered t) n ≡ Some (node.node, node.bytes.now) → HasHeader hs node
    → AreFirst t hs (ns ++ node ∷ []) (n + 1)
next_first t hs ns n node first e h = record {
  sources = map-append (λ (m : PlannedNode). (m.node, m.bytes.now)) ns (node ∷ []) ∙ ap (λ (qs : List (Node × List ℕ)). qs ++ (node.node, node.bytes.now) ∷ []) first.sources
      ∙ sym (take_next (ordered t) n (node.node, node.bytes.now) e) ∙ ap (λ k. take k (ordered t)) (sym (add-one n));
  headers = all_last (HasHeader hs) ns node first.headers h;
}

pub all_first : (t : SourceTree) (hs : List HeaderOf) (ns : List PlannedNode) (n : ℕ) → length (ordered t) ≤ n → AreFirst t hs ns n → AreNodes t hs ns
all_first t hs ns n le first = record { sources = first.sources ∙ take_all n (ordered t) le; headers = first.headers }

-- as many nodes as the graph has
pub plan_count : (t : SourceTree) (p : Plan) → IsPlan t p → length p.nodes.items ≡ length p.graph.order
plan_count t p plan =
    sym (length-map p.nodes.items (λ (m : PlannedNode). (m.node, m.bytes.now))) ∙ ap length plan.nodes.sources
    ∙ sym (length-map (ordered t) (λ (q : Node × List ℕ). q.0)) ∙ sym (ap length plan.graph.order)

-- the node at a place is the order's
pub node_is : (t : SourceTree) (p : Plan) (n : ℕ) (m : PlannedNode) → IsPlan t p → slice_get p.nodes.items n ≡ Some m → slice_get (ordered t) n ≡ Some (m.node, m.bytes.now)
node_is t p n m plan e =
    ap (λ (qs : List (Node × List ℕ)). slice_get qs n) (sym plan.nodes.sources) ∙ slice_get-map (λ (m : PlannedNode). (m.node, m.bytes.now)) p.nodes.items n
    ∙ ap (option_map (λ (m : PlannedNode). (m.node, m.bytes.now))) e

header_found : (hs : List HeaderOf) (o : Option HeaderOf) (r : Result Header Diag) (k : ℕ) → slice_get hs k ≡ o → option_map (λ (h : HeaderOf). h.header) o ≡ Some r → k < length hs
header_found hs None r k e f = absurd (let h : ⊥ = cc in h)
header_found hs (Some h) r k e f = slice_get_within hs k h e

module _ (t : SourceTree) (p : Plan) (plan : IsPlan t p) (n : ℕ) (m : PlannedNode) (here : slice_get p.nodes.items n ≡ Some m) where
  has : HasHeader p.headers m
  has = all_at (HasHeader p.headers) p.nodes.items m (in_at p.nodes.items n m here) plan.nodes.headers

  -- its header is there
  pub header_within : m.header < length p.headers
  header_within = header_found p.headers (slice_get p.headers m.header) (header_at m.node m.bytes.now) m.header refl has

  -- and has its source's imports
  pub imports_are : (h : HeaderOf) (q : Node × List ℕ) (is : List ImportItem) → slice_get p.headers m.header ≡ Some h → slice_get (ordered t) n ≡ Some q → is ≡ imports_in p.prelude h.header → is ≡ imports_of t.settings q.0 q.1
  imports_are h q is e f g =
      let own : h.header ≡ header_at m.node m.bytes.now = same_Some h.header (header_at m.node m.bytes.now) (sym (ap (option_map (λ (h : HeaderOf). h.header)) e) ∙ has) in
      let same : (m.node, m.bytes.now) ≡ q = same_Some (m.node, m.bytes.now) q (sym (node_is t p n m plan here) ∙ f) in
      g ∙ ap (imports_in p.prelude) own ∙ ap (λ (b : Bool). imports_in b (header_at m.node m.bytes.now)) plan.prelude ∙ ap (λ (x : Node × List ℕ). imports_of t.settings x.0 x.1) same
