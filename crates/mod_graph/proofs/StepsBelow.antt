-- The edges of nodes and of modules, and the steps of needs, lie between nodes of the tree.
use Rattle.std.proofs.Common.{◌≡◌, ◌⊎◌, ℕ, Bool, true, false, ◌&&◌, not, List, length, Some, None, nat_lt, refl, inl, inr}
use Rattle.std.specs.declared.option.Option.{Option}
use Rattle.std.specs.Option.{option_map_or}
use Rattle.std.specs.List.{slice_get, list_any}
use Rattle.std.proofs.lemmas.Bool.{ltb-true}
use Rattle.std.proofs.lemmas.Option.{slice_get_within}
use Rattle.hs_syntax.specs.declared.header.ImportItem.{ImportItem}
use Rattle.numbered_nodes.proofs.Booleans.{split_or}
use Rattle.mod_graph.specs.declared.entries.Entry.{Entry}
use Rattle.mod_graph.specs.Names.{node_named}
use Rattle.numbered_nodes.specs.Chains.{any_below, AreBelow}
use Rattle.mod_graph.specs.Edges.{is_at, target, number_of, module_number, leads_from, leads, joins, in_loop, calls}
use Rattle.numbered_nodes.proofs.Below.{any_below_with, is_at_is}
use Rattle.numbered_nodes.proofs.Chains.{and_both}
use Rattle.mod_graph.proofs.Numbering.{any_with, number_below, module_below}

-- the value of an option of which something is true
some_with : {X : Type 0} (p : X → Bool) (o : Option X) → option_map_or p o false ≡ true → (x : X) × (o ≡ Some x) × (p x ≡ true)
some_with p None e = absurd (let h : ⊥ = cc in h)
some_with p (Some x) e = (x, refl, e)

module _ (es : List Entry) where
  -- where an edge begins, and by what it leads: the node's own boot node, or an import
  pub lead_from : (a b : ℕ) → leads es a b ≡ true → (e : Entry) × (slice_get es a ≡ Some e)
      × ((number_of es (node_named e.node.module.text true) ≡ Some b) ⊎ ((k : ℕ) × (y : ImportItem) × (slice_get e.imports k ≡ Some y) × (number_of es (target y) ≡ Some b)))
  lead_from a b h =
      let s = some_with (λ (e : Entry). leads_from es e b) (slice_get es a) h in
      let e = s.0 in
      let own : Bool = not e.node.boot && is_at (number_of es (node_named e.node.module.text true)) b in
      let by : ImportItem → Bool = λ y. is_at (number_of es (target y)) b in (
        e,
        s.1,
        elim (split_or own (list_any by e.imports) s.2) [
          | inl p ↦ inl (is_at_is (number_of es (node_named e.node.module.text true)) b (and_both (not e.node.boot) (is_at (number_of es (node_named e.node.module.text true)) b) p).1)
          | inr p ↦ let i = any_with by e.imports p in inr (i.0, i.1, i.2, is_at_is (number_of es (target i.1)) b i.3)
        ],
      )

  pub leads_below : AreBelow (leads es) (length es)
  leads_below a b h =
      let s = lead_from a b h in (
        slice_get_within es a s.0 s.1,
        elim s.2 [
          | inl p ↦ number_below es (node_named s.0.node.module.text true) b p
          | inr i ↦ number_below es (target i.1) b i.3
        ],
      )

  -- an edge of modules leads from a number of a module to one
  pub join_from : (x y : ℕ) → joins es x y ≡ true → (e : Entry) × (i : ImportItem) × (module_number es e.node.module.text ≡ Some x) × (module_number es i.module.text ≡ Some y)
  join_from x y h =
      let by : Entry → Bool = λ e. list_any (λ (i : ImportItem). is_at (module_number es i.module.text) y) e.imports in
      let s = any_with (λ (e : Entry). is_at (module_number es e.node.module.text) x && by e) es h in
      let e = s.1 in
      let both = and_both (is_at (module_number es e.node.module.text) x) (by e) s.3 in
      let i = any_with (λ (i : ImportItem). is_at (module_number es i.module.text) y) e.imports both.1 in
      (e, i.1, is_at_is (module_number es e.node.module.text) x both.0, is_at_is (module_number es i.1.module.text) y i.3)

  pub joins_below : AreBelow (joins es) (length es)
  joins_below x y h = let s = join_from x y h in (module_below es s.0.node.module.text x s.2, module_below es s.1.module.text y s.3)

  pub calls_below : AreBelow (calls es) (length es)
  calls_below a b h =
      let through : ℕ → Bool = λ z. leads es a z && (not (in_loop es a z) && in_loop es z b) in
      elim (split_or (leads es a b) (nat_lt b (length es) && any_below (length es) through) h) [
        | inl p ↦ leads_below a b p
        | inr p ↦
            let both = and_both (nat_lt b (length es)) (any_below (length es) through) p in
            let z = any_below_with (length es) through both.1 in
            ((leads_below a z.0 (and_both (leads es a z.0) (not (in_loop es a z.0) && in_loop es z.0 b) z.2).0).0, ltb-true b (length es) both.0)
      ]
