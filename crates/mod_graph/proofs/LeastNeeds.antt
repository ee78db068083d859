-- What a node needs is the least set with all that it reaches and, with each node of another loop, that whole loop and
-- what it reaches.
use Rattle.std.proofs.Common.{◌≡◌, ◌↔◌, ℕ, Bool, true, ◌&&◌, not, List, length, Some, nat_lt, ap, sym, ◌∙◌, inl, inr}
use Rattle.std.specs.List.{slice_get, list_any}
use Rattle.std.proofs.lemmas.Bool.{ltb-true, lt-ltb}
use Rattle.std.proofs.lemmas.Option.{same_Some}
use Rattle.hs_syntax.specs.declared.header.ImportItem.{ImportItem}
use Rattle.numbered_nodes.proofs.Booleans.{split_or, or_right}
use Rattle.numbered_nodes.proofs.ReachLaws.{more_edges}
use Rattle.numbered_nodes.specs.Needs.{Needs, Follows}
use Rattle.numbered_nodes.specs.Needs as nodes
use Rattle.numbered_nodes.proofs.Leading.{needs_law}
use Rattle.mod_graph.specs.declared.entries.Entry.{Entry}
use Rattle.mod_graph.specs.Names.{node_named}
use Rattle.numbered_nodes.specs.Chains.{any_below}
use Rattle.mod_graph.specs.Edges.{is_at, target, module_number, module_of, leads, in_loop, calls, needs, Leads, Joins, SameLoop, NeedsAreLeast}
use Rattle.numbered_nodes.proofs.Chains.{and_both, both_and, or_left, over_is_reach}
use Rattle.mod_graph.proofs.NodeTests.{same_modules}
use Rattle.numbered_nodes.proofs.Below.{any_below_with, any_below_from, is_at_own}
use Rattle.mod_graph.proofs.Numbering.{any_from, number_found, module_numbered}
use Rattle.mod_graph.proofs.StepsBelow.{lead_from, leads_below, calls_below}
use Rattle.mod_graph.proofs.LoopClasses.{to_class, of_class, decided, outside, of_outside}

module _ (es : List Entry) where
  -- nodes of one module have one number
  same_module : (a b : ℕ) (e f : Entry) → slice_get es a ≡ Some e → slice_get es b ≡ Some f → e.node.module.text ≡ f.node.module.text → module_of es a ≡ module_of es b
  same_module a b e f p q same =
      same_Some (module_of es a) (module_of es b) (sym (module_numbered es a e p) ∙ ap (module_number es) same ∙ module_numbered es b f q)

  joined : (a b k : ℕ) (e f : Entry) (y : ImportItem) → slice_get es a ≡ Some e → slice_get es b ≡ Some f → slice_get e.imports k ≡ Some y → y.module.text ≡ f.node.module.text → Joins es (module_of es a) (module_of es b)
  joined a b k e f y p q i same =
      let by : Entry → Bool = λ d. list_any (λ (x : ImportItem). is_at (module_number es x.module.text) (module_of es b)) d.imports in
      any_from (λ (d : Entry). is_at (module_number es d.node.module.text) (module_of es a) && by d) es a e p
      (both_and (is_at (module_number es e.node.module.text) (module_of es a)) (by e)
      (is_at_own (module_number es e.node.module.text) (module_of es a) (module_numbered es a e p))
      (any_from (λ (x : ImportItem). is_at (module_number es x.module.text) (module_of es b)) e.imports k y i
      (is_at_own (module_number es y.module.text) (module_of es b) (ap (module_number es) same ∙ module_numbered es b f q))))

  -- an edge of nodes stays in a module or is an edge of modules
  pub follows : Follows (Leads es) (Joins es) (module_of es) (length es)
  follows a b h =
      let s = lead_from es a b h in (
        (leads_below es a b h).0,
        elim s.2 [
          | inl p ↦ let f = number_found es (node_named s.0.node.module.text true) b p in inl (same_module a b s.0 f.0 s.1 f.1 (same_modules (node_named s.0.node.module.text true) f.0.node f.2))
          | inr i ↦ let f = number_found es (target i.1) b i.3 in inr (joined a b i.0 s.0 f.0 i.1 s.1 f.1 i.2 (same_modules (target i.1) f.0.node f.2))
        ],
      )

  to_lead : (a b : ℕ) → calls es a b ≡ true → nodes.Leads (Leads es) (SameLoop es) (length es) a b
  to_lead a b h =
      let by : ℕ → Bool = λ z. leads es a z && (not (in_loop es a z) && in_loop es z b) in
      elim (split_or (leads es a b) (nat_lt b (length es) && any_below (length es) by) h) [
        | inl p ↦ inl p
        | inr p ↦
            let both = and_both (nat_lt b (length es)) (any_below (length es) by) p in
            let z = any_below_with (length es) by both.1 in
            let first = and_both (leads es a z.0) (not (in_loop es a z.0) && in_loop es z.0 b) z.2 in
            let rest = and_both (not (in_loop es a z.0)) (in_loop es z.0 b) first.1 in
            inr (z.0, first.0, outside es a z.0 rest.0, to_class es z.0 b rest.1, ltb-true b (length es) both.0)
      ]

  of_lead : (a b : ℕ) → nodes.Leads (Leads es) (SameLoop es) (length es) a b → calls es a b ≡ true
  of_lead a b h =
      let by : ℕ → Bool = λ z. leads es a z && (not (in_loop es a z) && in_loop es z b) in
      elim h [
        | inl p ↦ or_left (leads es a b) (nat_lt b (length es) && any_below (length es) by) p
        | inr p ↦ or_right (leads es a b) (nat_lt b (length es) && any_below (length es) by)
            (both_and (nat_lt b (length es)) (any_below (length es) by) (lt-ltb b (length es) p.4)
            (any_below_from (length es) by p.0 (leads_below es a p.0 p.1).1
            (both_and (leads es a p.0) (not (in_loop es a p.0) && in_loop es p.0 b) p.1
            (both_and (not (in_loop es a p.0)) (in_loop es p.0 b) (of_outside es a p.0 p.2) (of_class es p.0 b p.3)))))
      ]

  pub needs_are : (a b : ℕ) → (needs es a b ≡ true) ↔ Needs (Leads es) (SameLoop es) (length es) a b
  needs_are a b =
      let reach = over_is_reach (calls es) (length es) (calls_below es) a b in
      let law = needs_law (Leads es) (Joins es) (module_of es) (length es) follows (decided es) a b in (
        (λ p. law.1 (more_edges to_lead (reach.0 p))),
        (λ p. reach.1 (more_edges of_lead (law.0 p))),
      )

  pub needs_are_least : NeedsAreLeast es
  needs_are_least a b la lb = needs_are a b
