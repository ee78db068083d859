-- What a need of a node needs, the node needs too.
use Rattle.std.proofs.Common.{◌≡◌, ℕ, true, false, List, length, refl, sym, ◌∙◌, subst, Some, None}
use Rattle.std.specs.declared.option.Option.{Option}
use Rattle.std.specs.Option.{option_map_or}
use Rattle.mk_base.specs.declared.name.Node.{Node}
use Rattle.build_theory.proofs.Lists.{differ}
use Rattle.mod_graph.specs.declared.entries.Entry.{Entry}
use Rattle.mod_graph.specs.Edges.{calls, needs, needs_node, number_of}
use Rattle.numbered_nodes.proofs.Chains.{over_chain}
use Rattle.mod_graph.proofs.NodeOrders.{needs_numbered}
use Rattle.mod_graph.proofs.StepsBelow.{calls_below}

module _ (es : List Entry) where
  -- a need is of numbered nodes
  numbers_from : (o p : Option ℕ) → option_map_or (λ (a : ℕ). option_map_or (λ (b : ℕ). needs es a b) p false) o false ≡ true → (x : ℕ) × (y : ℕ) × (o ≡ Some x) × (p ≡ Some y) × (needs es x y ≡ true)
  numbers_from None p e = absurd (differ (sym e))
  numbers_from (Some x) None e = absurd (differ (sym e))
  numbers_from (Some x) (Some y) e = (x, y, refl, refl, e)

  pub chained : (a b c : Node) → needs_node es a b ≡ true → needs_node es b c ≡ true → needs_node es a c ≡ true
  chained a b c p q =
      let f = numbers_from (number_of es a) (number_of es b) p in
      let g = numbers_from (number_of es b) (number_of es c) q in
      let both : Some f.1 ≡ Some g.0 = sym f.3 ∙ g.2 in
      let same : g.0 ≡ f.1 = cc in
      needs_numbered es a c f.0 g.1 f.2 g.3 ∙ over_chain (calls es) (length es) f.0 f.1 g.1 (calls_below es) f.4 (subst (λ y. needs es y g.1 ≡ true) same g.4)
