-- Loops are the classes of modules that reach each other.
use Rattle.std.proofs.Common.{◌≡◌, ◌⊎◌, ℕ, Bool, true, ◌&&◌, not, List, length, nat_eq, ap, sym, ◌∙◌, inl, inr}
use Rattle.numbered_nodes.proofs.Booleans.{both_ways, split_or, or_right, is_same, from_test}
use Rattle.mod_graph.specs.declared.entries.Entry.{Entry}
use Rattle.numbered_nodes.specs.Chains.{over}
use Rattle.mod_graph.specs.Edges.{module_of, joins, in_loop, SameLoop, LoopsAreClasses}
use Rattle.numbered_nodes.proofs.Chains.{and_both, both_and, or_left, over_is_reach}
use Rattle.mod_graph.proofs.NodeTests.{differ}
use Rattle.mod_graph.proofs.StepsBelow.{joins_below}

module _ (es : List Entry) where
  pub to_class : (a b : ℕ) → in_loop es a b ≡ true → SameLoop es a b
  to_class a b h =
      let there : Bool = over (joins es) (length es) (module_of es a) (module_of es b) in
      let back : Bool = over (joins es) (length es) (module_of es b) (module_of es a) in
      elim (split_or (nat_eq (module_of es a) (module_of es b)) (there && back) h) [
        | inl p ↦ inl (from_test (module_of es a) (module_of es b) p)
        | inr p ↦
            let both = and_both there back p in
            inr ((over_is_reach (joins es) (length es) (joins_below es) (module_of es a) (module_of es b)).0 both.0, (over_is_reach (joins es) (length es) (joins_below es) (module_of es b) (module_of es a)).0 both.1)
      ]

  pub of_class : (a b : ℕ) → SameLoop es a b → in_loop es a b ≡ true
  of_class a b h =
      let there : Bool = over (joins es) (length es) (module_of es a) (module_of es b) in
      let back : Bool = over (joins es) (length es) (module_of es b) (module_of es a) in
      elim h [
        | inl e ↦ or_left (nat_eq (module_of es a) (module_of es b)) (there && back) (is_same (module_of es a) (module_of es b) e)
        | inr p ↦ or_right (nat_eq (module_of es a) (module_of es b)) (there && back)
            (both_and there back ((over_is_reach (joins es) (length es) (joins_below es) (module_of es a) (module_of es b)).1 p.0) ((over_is_reach (joins es) (length es) (joins_below es) (module_of es b) (module_of es a)).1 p.1))
      ]

  pub loops_are_classes : LoopsAreClasses es
  loops_are_classes a b = (to_class a b, of_class a b)

  pub decided : (a b : ℕ) → SameLoop es a b ⊎ (SameLoop es a b → ⊥)
  decided a b = both_ways (in_loop es a b)
      (λ p. inl (to_class a b p))
      (λ p. inr (λ s. differ (sym (of_class a b s) ∙ p)))

  pub outside : (a b : ℕ) → not (in_loop es a b) ≡ true → SameLoop es a b → ⊥
  outside a b h s = differ (sym h ∙ ap not (of_class a b s))

  pub of_outside : (a b : ℕ) → (SameLoop es a b → ⊥) → not (in_loop es a b) ≡ true
  of_outside a b out = both_ways (in_loop es a b)
      (λ p. absurd (out (to_class a b p)))
      (λ p. ap not p)
