use Rattle.std.proofs.Common.{sym, ap, ◌∙◌}
use Rattle.hs_syntax.specs.declared.pattern_tree.ApatTree.TheViews.{out-PatTree}
use Rattle.tree_same.proofs.Parts.{same_pat_tree}
use Rattle.tree_same.proofs.patterns.+patterns.Goals as goal

pub same_pattern-returns-then-same_pat_links : goal.same_pattern-returns-then-same_pat_links
same_pattern-returns-then-same_pat_links t c = (
  (λ e. same_pat_tree c.args.a.now c.args.b.now (c.same.ensures.0 c.if-same.true)
      (sym c.as_slice.ensures ∙ (c.same_pat_links.ensures.0 c.if-same_pat_links.true ∙ c.as_slice-then-same.ensures))
      (c.same_pat_operand.ensures.0 e)),
  (λ e. c.same_pat_operand.ensures.1 (ap (λ x. (out-PatTree x).last) e)),
)
