use Rattle.std.proofs.Common.{ap}
use Rattle.hs_syntax.specs.declared.type_tree.AtypeTree.TheViews.{out-TypeTree}
use Rattle.tree_same.proofs.Parts.{same_type_tree}
use Rattle.tree_same.proofs.types.+types.Goals as goal

pub same_type-returns-then-same_btype : goal.same_type-returns-then-same_btype
same_type-returns-then-same_btype t c = (
  (λ e. same_type_tree c.args.a.now c.args.b.now (c.same.ensures.0 c.if-same.true) (c.same_btype.ensures.0 c.if-same_btype.true) (c.same_optional_type.ensures.0 e)),
  (λ e. c.same_optional_type.ensures.1 (ap (λ x. (out-TypeTree x).to) e)),
)
