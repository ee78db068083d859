use Rattle.std.proofs.Common.{ap}
use Rattle.hs_syntax.specs.declared.item.AkindTree.TheViews.{out-KindTree}
use Rattle.tree_same.proofs.Parts.{same_kind_tree}
use Rattle.tree_same.proofs.kinds.+kinds.Goals as goal

pub same_kind-returns-then-same_akind : goal.same_kind-returns-then-same_akind
same_kind-returns-then-same_akind t c = (
  (λ e. same_kind_tree c.args.a.now c.args.b.now (c.same.ensures.0 c.if-same.true) (c.same_akind.ensures.0 c.if-same_akind.true) (c.same_optional_kind.ensures.0 e)),
  (λ e. c.same_optional_kind.ensures.1 (ap (λ x. (out-KindTree x).to) e)),
)
