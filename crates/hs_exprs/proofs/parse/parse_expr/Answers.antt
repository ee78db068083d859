use Rattle.std.proofs.Common.{[], IfSome, IfNone, sym, subst}
use Rattle.hs_syntax.specs.declared.expr_tree.ExprTree.{ExprTree}
use Rattle.expr_parts.specs.Grammar.{IsExp}
use Rattle.expr_parts.proofs.Whole.{whole_is, whole_none}
use Rattle.hs_exprs.proofs.parse.parse_expr.Goals as goal

pub returns-clause-tree : goal.returns-clause-tree
returns-clause-tree c = subst (λ m. IfSome m (λ e. IsExp c.args.tokens.now [] e)) (sym c.in_ok-tree.ensures) (whole_is c.args.tokens.now)

pub returns-clause-none : goal.returns-clause-none
returns-clause-none c = subst (λ m. IfNone m ((e : ExprTree) → IsExp c.args.tokens.now [] e → ⊥)) (sym c.in_ok-tree.ensures) (whole_none c.args.tokens.now)
