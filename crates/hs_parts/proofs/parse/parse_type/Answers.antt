use Rattle.std.proofs.Common.{[], IfSome, IfNone, sym, subst}
use Rattle.hs_syntax.specs.declared.type_tree.TypeTree.{TypeTree}
use Rattle.hs_parts.specs.Grammar.{IsType}
use Rattle.hs_parts.proofs.Whole.{type_is, type_none}
use Rattle.hs_parts.proofs.parse.parse_type.Goals as goal

pub returns-clause-tree : goal.returns-clause-tree
returns-clause-tree c = subst (λ m. IfSome m (λ t. IsType c.args.tokens.now [] t)) (sym c.in_ok-tree.ensures) (type_is c.args.tokens.now)

pub returns-clause-none : goal.returns-clause-none
returns-clause-none c = subst (λ m. IfNone m ((t : TypeTree) → IsType c.args.tokens.now [] t → ⊥)) (sym c.in_ok-tree.ensures) (type_none c.args.tokens.now)
