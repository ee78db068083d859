use Rattle.std.proofs.Common.{[], IfSome, IfNone, sym, subst}
use Rattle.hs_syntax.specs.declared.pattern_tree.PatTree.{PatTree}
use Rattle.hs_parts.specs.Grammar.{IsPattern}
use Rattle.hs_parts.proofs.Whole.{pattern_is, pattern_none}
use Rattle.hs_parts.proofs.parse.parse_pattern.Goals as goal

pub returns-clause-tree : goal.returns-clause-tree
returns-clause-tree c = subst (λ m. IfSome m (λ p. IsPattern c.args.tokens.now [] p)) (sym c.in_ok-tree.ensures) (pattern_is c.args.tokens.now)

pub returns-clause-none : goal.returns-clause-none
returns-clause-none c = subst (λ m. IfNone m ((p : PatTree) → IsPattern c.args.tokens.now [] p → ⊥)) (sym c.in_ok-tree.ensures) (pattern_none c.args.tokens.now)
