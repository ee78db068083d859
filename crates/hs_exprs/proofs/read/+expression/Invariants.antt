use Rattle.std.proofs.Common.{◌≡◌, ◌≤◌, ◌+◌, ◌*◌, [], false}
use Rattle.hs_parts.specs.Names.{place}
use Rattle.expr_parts.specs.Expressions.{forms}
use Rattle.hs_exprs.proofs.read.+expression.Given as goal

abbrev pub decreases-exp : goal.decreases-exp
decreases-exp l = 3 * l.left

abbrev pub decreases-chain : goal.decreases-chain
decreases-chain l = 3 * l.left

abbrev pub decreases-operand : goal.decreases-operand
decreases-operand l = 3 * l.left

abbrev pub decreases-lambda : goal.decreases-lambda
decreases-lambda l = 3 * l.left

abbrev pub decreases-let_in : goal.decreases-let_in
decreases-let_in l = 3 * l.left

abbrev pub decreases-if_else : goal.decreases-if_else
decreases-if_else l = 3 * l.left

abbrev pub decreases-case : goal.decreases-case
decreases-case l = 3 * l.left

abbrev pub decreases-alts : goal.decreases-alts
decreases-alts l = 3 * l.left

abbrev pub decreases-alt : goal.decreases-alt
decreases-alt l = 3 * l.left

abbrev pub decreases-stmts : goal.decreases-stmts
decreases-stmts l = 3 * l.left

abbrev pub decreases-apply : goal.decreases-apply
decreases-apply l = 3 * l.left

abbrev pub decreases-aexp : goal.decreases-aexp
decreases-aexp l = 3 * l.left

abbrev pub decreases-updates : goal.decreases-updates
decreases-updates l = 3 * l.left

abbrev pub decreases-fbinds : goal.decreases-fbinds
decreases-fbinds l = 3 * l.left

abbrev pub decreases-simple : goal.decreases-simple
decreases-simple l = 3 * l.left

abbrev pub decreases-paren : goal.decreases-paren
decreases-paren l = 3 * l.left

abbrev pub decreases-right : goal.decreases-right
decreases-right l = 3 * l.left

abbrev pub decreases-exps : goal.decreases-exps
decreases-exps l = 3 * l.left

abbrev pub decreases-bracket : goal.decreases-bracket
decreases-bracket l = 3 * l.left

abbrev pub decreases-listed : goal.decreases-listed
decreases-listed l = 3 * l.left

abbrev pub decreases-second : goal.decreases-second
decreases-second l = 3 * l.left

abbrev pub decreases-limit : goal.decreases-limit
decreases-limit l = 3 * l.left

abbrev pub decreases-quals : goal.decreases-quals
decreases-quals l = 3 * l.left

abbrev pub decreases-part : goal.decreases-part
decreases-part l = 3 * l.left

abbrev pub decreases-let_part : goal.decreases-let_part
decreases-let_part l = 3 * l.left

abbrev pub decreases-body : goal.decreases-body
decreases-body l = 3 * l.left

abbrev pub decreases-arms : goal.decreases-arms
decreases-arms l = 3 * l.left

abbrev pub decreases-arm : goal.decreases-arm
decreases-arm l = 3 * l.left

abbrev pub decreases-guards : goal.decreases-guards
decreases-guards l = 3 * l.left

abbrev pub decreases-guard : goal.decreases-guard
decreases-guard l = 3 * l.left

abbrev pub decreases-guard_of_let : goal.decreases-guard_of_let
decreases-guard_of_let l = 3 * l.left

abbrev pub decreases-locals : goal.decreases-locals
decreases-locals l = 3 * l.left

abbrev pub decreases-decls : goal.decreases-decls
decreases-decls l = 3 * l.left

abbrev pub decreases-decl : goal.decreases-decl
decreases-decl l = 3 * l.left

abbrev pub decreases-clause : goal.decreases-clause
decreases-clause l = 3 * l.left

abbrev pub decreases-nested : goal.decreases-nested
decreases-nested l = 3 * l.left + 1

abbrev pub decreases-clause_item : goal.decreases-clause_item
decreases-clause_item l = 3 * l.left + 1

abbrev pub decreases-clause_body : goal.decreases-clause_body
decreases-clause_body l = 3 * l.left + 1

abbrev pub decreases-block : goal.decreases-block
decreases-block l = 3 * l.left + 1

abbrev pub decreases-inside : goal.decreases-inside
decreases-inside l = 3 * l.left + 2

abbrev pub decreases-in_parens : goal.decreases-in_parens
decreases-in_parens l = 3 * l.left + 1

abbrev pub decreases-in_brackets : goal.decreases-in_brackets
decreases-in_brackets l = 3 * l.left + 1

abbrev pub decreases-guard_of_chain : goal.decreases-guard_of_chain
decreases-guard_of_chain l = 3 * l.left + 2

abbrev pub decreases-bound_guard : goal.decreases-bound_guard
decreases-bound_guard l = 3 * l.left + 1

abbrev pub decreases-bind_part : goal.decreases-bind_part
decreases-bind_part l = 3 * l.left + 1

abbrev pub invariant-chain-loop-left : goal.invariant-chain-loop-left
invariant-chain-loop-left l = (l.left ≤ l.fn.left) × ((forms l.left).chain l.fn.tail l.fn.at l.links.items l.rest ≡ (forms l.fn.left).chain l.fn.tail l.fn.at [] l.fn.tokens)

abbrev pub decreases-chain-loop-left : goal.decreases-chain-loop-left
decreases-chain-loop-left l = l.left

abbrev pub invariant-alts-loop-left : goal.invariant-alts-loop-left
invariant-alts-loop-left l = (l.left ≤ l.fn.left) × ((forms l.left).alts l.fn.at l.subject l.fn.put l.alts.items l.rest ≡ (forms l.fn.left).alts l.fn.at l.fn.subject l.fn.put [] l.fn.tokens)

abbrev pub decreases-alts-loop-left : goal.decreases-alts-loop-left
decreases-alts-loop-left l = l.left

abbrev pub invariant-stmts-loop-left : goal.invariant-stmts-loop-left
invariant-stmts-loop-left l = (l.left ≤ l.fn.left) × ((forms l.left).stmts l.fn.at l.fn.put l.stmts.items l.whole l.rest ≡ (forms l.fn.left).stmts l.fn.at l.fn.put [] false l.fn.tokens)

abbrev pub decreases-stmts-loop-left : goal.decreases-stmts-loop-left
decreases-stmts-loop-left l = l.left

abbrev pub invariant-apply-loop-left : goal.invariant-apply-loop-left
invariant-apply-loop-left l = (l.left ≤ l.fn.left) × ((forms l.left).args (place l.fn.tokens) l.head l.args.items l.rest ≡ (forms l.fn.left).apply l.fn.tokens)

abbrev pub decreases-apply-loop-left : goal.decreases-apply-loop-left
decreases-apply-loop-left l = l.left

abbrev pub invariant-updates-loop-left : goal.invariant-updates-loop-left
invariant-updates-loop-left l = (l.left ≤ l.fn.left) × ((forms l.left).updates l.fn.at l.tree l.updates.items l.rest ≡ (forms l.fn.left).updates l.fn.at l.fn.tree [] l.fn.tokens)

abbrev pub decreases-updates-loop-left : goal.decreases-updates-loop-left
decreases-updates-loop-left l = l.left

abbrev pub invariant-fbinds-loop-left : goal.invariant-fbinds-loop-left
invariant-fbinds-loop-left l = (l.left ≤ l.fn.left) × ((forms l.left).fbinds l.fields.items l.rest ≡ (forms l.fn.left).fbinds [] l.fn.tokens)

abbrev pub decreases-fbinds-loop-left : goal.decreases-fbinds-loop-left
decreases-fbinds-loop-left l = l.left

abbrev pub invariant-exps-loop-left : goal.invariant-exps-loop-left
invariant-exps-loop-left l = (l.left ≤ l.fn.left) × ((forms l.left).exps l.parts.items l.rest ≡ (forms l.fn.left).exps l.fn.first.items l.fn.tokens)

abbrev pub decreases-exps-loop-left : goal.decreases-exps-loop-left
decreases-exps-loop-left l = l.left

abbrev pub invariant-quals-loop-left : goal.invariant-quals-loop-left
invariant-quals-loop-left l = (l.left ≤ l.fn.left) × ((forms l.left).quals l.quals.items l.rest ≡ (forms l.fn.left).quals [] l.fn.tokens)

abbrev pub decreases-quals-loop-left : goal.decreases-quals-loop-left
decreases-quals-loop-left l = l.left

abbrev pub invariant-arms-loop-left : goal.invariant-arms-loop-left
invariant-arms-loop-left l = (l.left ≤ l.fn.left) × ((forms l.left).arms l.fn.in_alternative l.arms.items l.rest ≡ (forms l.fn.left).arms l.fn.in_alternative [] l.fn.tokens)

abbrev pub decreases-arms-loop-left : goal.decreases-arms-loop-left
decreases-arms-loop-left l = l.left

abbrev pub invariant-guards-loop-left : goal.invariant-guards-loop-left
invariant-guards-loop-left l = (l.left ≤ l.fn.left) × ((forms l.left).guards l.fn.in_alternative l.guards.items l.rest ≡ (forms l.fn.left).guards l.fn.in_alternative [] l.fn.tokens)

abbrev pub decreases-guards-loop-left : goal.decreases-guards-loop-left
decreases-guards-loop-left l = l.left

abbrev pub invariant-decls-loop-left : goal.invariant-decls-loop-left
invariant-decls-loop-left l = (l.left ≤ l.fn.left) × ((forms l.left).decls l.fn.put l.decls.items l.rest ≡ (forms l.fn.left).decls l.fn.put [] l.fn.tokens)

abbrev pub decreases-decls-loop-left : goal.decreases-decls-loop-left
decreases-decls-loop-left l = l.left
