use Rattle.std.proofs.Common.{◌∙◌}
use Rattle.term_unify.specs.Arena.{solved}
use Rattle.term_unify.proofs.Places.{holds_as, stands_any}
use Rattle.term_unify.proofs.terms.Terms.holds.Goals as goal

pub returns-clause-holds : goal.returns-clause-holds
returns-clause-holds c = holds_as (solved c.args.self.now c.args.t.0) c.args.number c.in_ok-found.found c.as_slice.result.now c.has_number.result c.in_ok-found.ensures.variables c.as_slice.ensures (c.has_number.ensures ∙ stands_any c.as_slice.result.now c.args.number)
