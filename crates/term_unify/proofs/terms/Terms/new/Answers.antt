use Rattle.term_unify.proofs.Solution.{empty_general, empty_rigid}
use Rattle.term_unify.proofs.terms.Terms.new.Goals as goal

pub returns-clause-most_general : goal.returns-clause-most_general
returns-clause-most_general c = empty_general c.new.result.items c.new-2.result.items c.new-3.result.items c.new-3.ensures.items

pub returns-clause-rigid : goal.returns-clause-rigid
returns-clause-rigid c = empty_rigid c.new.result.items c.new-2.result.items c.new-3.result.items c.new-3.ensures.items
