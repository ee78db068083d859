use Rattle.term_unify.specs.Added.{IsRelaxed}
use Rattle.term_unify.proofs.terms.Terms.relaxed.Given as goal

abbrev pub invariant-loop-at : goal.invariant-loop-at
invariant-loop-at l = record {
  relaxed : IsRelaxed l.self.nodes l.at l.terms;
}
