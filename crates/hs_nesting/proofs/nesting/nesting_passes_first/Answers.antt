use Rattle.hs_nesting.proofs.Fronts.{nowhere, first, fronts}
use Rattle.hs_nesting.proofs.nesting.nesting_passes_first.Goals as goal

pub returns-clause-nowhere : goal.returns-clause-nowhere
returns-clause-nowhere c = nowhere

pub returns-clause-first : goal.returns-clause-first
returns-clause-first c = first

pub returns-clause-fronts : goal.returns-clause-fronts
returns-clause-fronts c = fronts
