use Rattle.plain_scope.specs.Scope.{scope}
use Rattle.plain_scope.proofs.Order.{are_ordered}
use Rattle.plain_scope.proofs.scope.diagnostics_are_ordered.Goals as goal

pub returns : goal.returns
returns c = λ unit m w imported rising. are_ordered (scope unit m w imported) w rising
