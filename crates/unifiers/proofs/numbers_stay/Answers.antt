use Rattle.unifiers.proofs.Numbers.{numbers_stay}
use Rattle.unifiers.proofs.numbers_stay.Goals as goal

pub returns : goal.returns
returns c = numbers_stay
