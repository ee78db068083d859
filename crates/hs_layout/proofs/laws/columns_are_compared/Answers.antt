use Rattle.hs_layout.proofs.Moves.{signs_stay}
use Rattle.hs_layout.proofs.laws.columns_are_compared.Goals as goal

pub returns : goal.returns
returns c = λ g ts k. signs_stay g k ts
