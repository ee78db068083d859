use Rattle.hs_layout.proofs.Balance.{balance}
use Rattle.hs_layout.proofs.laws.braces_balance.Goals as goal

pub returns : goal.returns
returns c = balance
