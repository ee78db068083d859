use Rattle.hs_lex.proofs.Tails.{large_name, large_none}
use Rattle.hs_lex.proofs.name.large_name_at.Goals as goal

pub returns-in_default : goal.returns-in_default
returns-in_default c = large_none _ c.in_default.ensures

pub returns : goal.returns
returns c = large_name _ _ _ c.in-Some.ensures c.tail_at.ensures
