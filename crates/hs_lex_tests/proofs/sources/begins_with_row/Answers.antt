use Rattle.std.proofs.Common.{refl, inr}
use Rattle.hs_lex_tests.proofs.sources.begins_with_row.Goals as goal

pub next_token-requires-clause-place : goal.next_token-requires-clause-place
next_token-requires-clause-place c = (c.start-first.result, (c.start-first.ensures.reached, inr (refl, c.start-first.ensures.is)))
