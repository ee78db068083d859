use Rattle.hs_header.proofs.Words.{all_told, none_told, told_by}
use Rattle.hs_header.proofs.extension.flags_of.Goals as goal

pub returns-in-Some : goal.returns-in-Some
returns-in-Some c = told_by c.with_words.result _ _ (all_told c.args.flags c.args.token.now c.as_slice.result.now _ _ c.as_slice.ensures c.in-Some.ensures.word) c.with_words.ensures

pub returns-in-None : goal.returns-in-None
returns-in-None c = none_told c.args.flags c.args.token.now c.as_slice.result.now c.as_slice.ensures c.in-None.ensures.word
