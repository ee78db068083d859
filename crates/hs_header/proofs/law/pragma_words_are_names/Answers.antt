use Rattle.hs_header.proofs.Named.{words_are_names}
use Rattle.hs_header.proofs.law.pragma_words_are_names.Goals as goal

pub returns : goal.returns
returns c = words_are_names
