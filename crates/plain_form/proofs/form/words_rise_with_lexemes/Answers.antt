use Rattle.plain_form.proofs.Rise.{words_rise}
use Rattle.plain_form.proofs.form.words_rise_with_lexemes.Goals as goal

pub returns : goal.returns
returns c = words_rise
