use Rattle.plain_form.proofs.FirstBad.{form_is_spelled}
use Rattle.plain_form.proofs.form.form_is_its_spelling.Goals as goal

pub returns : goal.returns
returns c = form_is_spelled
