use Rattle.session_lang.proofs.Laws.{free}
use Rattle.session_lang.proofs.command.no_spelling_begins_another.Goals as goal

pub returns : goal.returns
returns c = free
