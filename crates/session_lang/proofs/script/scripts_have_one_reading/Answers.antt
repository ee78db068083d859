use Rattle.session_lang.proofs.Scripts.{reading, apart, place}
use Rattle.session_lang.proofs.script.scripts_have_one_reading.Goals as goal

pub returns-clause-reading : goal.returns-clause-reading
returns-clause-reading c = reading

pub returns-clause-apart : goal.returns-clause-apart
returns-clause-apart c = apart

pub returns-clause-place : goal.returns-clause-place
returns-clause-place c = place
