use Rattle.reading_law.proofs.Follows.{answers_tell, reached_tell}
use Rattle.reading_law.proofs.usages_tell.Goals as goal

pub returns-clause-answers : goal.returns-clause-answers
returns-clause-answers g c = answers_tell

pub returns-clause-reached : goal.returns-clause-reached
returns-clause-reached g c = reached_tell
