use Rattle.indexmap.specs.IndexSet.{contains}
use Rattle.mk_base.specs.Texts.{same_text}
use Rattle.plain_scope.proofs.Steps.{seen_next}
use Rattle.plain_scope.proofs.lines.check_twice.Goals as goal

pub returns-clause-seen : goal.returns-clause-seen
returns-clause-seen c = λ words had. seen_next (contains same_text c.args.seen.now) (contains same_text c.insert.new.self) words c.args.word.now.text c.in_ok-copy.field-0 c.in_ok-copy.ensures c.in_ok-added.ensures.updates.0 had
