use Rattle.session_lang.proofs.Split.{fill}
use Rattle.session_lang.proofs.token.body_at.Goals as goal

pub returns-then-bytes-count : goal.returns-then-bytes-count
returns-then-bytes-count c = fill c.args.bytes.now c.args.count c.if-bytes-count.true
