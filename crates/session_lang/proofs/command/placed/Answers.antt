use Rattle.std.proofs.Common.{ap}
use Rattle.session_lang.specs.Meant.{said_by}
use Rattle.session_lang.proofs.Spans.{put_says}
use Rattle.session_lang.proofs.command.placed.Goals as goal

pub returns-in-Put-clause-says : goal.returns-in-Put-clause-says
returns-in-Put-clause-says c rest = put_says (said_by c.args.piece) c.in-Put.path.now c.in-Put.body.now rest c.args.used (ap said_by c.in-Put.is) c.requires
