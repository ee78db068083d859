use Rattle.mk_io.proofs.Pieces.{front_whole}
use Rattle.hsmake_top.specs.Usage.{usage_line}
use Rattle.hsmake_top.proofs.run.end_usage.Goals as goal

pub returns-in-Ok-clause-front : goal.returns-in-Ok-clause-front
returns-in-Ok-clause-front g c = front_whole (g.K.Sink.taken c.args.output.now) (g.K.Sink.taken c.write_all.new.sink) usage_line c.in-Ok.ensures.ok
