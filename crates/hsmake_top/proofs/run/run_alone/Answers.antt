use Rattle.std.proofs.Common.{List, ℕ}
use Rattle.mk_io.specs.Outside.{AppendsFront}
use Rattle.hsmake_top.specs.Session.{HasText, HasWritten}
use Rattle.hsmake_top.proofs.Stops.{nothing_consumed}
use Rattle.hsmake_top.proofs.Turns.{front_of_any, if_some}
use Rattle.hsmake_top.proofs.run.run_alone.Goals as goal

pub returns-then-is_session-clause-front : goal.returns-then-is_session-clause-front
returns-then-is_session-clause-front g c = λ w.
    let before = g.K.Sink.taken c.args.output.now in
    let now = g.K.Sink.taken c.run_session.new.output in
    if_some (g.S.Source.left c.args.input.now) (λ bytes. HasWritten bytes before now) (λ bytes. (text : List ℕ) → HasText bytes text → AppendsFront before now text)
    (λ bytes h. front_of_any bytes before now h) c.run_session.ensures.ends.begun

pub returns-else-is_session-clause-consumed : goal.returns-else-is_session-clause-consumed
returns-else-is_session-clause-consumed g c = nothing_consumed (g.S.Source.left c.args.input.now)
