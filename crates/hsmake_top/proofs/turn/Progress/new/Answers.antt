use Rattle.hsmake_top.specs.Ahead.{pending, place}
use Rattle.hsmake_top.specs.Kept.{state_of}
use Rattle.hsmake_top.proofs.Stops.{nothing_consumed}
use Rattle.hsmake_top.proofs.Turns.{nothing_done}
use Rattle.hsmake_top.proofs.turn.Progress.new.Goals as goal

pub returns-clause-done : goal.returns-clause-done
returns-clause-done c = λ left taken checks. nothing_done left taken (pending c.new-2.result) (place c.new-2.result) (state_of c.in_ok-session.session) checks (nothing_consumed left) c.new-2.ensures.pending c.new-2.ensures.place c.in_ok-session.ensures.1
