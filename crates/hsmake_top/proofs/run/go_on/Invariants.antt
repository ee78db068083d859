use Rattle.std.proofs.Common.{◌≡◌, ◌-◌, ℕ, List}
use Rattle.std.specs.declared.option.Option.{Option}
use Rattle.session_lang.specs.Script.{limit}
use Rattle.hsmake_top.specs.Ahead.{place}
use Rattle.hsmake_top.specs.Turn.{HasDone, IsProgress}
use Rattle.hsmake_top.proofs.run.go_on.Given as goal

abbrev pub invariant-loop-status : goal.invariant-loop-status
invariant-loop-status g l = record {
  progress : IsProgress l.progress;
  done : (left taken : Option (List ℕ)) (checks : ℕ) → HasDone left (g.S.Source.left l.fn.input) taken (g.K.Sink.taken l.fn.output) checks l.fn.steps l.fn.progress
      → HasDone left (g.S.Source.left l.input) taken (g.K.Sink.taken l.output) checks l.steps l.progress;
  reads : g.S.Source.faults l.input ≡ g.S.Source.faults l.fn.input;
  writes : g.K.Sink.faults l.output ≡ g.K.Sink.faults l.fn.output;
}

abbrev pub decreases-loop-status : goal.decreases-loop-status
decreases-loop-status g l = limit - place l.progress.script
