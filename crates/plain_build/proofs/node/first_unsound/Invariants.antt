use Rattle.std.proofs.Common.{◌≡◌, drop}
use Rattle.plain_build.specs.Soundness as soundness_spec
use Rattle.plain_build.proofs.node.first_unsound.Given as goal

abbrev pub invariant-loop-need : goal.invariant-loop-need
invariant-loop-need l = soundness_spec.first_unsound l.sound (drop l.need-index l.needs) ≡ soundness_spec.first_unsound l.sound l.needs
