use Rattle.std.proofs.Common.{◌≡◌, ◌≤◌, take}
use Rattle.report.specs.Report.{count_of, rows_of}
use Rattle.report.specs.Report as report
use Rattle.report.proofs.counts.count_failed.Given as goal

abbrev pub invariant-loop-entry : goal.invariant-loop-entry
invariant-loop-entry l = (l.count ≤ l.entry-index) × (l.count ≡ count_of (λ r. report.is_failed r.standing r.sound) (take l.entry-index (rows_of l.nodes)))
