use Rattle.std.proofs.Common.{◌≡◌, ◌++◌, take}
use Rattle.std.specs.List.{flat_map}
use Rattle.report.specs.Report.{diag_line}
use Rattle.report.proofs.report.push_diags.Given as goal

abbrev pub invariant-loop-diag : goal.invariant-loop-diag
invariant-loop-diag l = l.out ≡ l.fn.out ++ flat_map (diag_line l.node) (take l.diag-index l.diags)
