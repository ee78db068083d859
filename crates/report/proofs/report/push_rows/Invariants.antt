use Rattle.std.proofs.Common.{◌≡◌, ◌++◌, map, take}
use Rattle.std.specs.List.{flat_map}
use Rattle.report.specs.Report.{row_lines, row_of}
use Rattle.report.proofs.report.push_rows.Given as goal

abbrev pub invariant-loop-entry : goal.invariant-loop-entry
invariant-loop-entry l = l.out ≡ l.fn.out ++ flat_map row_lines (map (row_of l.nodes) (take l.entry-index l.nodes))
