use Rattle.std.proofs.Common.{◌≡◌, ◌≤◌, ◌*◌, ◌++◌, drop}
use Rattle.mod_graph.specs.Entries as spec
use Rattle.mod_graph.specs.Ranked.{headers_in}
use Rattle.mod_graph.proofs.entries.entries_from.Given as goal

abbrev pub invariant-loop-number : goal.invariant-loop-number
invariant-loop-number l = record {
  bytes : l.before ≤ l.number * 1048577;
  entries : l.entries.items ++ spec.entries_from l.prelude l.number l.before (headers_in (drop l.number l.ranked)) ≡ spec.entries_from l.prelude 0 0 (headers_in l.ranked);
}
