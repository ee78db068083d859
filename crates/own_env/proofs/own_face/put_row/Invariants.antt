use Rattle.std.proofs.Common.{◌≡◌, ◌++◌, drop}
use Rattle.own_env.specs.Own.{at_row}
use Rattle.own_env.proofs.own_face.put_row.Given as goal

abbrev pub invariant-loop-at : goal.invariant-loop-at
invariant-loop-at l = l.out ++ at_row l.insts (drop l.at-index l.row) ≡ l.fn.out ++ at_row l.insts l.row
