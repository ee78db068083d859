use Rattle.std.proofs.Common.{◌≡◌, ◌++◌, ◌≤◌, ◌-◌, drop, take, length}
use Rattle.face_envs.specs.Tables.{module_at, put_behind}
use Rattle.face_envs.proofs.tables.put_inst.Given as goal

abbrev pub invariant-loop-at : goal.invariant-loop-at
invariant-loop-at l = (l.at ≤ length l.row.items) × (take l.at l.row.items ++ put_behind module_at l.inst (drop l.at l.row.items) ≡ put_behind module_at l.inst l.row.items)

abbrev pub decreases-loop-at : goal.decreases-loop-at
decreases-loop-at l = length l.row.items - l.at
