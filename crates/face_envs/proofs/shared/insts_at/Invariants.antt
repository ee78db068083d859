use Rattle.std.proofs.Common.{◌≡◌, ◌++◌, drop, filter, flat_map, option_to_list}
use Rattle.face_envs.specs.Sight.{sees}
use Rattle.face_envs.specs.Tables.{inst_at}
use Rattle.face_envs.proofs.shared.insts_at.Given as goal

abbrev pub invariant-loop-at : goal.invariant-loop-at
invariant-loop-at l = l.insts ++ flat_map (λ b. option_to_list (inst_at l.kept b)) (filter (λ b. sees l.seen b.face) (drop l.at-index l.row)) ≡ flat_map (λ b. option_to_list (inst_at l.kept b)) (filter (λ b. sees l.seen b.face) l.row)
