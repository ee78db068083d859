use Rattle.std.proofs.Common.{◌≡◌, ◌+◌, ◌≤◌, ◌&&◌, drop, filter, length, not}
use Rattle.face_envs.specs.Sight.{sees}
use Rattle.face_envs.specs.Tables.{is_later}
use Rattle.face_envs.proofs.shared.count_up_to.Given as goal

abbrev pub invariant-loop-at : goal.invariant-loop-at
invariant-loop-at l = (l.count ≤ l.at-index) × (l.count + length (filter (λ b. sees l.seen b.face && not (is_later b.«module» l.«module»)) (drop l.at-index l.row)) ≡ length (filter (λ b. sees l.seen b.face && not (is_later b.«module» l.«module»)) l.row))
