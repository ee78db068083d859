use Rattle.std.proofs.Common.{◌≡◌, drop, find}
use Rattle.face_envs.specs.Sight.{sees}
use Rattle.face_envs.proofs.shared.first_decl_place.Given as goal

abbrev pub invariant-loop-place : goal.invariant-loop-place
invariant-loop-place l = find (λ q. sees l.seen q.0) (drop l.place-index l.row) ≡ find (λ q. sees l.seen q.0) l.row
