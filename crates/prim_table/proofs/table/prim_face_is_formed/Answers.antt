use Rattle.prim_table.proofs.Formed.{face_formed}
use Rattle.prim_table.proofs.table.prim_face_is_formed.Goals as goal

pub returns : goal.returns
returns c = face_formed
