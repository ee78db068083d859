-- The face of the module `Prim`.
use Rattle.std.specs.Prelude.{false, codes}
use Rattle.face_model.specs.declared.face.Face.{Face}
use Rattle.prim_table.specs.Types.{decls}
use Rattle.prim_table.specs.Insts.{insts}
use Rattle.prim_table.specs.Exports.{exports}

abbrev pub prim_face : Face
prim_face = record { node = record { «module» = record { text = codes "Prim" }; boot = false }; decls = decls; insts = insts; exports = exports }
