use Rattle.std.proofs.Common.{◌≡◌, ◌++◌, drop}
use Rattle.indexmap.specs.IndexMap.{get}
use Rattle.mk_base.specs.declared.name.Name.{Name}
use Rattle.face_model.specs.Environments.{same_name}
use Rattle.face_envs.specs.Tables.{row_of, decls_from}
use Rattle.face_envs.proofs.tables.add_decls.Given as goal

abbrev pub invariant-loop-place : goal.invariant-loop-place
invariant-loop-place l = (n : Name) → row_of (get same_name l.table n) ++ decls_from n l.face l.place (drop l.place l.decls) ≡ row_of (get same_name l.fn.table n) ++ decls_from n l.face 0 l.decls
