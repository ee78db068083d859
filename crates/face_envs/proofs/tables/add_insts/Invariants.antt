use Rattle.std.proofs.Common.{◌≡◌, drop}
use Rattle.indexmap.specs.IndexMap.{get}
use Rattle.mk_base.specs.declared.name.Name.{Name}
use Rattle.face_model.specs.Environments.{same_name}
use Rattle.face_envs.specs.Tables.{inst_row, insts_from, module_at, put_all}
use Rattle.face_envs.proofs.tables.add_insts.Given as goal

abbrev pub invariant-loop-place : goal.invariant-loop-place
invariant-loop-place l = (c h : Name) → put_all module_at (insts_from c h l.«module» l.face l.place (drop l.place l.insts)) (inst_row (get same_name l.table c) h) ≡ put_all module_at (insts_from c h l.«module» l.face 0 l.insts) (inst_row (get same_name l.fn.table c) h)
