use Rattle.std.proofs.Common.{◌≡◌, ◌∙◌, List, ap, subst, length}
use Rattle.std.specs.Prelude.{filter}
use Rattle.std.specs.Option.{option_copied}
use Rattle.mk_base.specs.declared.name.Name.{Name}
use Rattle.face_model.specs.declared.inst.Inst.{Inst}
use Rattle.face_model.specs.declared.face.Face.{Face}
use Rattle.face_model.specs.Environments.{is_inst}
use Rattle.own_env.specs.Own.{at_row}
use Rattle.face_envs.specs.Tables.{row_of}
use Rattle.own_env.proofs.OwnRows.{found_in, count_in}
use Rattle.own_env.proofs.own_face.OwnFace.row.Goals as goal

pub returns-clause-found : goal.returns-clause-found
returns-clause-found c =
    let n : Name = c.args.class.now in
    let h : Name = c.args.head.now in
    let f : Face = c.self.inside.shown.now in
    subst (λ (f : Face). at_row f.insts (row_of (option_copied c.places.result)) ≡ filter (is_inst n h) f.insts) c.self.view_is
    (ap (at_row f.insts) (c.places.ensures ∙ c.self.invariant.of_insts n h) ∙ found_in n h f.node.module f.insts)

pub returns-clause-count : goal.returns-clause-count
returns-clause-count c =
    let n : Name = c.args.class.now in
    let h : Name = c.args.head.now in
    let f : Face = c.self.inside.shown.now in
    subst (λ (f : Face). length (row_of (option_copied c.places.result)) ≡ length (filter (is_inst n h) f.insts)) c.self.view_is
    (ap length (c.places.ensures ∙ c.self.invariant.of_insts n h) ∙ count_in n h f.node.module f.insts)
