use Rattle.std.proofs.Common.{◌≡◌, ◌∙◌, List, Option, Some, None, IfOk, cond, ap, sym, subst}
use Rattle.std.specs.Option.{option_or}
use Rattle.mk_base.specs.declared.name.ModName.{ModName}
use Rattle.face_model.specs.declared.export.Export.{Export}
use Rattle.face_model.specs.declared.face.Face.{Face}
use Rattle.face_model.specs.Environments.{Faces, exports_of}
use Rattle.own_env.specs.Own.{with_own}
use Rattle.face_envs.specs.Tables.{same_module}
use Rattle.own_env.proofs.Behind.{exports_behind}
use Rattle.own_env.proofs.own_env.OwnEnvEnv.exports.Goals as goal

pub returns-in-Some-clause-found : goal.returns-in-Some-clause-found
returns-in-Some-clause-found g c =
    let fs : Faces = g.E.Env.faces c.args.self.now.outer.now in
    let f : Face = c.args.self.now.own.now in
    let m : ModName = c.args.module.now in
    ap (λ (o : Option (List Export)). option_or o (cond (same_module m f.node.module) (Some f.exports) None)) (sym c.in-Some.is ∙ c.in_ok-exports.ensures.found) ∙ sym (exports_behind fs f m)

pub returns-in-None-clause-found : goal.returns-in-None-clause-found
returns-in-None-clause-found g c =
    let fs : Faces = g.E.Env.faces c.args.self.now.outer.now in
    let f : Face = c.args.self.now.own.now in
    let m : ModName = c.args.module.now in
    let own : Option (List Export) = cond (same_module m f.node.module) (Some f.exports) None in
    let e : own ≡ exports_of (with_own fs f) m = ap (λ (o : Option (List Export)). option_or o own) (sym c.in-None.is ∙ c.in_ok-exports.ensures.found) ∙ sym (exports_behind fs f m) in
    subst (λ (o : Option (List Export)). IfOk c.exports-in-None.result (λ es. es ≡ o)) e c.exports-in-None.ensures
