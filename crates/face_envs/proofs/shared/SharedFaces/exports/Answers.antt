use Rattle.std.proofs.Common.{◌≡◌, ◌∙◌, ℕ, Bool, List, None, Option, IfOk, ap, sym, subst}
use Rattle.std.specs.Prelude.{slice_get}
use Rattle.std.specs.Option.{option_and_then, option_copied}
use Rattle.mk_base.specs.declared.name.ModName.{ModName}
use Rattle.face_model.specs.declared.export.Export.{Export}
use Rattle.face_model.specs.Environments.{Faces, exports_in, exports_of}
use Rattle.face_envs.specs.Sight.{sees}
use Rattle.face_envs.specs.Tables.{seen_from}
use Rattle.face_envs.proofs.Lookups.{exports_at, exports_found}
use Rattle.face_envs.proofs.shared.SharedFaces.exports.Goals as goal

pub returns-in-None-clause-found : goal.returns-in-None-clause-found
returns-in-None-clause-found c =
    let fs : Faces = c.self.inside.kept in
    let m : ModName = c.args.module.now in
    let p : ℕ → Bool = sees c.args.seen in
    let e : exports_in (option_and_then (slice_get fs) c.face_place.result) ≡ exports_of (seen_from p 0 fs) m = exports_found fs p m _ c.face_place.result c.face_place.ensures (c.self.invariant.of_modules m) in
    subst (λ (gs : Faces). None ≡ exports_of (seen_from p 0 gs) m) c.self.view_is
    (sym (ap (λ o. exports_in (option_and_then (slice_get fs) o)) c.in-None.is) ∙ e)

pub returns-in-Some-clause-found : goal.returns-in-Some-clause-found
returns-in-Some-clause-found c =
    let fs : Faces = c.self.inside.kept in
    let m : ModName = c.args.module.now in
    let p : ℕ → Bool = sees c.args.seen in
    let e : exports_in (option_and_then (slice_get fs) c.face_place.result) ≡ exports_of (seen_from p 0 fs) m = exports_found fs p m _ c.face_place.result c.face_place.ensures (c.self.invariant.of_modules m) in
    let whole : exports_in (option_copied c.get.result) ≡ exports_of (seen_from p 0 fs) m = ap exports_in c.get.ensures ∙ (sym (ap (λ o. exports_in (option_and_then (slice_get fs) o)) c.in-Some.is) ∙ e) in
    subst (λ (gs : Faces). IfOk c.copied_exports.result (λ es. es ≡ exports_of (seen_from p 0 gs) m)) c.self.view_is
    (subst (λ (o : Option (List Export)). IfOk c.copied_exports.result (λ es. es ≡ o)) whole c.copied_exports.ensures)
