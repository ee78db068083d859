use Rattle.std.proofs.Common.{◌≡◌, ◌∙◌, Some, ap, sym, slice_get, rules}
use Rattle.face_model.specs.declared.face.Face.{Face}
use Rattle.face_envs.proofs.Adding.{decl_found}
use Rattle.face_envs.proofs.shared.decl_at.Goals as goal

pub returns-in-Some : goal.returns-in-Some
returns-in-Some c =
    let at : slice_get c.args.kept.now c.args.face ≡ Some c.in-Some.known.now = sym c.in-Some.ensures in
    c.get-in-Some.ensures ∙ (ap (λ (f : Face). slice_get f.decls c.args.place) c.face.ensures ∙ sym (decl_found c.args.kept.now c.args.face c.args.place c.in-Some.known.now at))
