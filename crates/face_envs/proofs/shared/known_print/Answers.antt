use Rattle.std.proofs.Common.{◌≡◌, ◌∙◌, ◌<◌, ◌≤◌, List, ap, arith, length, slice_get}
use Rattle.mk_base.specs.declared.fingerprint.Fingerprint.{Fingerprint}
use Rattle.face_model.specs.declared.face.Face.{Face}
use Rattle.face_envs.proofs.Adding.{print_is, print_not}
use Rattle.face_envs.proofs.shared.known_print.Goals as goal

pub returns-then-place-len : goal.returns-then-place-len
returns-then-place-len c =
    let k = c.args.known.now in
    let count : c.len.result ≡ length k.face.decls = c.len.ensures ∙ ap (λ (f : Face). length f.decls) c.face.ensures in
    let lt : c.args.place < length k.face.decls = omega arith in
    c.copied.ensures ∙ (c.get.ensures ∙ (ap (λ (ps : List Fingerprint). slice_get ps c.args.place) c.prints.ensures ∙ print_is k.face.decls k.prints c.args.place lt))

pub returns-else-place-len : goal.returns-else-place-len
returns-else-place-len c =
    let k = c.args.known.now in
    let count : c.len.result ≡ length k.face.decls = c.len.ensures ∙ ap (λ (f : Face). length f.decls) c.face.ensures in
    let le : length k.face.decls ≤ c.args.place = omega arith in
    print_not k.face.decls k.prints c.args.place le
