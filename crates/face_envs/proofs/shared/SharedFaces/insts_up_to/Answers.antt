use Rattle.std.proofs.Common.{◌≡◌, ◌∙◌, ℕ, Bool, List, [], length, ap, sym, subst}
use Rattle.std.specs.Prelude.{filter}
use Rattle.face_model.specs.Environments.{Faces, insts_up_to}
use Rattle.face_envs.specs.Sight.{sees}
use Rattle.face_envs.specs.Tables.{seen_from}
use Rattle.face_envs.proofs.Instances.{counts, count_found}
use Rattle.face_envs.proofs.shared.SharedFaces.insts_up_to.Goals as goal

pub returns-in-None-clause-found : goal.returns-in-None-clause-found
returns-in-None-clause-found c =
    let fs : Faces = c.self.inside.kept in
    let p : ℕ → Bool = sees c.args.seen in
    let e : 0 ≡ insts_up_to (seen_from p 0 fs) c.args.class.now c.args.head.now c.args.module.now = count_found p c.args.module.now c.args.class.now c.args.head.now fs [] (c.in-None.ensures ∙ c.self.invariant.of_insts c.args.class.now c.args.head.now) in
    subst (λ (gs : Faces). 0 ≡ insts_up_to (seen_from p 0 gs) c.args.class.now c.args.head.now c.args.module.now) c.self.view_is e

pub returns-in-Some-clause-found : goal.returns-in-Some-clause-found
returns-in-Some-clause-found c =
    let fs : Faces = c.self.inside.kept in
    let p : ℕ → Bool = sees c.args.seen in
    let e = count_found p c.args.module.now c.args.class.now c.args.head.now fs c.in-Some.row.now.items (c.in-Some.ensures ∙ c.self.invariant.of_insts c.args.class.now c.args.head.now) in
    subst (λ (gs : Faces). c.count_up_to.result ≡ insts_up_to (seen_from p 0 gs) c.args.class.now c.args.head.now c.args.module.now) c.self.view_is
    (c.count_up_to.ensures ∙ (ap (λ xs. length (filter (counts p c.args.module.now) xs)) c.as_slice.ensures.value ∙ e))
