use Rattle.std.proofs.Common.{◌≡◌, ◌∙◌, IfOk, nat_eq, subst}
use Rattle.std.specs.List.{list_any}
use Rattle.face_model.specs.Environments.{AreFormed, Faces, exports_of}
use Rattle.face_envs.proofs.Adding.{formed_seen}
use Rattle.face_envs.proofs.Asked.{seen_places}
use Rattle.face_envs.proofs.seen.SeenEnvEnv.exports.Goals as goal

pub returns-clause-found : goal.returns-clause-found
returns-clause-found c = subst (λ (fs : Faces). IfOk c.exports.result (λ es. es ≡ exports_of fs c.args.module.now)) (seen_places c.self.inside.shared.now c.self.inside.places.now c.self.invariant ∙ c.self.view_is) c.exports.ensures.found

pub returns-clause-formed : goal.returns-clause-formed
returns-clause-formed c =
    subst AreFormed (seen_places c.self.inside.shared.now c.self.inside.places.now c.self.invariant ∙ c.self.view_is)
    (formed_seen (λ i. list_any (nat_eq i) c.self.inside.places.now) 0 c.self.inside.shared.now c.exports.ensures.formed)
