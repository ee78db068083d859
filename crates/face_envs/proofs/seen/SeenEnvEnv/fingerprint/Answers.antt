use Rattle.std.proofs.Common.{◌≡◌, ◌∙◌, nat_eq, subst}
use Rattle.std.specs.List.{list_any}
use Rattle.face_model.specs.Environments.{AreFormed, Faces, first_print}
use Rattle.face_envs.proofs.Adding.{formed_seen}
use Rattle.face_envs.proofs.Asked.{seen_places}
use Rattle.face_envs.proofs.seen.SeenEnvEnv.fingerprint.Goals as goal

pub returns-clause-found : goal.returns-clause-found
returns-clause-found c = subst (λ (fs : Faces). c.fingerprint.result ≡ first_print fs c.args.name.now) (seen_places c.self.inside.shared.now c.self.inside.places.now c.self.invariant ∙ c.self.view_is) c.fingerprint.ensures.found

pub returns-clause-formed : goal.returns-clause-formed
returns-clause-formed c =
    subst AreFormed (seen_places c.self.inside.shared.now c.self.inside.places.now c.self.invariant ∙ c.self.view_is)
    (formed_seen (λ i. list_any (nat_eq i) c.self.inside.places.now) 0 c.self.inside.shared.now c.fingerprint.ensures.formed)
