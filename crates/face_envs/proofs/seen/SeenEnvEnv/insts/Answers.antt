use Rattle.std.proofs.Common.{◌≡◌, ◌∙◌, IfOk, nat_eq, subst}
use Rattle.std.specs.List.{list_any}
use Rattle.face_model.specs.Environments.{AreFormed, Faces, insts_of}
use Rattle.face_envs.proofs.Adding.{formed_seen}
use Rattle.face_envs.proofs.Asked.{seen_places}
use Rattle.face_envs.proofs.seen.SeenEnvEnv.insts.Goals as goal

pub returns-clause-found : goal.returns-clause-found
returns-clause-found c = subst (λ (fs : Faces). IfOk c.insts.result (λ is. is ≡ insts_of fs c.args.class.now c.args.head.now)) (seen_places c.self.inside.shared.now c.self.inside.places.now c.self.invariant ∙ c.self.view_is) c.insts.ensures.found

pub returns-clause-formed : goal.returns-clause-formed
returns-clause-formed c =
    subst AreFormed (seen_places c.self.inside.shared.now c.self.inside.places.now c.self.invariant ∙ c.self.view_is)
    (formed_seen (λ i. list_any (nat_eq i) c.self.inside.places.now) 0 c.self.inside.shared.now c.insts.ensures.formed)
