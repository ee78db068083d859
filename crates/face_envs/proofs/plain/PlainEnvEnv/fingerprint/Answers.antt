use Rattle.std.proofs.Common.{◌≡◌, ◌∙◌, subst}
use Rattle.face_model.specs.Environments.{AreFormed, Faces, first_print}
use Rattle.face_envs.proofs.Asked.{seen_all}
use Rattle.face_envs.proofs.plain.PlainEnvEnv.fingerprint.Goals as goal

pub returns-clause-found : goal.returns-clause-found
returns-clause-found c = subst (λ (fs : Faces). c.fingerprint.result ≡ first_print fs c.args.name.now) (seen_all 0 c.self.inside.faces ∙ c.self.view_is) c.fingerprint.ensures.found

pub returns-clause-formed : goal.returns-clause-formed
returns-clause-formed c = subst AreFormed c.self.view_is c.fingerprint.ensures.formed
