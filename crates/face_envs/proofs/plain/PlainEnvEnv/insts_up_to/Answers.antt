use Rattle.std.proofs.Common.{◌≡◌, ◌∙◌, subst}
use Rattle.face_model.specs.Environments.{AreFormed, Faces, insts_up_to}
use Rattle.face_envs.proofs.Asked.{seen_all}
use Rattle.face_envs.proofs.plain.PlainEnvEnv.insts_up_to.Goals as goal

pub returns-clause-found : goal.returns-clause-found
returns-clause-found c = subst (λ (fs : Faces). c.insts_up_to.result ≡ insts_up_to fs c.args.class.now c.args.head.now c.args.module.now) (seen_all 0 c.self.inside.faces ∙ c.self.view_is) c.insts_up_to.ensures.found

pub returns-clause-formed : goal.returns-clause-formed
returns-clause-formed c = subst AreFormed c.self.view_is c.insts_up_to.ensures.formed
