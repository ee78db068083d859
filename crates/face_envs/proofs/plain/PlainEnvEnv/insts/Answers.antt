use Rattle.std.proofs.Common.{◌≡◌, ◌∙◌, IfOk, subst}
use Rattle.face_model.specs.Environments.{AreFormed, Faces, insts_of}
use Rattle.face_envs.proofs.Asked.{seen_all}
use Rattle.face_envs.proofs.plain.PlainEnvEnv.insts.Goals as goal

pub returns-clause-found : goal.returns-clause-found
returns-clause-found c = subst (λ (fs : Faces). IfOk c.insts.result (λ is. is ≡ insts_of fs c.args.class.now c.args.head.now)) (seen_all 0 c.self.inside.faces ∙ c.self.view_is) c.insts.ensures.found

pub returns-clause-formed : goal.returns-clause-formed
returns-clause-formed c = subst AreFormed c.self.view_is c.insts.ensures.formed
