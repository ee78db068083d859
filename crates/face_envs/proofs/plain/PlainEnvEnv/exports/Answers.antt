use Rattle.std.proofs.Common.{◌≡◌, ◌∙◌, IfOk, subst}
use Rattle.face_model.specs.Environments.{AreFormed, Faces, exports_of}
use Rattle.face_envs.proofs.Asked.{seen_all}
use Rattle.face_envs.proofs.plain.PlainEnvEnv.exports.Goals as goal

pub returns-clause-found : goal.returns-clause-found
returns-clause-found c = subst (λ (fs : Faces). IfOk c.exports.result (λ es. es ≡ exports_of fs c.args.module.now)) (seen_all 0 c.self.inside.faces ∙ c.self.view_is) c.exports.ensures.found

pub returns-clause-formed : goal.returns-clause-formed
returns-clause-formed c = subst AreFormed c.self.view_is c.exports.ensures.formed
