use Rattle.std.proofs.Common.{◌≡◌, ◌∙◌, IfOk, subst}
use Rattle.face_model.specs.Environments.{AreFormed, Faces, first_decl}
use Rattle.face_envs.proofs.Asked.{seen_all}
use Rattle.face_envs.proofs.plain.PlainEnvEnv.lookup.Goals as goal

pub returns-clause-found : goal.returns-clause-found
returns-clause-found c = subst (λ (fs : Faces). IfOk c.lookup.result (λ d. d ≡ first_decl fs c.args.name.now)) (seen_all 0 c.self.inside.faces ∙ c.self.view_is) c.lookup.ensures.found

pub returns-clause-formed : goal.returns-clause-formed
returns-clause-formed c = subst AreFormed c.self.view_is c.lookup.ensures.formed
