use Rattle.std.proofs.Common.{◌≡◌, Option, IfOk, sym, subst}
use Rattle.mk_base.specs.declared.fingerprint.Fingerprint.{Fingerprint}
use Rattle.own_env.proofs.Behind.{print_behind}
use Rattle.own_env.proofs.own_env.OwnEnvEnv.fingerprint.Goals as goal

pub returns-clause-found : goal.returns-clause-found
returns-clause-found g c = subst (λ (o : Option Fingerprint). IfOk c.fingerprint.result (λ p. p ≡ o)) (sym (print_behind c.args.name.now (g.E.Env.faces c.args.self.now.outer.now) c.args.self.now.own.now)) c.fingerprint.ensures.found
