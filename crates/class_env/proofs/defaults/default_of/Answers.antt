use Rattle.std.proofs.Common.{IfOk, List, subst}
use Rattle.face_model.specs.declared.scheme.Constraint.{Constraint}
use Rattle.face_model.specs.Environments.{insts_of}
use Rattle.class_env.specs.Supers.{supers_of}
use Rattle.class_env.specs.Defaults.{IsDefault}
use Rattle.class_env.proofs.defaults.default_of.Goals as goal

pub returns-clause-exact : goal.returns-clause-exact
returns-clause-exact g c =
    let now = g.E.Env.faces c.args.env.now in
    subst (λ (ws : List Constraint). IfOk c.default_in.result (IsDefault (supers_of now) (insts_of now) c.args.var ws)) c.as_slice.ensures c.default_in.ensures.exact
