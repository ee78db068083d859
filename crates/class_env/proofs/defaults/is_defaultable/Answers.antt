use Rattle.class_env.specs.Supers.{supers_of}
use Rattle.class_env.specs.Defaults.{PermitsAll, HasNumeric}
use Rattle.class_env.proofs.Defaulting.{ok_both}
use Rattle.class_env.proofs.defaults.is_defaultable.Goals as goal

pub returns-clause-exact : goal.returns-clause-exact
returns-clause-exact g c =
    ok_both c.has_numeric.result (PermitsAll c.args.var c.args.wanted.now) (HasNumeric (supers_of (g.E.Env.faces c.args.env.now)) c.args.var c.args.wanted.now)
    (c.all_permit.ensures.0 c.if-not-all_permit.false) c.has_numeric.ensures.exact
