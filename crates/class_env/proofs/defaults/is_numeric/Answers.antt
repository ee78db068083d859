use Rattle.class_env.proofs.defaults.is_numeric.Goals as goal

pub returns-clause-exact : goal.returns-clause-exact
returns-clause-exact g c =
    let by = c.in_ok-names.ensures.exact c.args.number.now in
    ((λ h. (c.is_on.ensures.0 c.if-not-is_on.false, by.0 (c.has_name.ensures.0 h))), (λ p. c.has_name.ensures.1 (by.1 p.1)))
