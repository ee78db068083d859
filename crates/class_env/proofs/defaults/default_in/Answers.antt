use Rattle.std.proofs.Common.{◌∙◌, inl, sym, subst}
use Rattle.face_model.specs.Environments.{Faces, insts_of}
use Rattle.class_env.specs.Supers.{supers_of}
use Rattle.class_env.specs.Defaults.{Fits}
use Rattle.class_env.proofs.Entailed.{not_true}
use Rattle.class_env.proofs.Defaulting.{first_fits, second_fits, none_fits}
use Rattle.class_env.proofs.defaults.default_in.Goals as goal

pub returns-then-not-branch-clause-exact : goal.returns-then-not-branch-clause-exact
returns-then-not-branch-clause-exact g c = inl (λ d. not_true (sym c.if-not-branch.true ∙ c.in_ok-is_defaultable.ensures.exact.1 d))

pub returns-then-branch-clause-exact : goal.returns-then-branch-clause-exact
returns-then-branch-clause-exact g c =
    let now = g.E.Env.faces c.args.env.now in
    first_fits (supers_of now) (insts_of now) c.args.var c.args.wanted.now c.in_ok-first.first (c.in_ok-is_defaultable.ensures.exact.0 c.if-not-branch.false) c.in_ok-first.ensures
    (subst (λ (fs : Faces). Fits (insts_of fs) c.args.var c.args.wanted.now c.in_ok-first.first) c.is_defaultable.ensures.same (c.in_ok-fits.ensures.exact.0 c.if-branch.true))

pub returns-then-branch-2-clause-exact : goal.returns-then-branch-2-clause-exact
returns-then-branch-2-clause-exact g c =
    let now = g.E.Env.faces c.args.env.now in
    let once = c.is_defaultable.ensures.same in
    second_fits (supers_of now) (insts_of now) c.args.var c.args.wanted.now c.in_ok-first.first c.in_ok-second.second (c.in_ok-is_defaultable.ensures.exact.0 c.if-not-branch.false) c.in_ok-first.ensures
    (λ f. not_true (sym c.if-branch.false ∙ c.in_ok-fits.ensures.exact.1 (subst (λ (fs : Faces). Fits (insts_of fs) c.args.var c.args.wanted.now c.in_ok-first.first) (sym once) f)))
    c.in_ok-second.ensures
    (subst (λ (fs : Faces). Fits (insts_of fs) c.args.var c.args.wanted.now c.in_ok-second.second) (c.fits.ensures.same ∙ once) (c.in_ok-fits-2.ensures.exact.0 c.if-branch-2.true))

pub returns-clause-exact : goal.returns-clause-exact
returns-clause-exact g c =
    let now = g.E.Env.faces c.args.env.now in
    let once = c.is_defaultable.ensures.same in
    none_fits (supers_of now) (insts_of now) c.args.var c.args.wanted.now c.in_ok-first.first c.in_ok-second.second c.in_ok-first.ensures
    (λ f. not_true (sym c.if-branch.false ∙ c.in_ok-fits.ensures.exact.1 (subst (λ (fs : Faces). Fits (insts_of fs) c.args.var c.args.wanted.now c.in_ok-first.first) (sym once) f)))
    c.in_ok-second.ensures
    (λ f. not_true (sym c.if-branch-2.false ∙ c.in_ok-fits-2.ensures.exact.1 (subst (λ (fs : Faces). Fits (insts_of fs) c.args.var c.args.wanted.now c.in_ok-second.second) (sym (c.fits.ensures.same ∙ once)) f)))
