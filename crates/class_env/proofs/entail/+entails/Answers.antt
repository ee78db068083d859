use Rattle.std.proofs.Common.{◌↔◌, ◌∙◌, IsTrue, IfOk, List, length, sym, subst, refl}
use Rattle.face_model.specs.declared.scheme.Constraint.{Constraint}
use Rattle.face_model.specs.Environments.{Faces, insts_of}
use Rattle.class_env.specs.Terms.{term_of}
use Rattle.class_env.specs.Spine.{arguments}
use Rattle.class_env.specs.Instances.{Only, only_of}
use Rattle.class_env.specs.Entails.{KnownIn, by_given, ByOnly, Holds}
use Rattle.class_env.proofs.Entailed.{not_true, exact_variable, exact_constructor}
use Rattle.class_env.proofs.entail.+entails.Goals as goal

pub entails_by-returns-in-One-clause-exact : goal.entails_by-returns-in-One-clause-exact
entails_by-returns-in-One-clause-exact g t c =
    let known = KnownIn c.args.held.now in
    let now = insts_of (g.E.Env.faces c.args.env.now) in
    let ty = term_of c.args.t.now in
    subst (λ (o : Only). IfOk c.entails_context.result (λ b. IsTrue b ↔ ByOnly known now o ty)) c.in-One.ensures
    (subst (λ (ks : List Constraint). IfOk c.entails_context.result (λ b. IsTrue b ↔ Holds known now ks ty)) c.as_slice.ensures c.entails_context.ensures.exact)

pub entails_one-returns-then-is_known-clause-exact : goal.entails_one-returns-then-is_known-clause-exact
entails_one-returns-then-is_known-clause-exact g t c = ((λ h. by_given (c.is_known.ensures.0 c.if-is_known.true)), (λ h. refl))

pub entails_one-returns-in-Variable-clause-exact : goal.entails_one-returns-in-Variable-clause-exact
entails_one-returns-in-Variable-clause-exact g t c =
    exact_variable (KnownIn c.args.held.now) (insts_of (g.E.Env.faces c.args.env.now)) c.args.class.now (term_of c.args.t.now) c.in-Variable.field-0
    (λ k. not_true (sym c.if-is_known.false ∙ c.is_known.ensures.1 k)) c.in-Variable.ensures

pub entails_one-returns-in_ok-follows-in-Constructor-clause-exact : goal.entails_one-returns-in_ok-follows-in-Constructor-clause-exact
entails_one-returns-in_ok-follows-in-Constructor-clause-exact g t c =
    let known = KnownIn c.args.held.now in
    let ty = term_of c.args.t.now in
    let is = c.as_slice.result.now in
    let b = c.in_ok-follows-in-Constructor.follows in
    exact_constructor known (insts_of (g.E.Env.faces c.args.env.now)) c.args.class.now c.in-Constructor.head.now ty is b
    (λ k. not_true (sym c.if-is_known.false ∙ c.is_known.ensures.1 k)) c.in-Constructor.ensures (c.as_slice.ensures ∙ c.in_ok-members-in-Constructor.ensures.found)
    (subst (λ (fs : Faces). IsTrue b ↔ ByOnly known (insts_of fs) (only_of is (length (arguments ty))) ty) c.insts.ensures.same c.in_ok-follows-in-Constructor.ensures.exact)
