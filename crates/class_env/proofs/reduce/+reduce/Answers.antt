use Rattle.std.proofs.Common.{◌≡◌, ◌∙◌, sym, ap, subst, None, IfOk, length}
use Rattle.mk_base.specs.declared.name.Name.{Name}
use Rattle.face_model.specs.Environments.{Faces, insts_of}
use Rattle.class_env.specs.Terms.{term_of}
use Rattle.class_env.specs.Spine.{arguments}
use Rattle.class_env.specs.Instances.{then, Outcome, only_of}
use Rattle.class_env.specs.Reduce.{given, so_far, by_instance, pair}
use Rattle.class_env.proofs.Outcomes.{on_applied, on_plain_pushed, on_one, at_con}
use Rattle.class_env.proofs.reduce.+reduce.Goals as goal

pub reduce_by-returns-in-One-clause-outcome : goal.reduce_by-returns-in-One-clause-outcome
reduce_by-returns-in-One-clause-outcome g t c =
    subst (λ (o : Outcome). IfOk c.reduce_context.result (λ f. so_far c.reduce_context.new.out f ≡ o))
    (on_one c.args.out.now.rest c.args.out.now.met c.push.new.self c.args.pair c.in_ok-copy.field-0 (only_of c.args.members.now (length (arguments (term_of c.args.t.now)))) c.in-One.instance.now c.as_slice.result.now (given (insts_of (g.E.Env.faces c.args.env.now)) (term_of c.args.t.now))
    c.in_ok-push.ensures.ok c.in_ok-copy.ensures c.in-One.ensures c.as_slice.ensures)
    c.reduce_context.ensures.outcome

pub reduce_one-returns-then-has_arguments-clause-outcome : goal.reduce_one-returns-then-has_arguments-clause-outcome
reduce_one-returns-then-has_arguments-clause-outcome g t c =
    on_applied (insts_of (g.E.Env.faces c.args.env.now)) (term_of c.args.t.now) c.args.class.now c.in-Variable.n c.args.out.now.rest c.args.out.now.met (sym c.in-Variable.ensures) (c.has_arguments.ensures.0 c.if-has_arguments.true)

pub reduce_one-returns-in_ok-push-in-Variable-clause-outcome : goal.reduce_one-returns-in_ok-push-in-Variable-clause-outcome
reduce_one-returns-in_ok-push-in-Variable-clause-outcome g t c =
    on_plain_pushed (insts_of (g.E.Env.faces c.args.env.now)) (term_of c.args.t.now) c.args.class.now c.in-Variable.n c.args.out.now.rest c.push.new.self c.args.out.now.met c.in_ok-class-in-Variable.class
    (sym c.in-Variable.ensures) (λ h. let k = c.has_arguments.ensures.1 h in let f = c.if-has_arguments.false in cc) c.in_ok-class-in-Variable.ensures c.in_ok-push-in-Variable.ensures.ok

pub reduce_one-returns-in_ok-head-in-Constructor-clause-outcome : goal.reduce_one-returns-in_ok-head-in-Constructor-clause-outcome
reduce_one-returns-in_ok-head-in-Constructor-clause-outcome g t c =
    let now = insts_of (g.E.Env.faces c.args.env.now) in
    let ty = term_of c.args.t.now in
    let before = so_far c.args.out.now None in
    let found = only_of c.as_slice.result.now (length (arguments ty)) in
    let after = subst (λ (fs : Faces). IfOk c.reduce_by.result (λ f. so_far c.reduce_by.new.out f ≡ then before (by_instance found (pair c.in_ok-class-in-Constructor.class c.in_ok-head-in-Constructor.head) (given (insts_of fs) ty)))) c.insts.ensures.same c.reduce_by.ensures.outcome in
    let named : then before (by_instance found (pair c.in_ok-class-in-Constructor.class c.in_ok-head-in-Constructor.head) (given now ty)) ≡ then before (by_instance found (pair c.args.class.now c.in-Constructor.head.now) (given now ty)) =
    ap (λ (x : Name). then before (by_instance found (pair x c.in_ok-head-in-Constructor.head) (given now ty))) c.in_ok-class-in-Constructor.ensures
    ∙ ap (λ (x : Name). then before (by_instance found (pair c.args.class.now x) (given now ty))) c.in_ok-head-in-Constructor.ensures in
    subst (λ (o : Outcome). IfOk c.reduce_by.result (λ f. so_far c.reduce_by.new.out f ≡ o))
    (named ∙ at_con now ty c.args.class.now c.in-Constructor.head.now c.as_slice.result.now before (sym c.in-Constructor.ensures) (c.as_slice.ensures ∙ c.in_ok-members-in-Constructor.ensures.found)) after
