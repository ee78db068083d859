use Rattle.std.proofs.Common.{◌∙◌, List, take, sym, subst, refl}
use Rattle.std.specs.List.{Contains}
use Rattle.std.proofs.lemmas.List.{take_all}
use Rattle.mk_base.specs.declared.name.Name.{Name}
use Rattle.face_model.specs.declared.scheme.Constraint.{Constraint}
use Rattle.face_model.specs.Environments.{Faces}
use Rattle.class_env.specs.Supers.{supers_of, Gives}
use Rattle.class_env.specs.Defaults.{IsOn, numeric}
use Rattle.class_env.proofs.Sweeping.{take_next}
use Rattle.class_env.proofs.Entailed.{not_true}
use Rattle.class_env.proofs.Defaulting.{all_next}
use Rattle.class_env.proofs.defaults.has_numeric.Goals as goal

pub returns-then-branch-clause-exact : goal.returns-then-branch-clause-exact
returns-then-branch-clause-exact g c =
    let two = c.in_ok-is_numeric.ensures.exact.0 c.if-branch.true in
    let item = c.w-item.result in (
      (λ h. (
        item,
        (c.loop-w.w-index, c.loop-w-test.true, sym c.w-item.is),
        two.0,
        subst (λ (fs : Faces). Gives (supers_of fs) item.class numeric) c.loop-w.invariant.same (subst (λ (n : Name). Gives (supers_of (g.E.Env.faces c.loop-w.env)) item.class n) c.in_ok-number.ensures two.1),
      )),
      (λ h. refl),
    )

pub loop-w-preserved : goal.loop-w-preserved
loop-w-preserved g c =
    let supers = supers_of (g.E.Env.faces c.args.env.now) in
    let item = c.w-item.result in
    let front = take_next c.args.wanted.now c.loop-w.w-index item item c.loop-w-test.true (sym c.w-item.is) in
    record {
      same = c.is_numeric.ensures.same ∙ c.loop-w.invariant.same;
      none = λ w q. all_next (λ (x : Constraint). (IsOn c.args.var x × Gives supers x.class c.in_ok-number.number) → ⊥) (take c.loop-w.w-index c.args.wanted.now) item c.loop-w.invariant.none
          (λ p. not_true (sym c.if-branch.false ∙ c.in_ok-is_numeric.ensures.exact.1 (p.0, subst (λ (fs : Faces). Gives (supers_of fs) item.class c.in_ok-number.number) (sym c.loop-w.invariant.same) p.1)))
          w (subst (λ (l : List Constraint). Contains l w) front q);
    }

pub returns-clause-exact : goal.returns-clause-exact
returns-clause-exact g c =
    let supers = supers_of (g.E.Env.faces c.args.env.now) in (
      (λ h. not_true h),
      (λ k. absurd (c.loop-w.invariant.none k.0 (subst (λ (l : List Constraint). Contains l k.0) (sym (take_all c.loop-w.w-index c.args.wanted.now c.loop-w-test.false)) k.1)
          (k.2, subst (λ (n : Name). Gives supers k.0.class n) (sym c.in_ok-number.ensures) k.3))),
    )
