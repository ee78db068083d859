use Rattle.std.proofs.Common.{List, sym, subst, refl}
use Rattle.std.specs.List.{Contains}
use Rattle.std.proofs.lemmas.List.{take_all}
use Rattle.class_env.specs.declared.given.Held.{Held}
use Rattle.class_env.proofs.Entailed.{not_true}
use Rattle.class_env.proofs.given.is_known.Goals as goal

pub returns-then-gives : goal.returns-then-gives
returns-then-gives c = ((λ h. (c.one-item.result, (c.loop-one.one-index, c.loop-one-test.true, sym c.one-item.is), c.gives.ensures.0 c.if-gives.true)), (λ h. refl))

pub returns : goal.returns
returns c = (
  (λ h. not_true h),
  (λ k. absurd (c.loop-one.invariant k.0 (subst (λ (l : List Held). Contains l k.0) (sym (take_all c.loop-one.one-index c.args.held.now c.loop-one-test.false)) k.1) k.2)),
)
