use Rattle.std.proofs.Common.{◌↔◌, ◌∙◌, List, sym, subst, refl}
use Rattle.std.specs.List.{Contains}
use Rattle.std.proofs.lemmas.List.{take_all}
use Rattle.face_model.specs.declared.scheme.Constraint.{Constraint}
use Rattle.face_model.specs.Environments.{Faces}
use Rattle.class_env.specs.Supers.{supers_of, Gives}
use Rattle.class_env.specs.Entails.{Known, KnownIn}
use Rattle.class_env.proofs.Entailed.{known_pushed}
use Rattle.class_env.proofs.given.held_of.Goals as goal

pub loop-one-preserved : goal.loop-one-preserved
loop-one-preserved g c = record {
  same = c.in_ok-names.ensures.same ∙ c.loop-one.invariant.same;
  on = known_pushed (supers_of (g.E.Env.faces c.args.env.now)) c.loop-one.held.items c.push.new.self.items _ c.args.given.now c.loop-one.one-index c.one-item.result
      c.in_ok-push.ensures.items c.loop-one-test.true (sym c.one-item.is) refl
      (λ n. subst (λ (fs : Faces). Contains c.in_ok-names.names.keys n ↔ Gives (supers_of fs) c.one-item.result.class n) c.loop-one.invariant.same (c.in_ok-names.ensures.exact n))
      c.loop-one.invariant.on;
}

pub returns-clause-known : goal.returns-clause-known
returns-clause-known g c = λ n t.
    subst (λ (ws : List Constraint). KnownIn c.loop-one.held.items n t ↔ Known (supers_of (g.E.Env.faces c.args.env.now)) ws n t) (take_all c.loop-one.one-index c.args.given.now c.loop-one-test.false) (c.loop-one.invariant.on n t)
