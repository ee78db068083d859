use Rattle.std.proofs.Common.{◌≡◌, ◌∙◌, subst, ◌<◌, ◌≤◌, length, arith}
use Rattle.face_model.specs.Environments.{Faces}
use Rattle.class_env.specs.Supers.{supers_of, GrownAt}
use Rattle.class_env.proofs.Sweeping.{universe, swept_step, swept_end, few}
use Rattle.class_env.proofs.supers.above.Goals as goal

pub loop-done-smaller : goal.loop-done-smaller
loop-done-smaller g c =
    let most : length c.loop-done.found.keys ≤ length (universe (g.E.Env.faces c.args.env.now) c.args.class.now) = few (g.E.Env.faces c.args.env.now) c.args.class.now c.loop-done.found.keys c.loop-done.done c.loop-done.invariant.swept c.len.ensures.unique in
    let len : c.len.result ≡ length c.loop-done.found.keys = c.len.ensures.len in
    let less : c.loop-done.done < c.len.result = c.loop-done-test.true in
    omega arith

pub loop-done-preserved : goal.loop-done-preserved
loop-done-preserved g c = record {
  same = c.in_ok-put_supers.ensures.same ∙ c.loop-done.invariant.same;
  swept = swept_step (supers_of (g.E.Env.faces c.args.env.now)) c.args.class.now c.loop-done.found.keys c.loop-done.done c.put_supers.new.found.keys c.loop-done.invariant.swept
      (let len : c.len.result ≡ length c.loop-done.found.keys = c.len.ensures.len in let less : c.loop-done.done < c.len.result = c.loop-done-test.true in omega arith)
      (subst (λ (fs : Faces). GrownAt (supers_of fs) c.loop-done.found.keys c.loop-done.done c.put_supers.new.found.keys) c.loop-done.invariant.same c.in_ok-put_supers.ensures.grown);
}

pub returns-clause-exact : goal.returns-clause-exact
returns-clause-exact g c =
    swept_end (supers_of (g.E.Env.faces c.args.env.now)) c.args.class.now c.loop-done.found.keys c.loop-done.done c.loop-done.invariant.swept
    (let len : c.len.result ≡ length c.loop-done.found.keys = c.len.ensures.len in let end = c.loop-done-test.false in omega arith)
