use Rattle.std.proofs.Common.{◌≡◌, ◌≤◌, ◌∙◌, ◌++◌, ℕ, List, IfOk, length, take, drop, ap, sym, subst}
use Rattle.mk_base.specs.declared.name.Name.{Name}
use Rattle.face_model.specs.declared.face.Face.{Face}
use Rattle.face_model.specs.declared.inst.Inst.{Inst}
use Rattle.face_model.specs.Environments.{Faces, insts_in, insts_of, insts_up_to}
use Rattle.own_env.specs.Own.{known, with_own}
use Rattle.own_env.proofs.Behind.{insts_behind, up_to_within}
use Rattle.own_env.proofs.own_env.OwnEnvEnv.insts.Goals as goal

pub put_between-requires : goal.put_between-requires
put_between-requires g c =
    let fs : Faces = g.E.Env.faces c.args.self.now.outer.now in
    let f : Face = c.args.self.now.own.now in
    let n : Name = c.args.class.now in
    let h : Name = c.args.head.now in
    let front : c.in_ok-front.front ≡ insts_up_to fs n h f.node.module = c.in_ok-front.ensures.found ∙ ap (λ (o : Face). insts_up_to fs n h o.node.module) c.face-own.ensures.face in
    let others : c.in_ok-others.others ≡ insts_of fs n h = c.in_ok-others.ensures.found ∙ ap (λ (gs : Faces). insts_of gs n h) c.in_ok-front.ensures.same in
    subst (λ (k : ℕ). k ≤ length c.in_ok-others.others) (sym front) (subst (λ (is : List Inst). insts_up_to fs n h f.node.module ≤ length is) (sym others) (up_to_within n h fs (known f)))

pub returns-clause-found : goal.returns-clause-found
returns-clause-found g c =
    let fs : Faces = g.E.Env.faces c.args.self.now.outer.now in
    let f : Face = c.args.self.now.own.now in
    let n : Name = c.args.class.now in
    let h : Name = c.args.head.now in
    let front : c.in_ok-front.front ≡ insts_up_to fs n h f.node.module = c.in_ok-front.ensures.found ∙ ap (λ (o : Face). insts_up_to fs n h o.node.module) c.face-own.ensures.face in
    let others : c.in_ok-others.others ≡ insts_of fs n h = c.in_ok-others.ensures.found ∙ ap (λ (gs : Faces). insts_of gs n h) c.in_ok-front.ensures.same in
    let e : (take c.in_ok-front.front c.in_ok-others.others ++ insts_in n h (known f)) ++ drop c.in_ok-front.front c.in_ok-others.others ≡ insts_of (with_own fs f) n h = (λ i. (take (front i) (others i) ++ insts_in n h (known f)) ++ drop (front i) (others i)) ∙ sym (insts_behind n h fs (known f)) in
    subst (λ (xs : List Inst). IfOk c.put_between.result (λ is. is ≡ xs)) e c.put_between.ensures
