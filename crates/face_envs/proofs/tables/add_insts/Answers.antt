use Rattle.std.proofs.Common.{◌≡◌, ◌∙◌, ◌+◌, ℕ, suc, List, ◌∷◌, ap, cond, drop, drop-cons, get_or, sym, subst, arith}
use Rattle.indexmap.specs.IndexMap.{get}
use Rattle.mk_base.specs.declared.name.ModName.{ModName}
use Rattle.face_model.specs.declared.inst.Inst.{Inst}
use Rattle.face_model.specs.Environments.{same_name, is_inst}
use Rattle.face_envs.specs.declared.tables.InstPlace.{InstPlace}
use Rattle.face_envs.specs.Tables.{inst_row, insts_from, module_at, put_all, put_behind}
use Rattle.face_envs.proofs.Adding.{put_next}
use Rattle.face_envs.proofs.tables.add_insts.Goals as goal

pub loop-place-preserved : goal.loop-place-preserved
loop-place-preserved c = λ n h.
    let xs : List Inst = c.args.insts.now in
    let i : ℕ = c.loop-place.place in
    let x : Inst = c.index-insts-place.result in
    let f : ℕ = c.args.face in
    let m : ModName = c.args.module.now in
    let row : List InstPlace = inst_row (get same_name c.loop-place.table n) h in
    let more : List InstPlace = insts_from n h m f (i + 1) (drop (i + 1) xs) in
    let at : ModName → InstPlace = λ k. record { «module» = k; face = f; place = i } in
    let e : suc i ≡ i + 1 = omega arith in
    let rest : drop i xs ≡ x ∷ drop (i + 1) xs =
    subst (λ (y : Inst). drop i xs ≡ y ∷ drop (i + 1) xs) (sym c.index-insts-place.is) (subst (λ j. drop i xs ≡ get_or xs i x ∷ drop j xs) e (drop-cons xs i x c.loop-place-test.true)) in
    ap (put_all module_at more) (c.in_ok-add_inst.ensures n h)
    ∙ (ap (λ k. put_all module_at more (cond (is_inst n h x) (put_behind module_at (at k) row) row)) c.in_ok-module.ensures
    ∙ (sym (put_next (is_inst n h x) (at m) more row)
    ∙ (ap (λ ys. put_all module_at (insts_from n h m f i ys) row) (sym rest)
    ∙ c.loop-place.invariant n h)))
