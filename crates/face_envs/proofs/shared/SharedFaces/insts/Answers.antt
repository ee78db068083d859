use Rattle.std.proofs.Common.{◌≡◌, ◌∙◌, ℕ, Bool, List, [], IfOk, ap, sym, subst}
use Rattle.std.specs.Prelude.{filter, flat_map}
use Rattle.std.specs.Option.{option_copied, option_to_list}
use Rattle.mk_base.specs.declared.name.Name.{Name}
use Rattle.face_model.specs.declared.inst.Inst.{Inst}
use Rattle.face_model.specs.Environments.{Faces, insts_of}
use Rattle.face_envs.specs.declared.tables.InstPlace.{InstPlace}
use Rattle.face_envs.specs.Sight.{sees}
use Rattle.face_envs.specs.Tables.{row_of, seen_from}
use Rattle.face_envs.proofs.Instances.{found_at, insts_found}
use Rattle.face_envs.proofs.shared.SharedFaces.insts.Goals as goal

pub returns-in-None-clause-found : goal.returns-in-None-clause-found
returns-in-None-clause-found c =
    let fs : Faces = c.self.inside.kept in
    let p : ℕ → Bool = sees c.args.seen in
    let e : [] ≡ insts_of (seen_from p 0 fs) c.args.class.now c.args.head.now = insts_found c.args.class.now c.args.head.now fs p [] (c.in-None.ensures ∙ c.self.invariant.of_insts c.args.class.now c.args.head.now) in
    subst (λ (gs : Faces). c.new.result ≡ insts_of (seen_from p 0 gs) c.args.class.now c.args.head.now) c.self.view_is (c.new.ensures ∙ e)

pub returns-in-Some-clause-found : goal.returns-in-Some-clause-found
returns-in-Some-clause-found c =
    let fs : Faces = c.self.inside.kept in
    let p : ℕ → Bool = sees c.args.seen in
    let row : List InstPlace = c.in-Some.row.now.items in
    let e : flat_map (found_at c.args.class.now c.args.head.now fs p) (filter (λ b. p b.face) row) ≡ insts_of (seen_from p 0 fs) c.args.class.now c.args.head.now = insts_found c.args.class.now c.args.head.now fs p row (c.in-Some.ensures ∙ c.self.invariant.of_insts c.args.class.now c.args.head.now) in
    let whole : flat_map (found_at c.args.class.now c.args.head.now fs p) (filter (λ b. p b.face) c.as_slice.result.now) ≡ insts_of (seen_from p 0 fs) c.args.class.now c.args.head.now =
    ap (λ xs. flat_map (found_at c.args.class.now c.args.head.now fs p) (filter (λ b. p b.face) xs)) c.as_slice.ensures.value ∙ e in
    subst (λ (gs : Faces). IfOk c.insts_at.result (λ is. is ≡ insts_of (seen_from p 0 gs) c.args.class.now c.args.head.now)) c.self.view_is
    (subst (λ (xs : List Inst). IfOk c.insts_at.result (λ is. is ≡ xs)) whole c.insts_at.ensures)
