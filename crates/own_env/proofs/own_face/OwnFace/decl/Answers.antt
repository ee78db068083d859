use Rattle.std.proofs.Common.{◌≡◌, ◌∙◌, ℕ, List, None, Option, IfOk, ap, sym, subst}
use Rattle.std.specs.Prelude.{slice_get}
use Rattle.std.specs.Option.{option_and_then}
use Rattle.mk_base.specs.declared.name.Name.{Name}
use Rattle.face_model.specs.declared.decl.Decl.{Decl}
use Rattle.face_model.specs.declared.face.Face.{Face}
use Rattle.own_env.specs.Own.{decl_of}
use Rattle.own_env.proofs.OwnRows.{at_place, first_is}
use Rattle.own_env.proofs.own_face.OwnFace.decl.Goals as goal

pub returns-in-None : goal.returns-in-None
returns-in-None c =
    let n : Name = c.args.name.now in
    let ds : List Decl = c.self.inside.shown.now.decls in
    let e : option_and_then (at_place n ds) c.first_place.result ≡ decl_of n ds = ap (option_and_then (at_place n ds)) (c.first_place.ensures ∙ ap (λ (row : List (ℕ × ℕ)). slice_get row 0) (c.self.invariant.of_decls n)) ∙ first_is n ds in
    subst (λ (f : Face). None ≡ decl_of n f.decls) c.self.view_is (sym (ap (option_and_then (at_place n ds)) c.in-None.is) ∙ e)

pub returns-in-Some : goal.returns-in-Some
returns-in-Some c =
    let n : Name = c.args.name.now in
    let ds : List Decl = c.self.inside.shown.now.decls in
    let e : option_and_then (at_place n ds) c.first_place.result ≡ decl_of n ds = ap (option_and_then (at_place n ds)) (c.first_place.ensures ∙ ap (λ (row : List (ℕ × ℕ)). slice_get row 0) (c.self.invariant.of_decls n)) ∙ first_is n ds in
    let whole : slice_get ds c.in-Some.at.1 ≡ decl_of n ds = sym (ap (option_and_then (at_place n ds)) c.in-Some.is) ∙ e in
    subst (λ (f : Face). IfOk c.copied.result (λ d. d ≡ decl_of n f.decls)) c.self.view_is
    (subst (λ (o : Option Decl). IfOk c.copied.result (λ d. d ≡ o)) whole c.copied.ensures)
