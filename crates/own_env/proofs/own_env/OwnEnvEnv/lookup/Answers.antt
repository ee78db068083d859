use Rattle.std.proofs.Common.{◌≡◌, ◌∙◌, Option, IfOk, ap, sym, subst}
use Rattle.std.specs.Option.{option_or}
use Rattle.mk_base.specs.declared.name.Name.{Name}
use Rattle.face_model.specs.declared.decl.Decl.{Decl}
use Rattle.face_model.specs.declared.face.Face.{Face}
use Rattle.face_model.specs.Environments.{Faces, first_decl}
use Rattle.own_env.specs.Own.{decl_of, with_own}
use Rattle.own_env.proofs.Behind.{decl_behind}
use Rattle.own_env.proofs.own_env.OwnEnvEnv.lookup.Goals as goal

pub returns-in-Some-clause-found : goal.returns-in-Some-clause-found
returns-in-Some-clause-found g c =
    let fs : Faces = g.E.Env.faces c.args.self.now.outer.now in
    let f : Face = c.args.self.now.own.now in
    let n : Name = c.args.name.now in
    ap (λ (o : Option Decl). option_or o (decl_of n f.decls)) (sym c.in-Some.is ∙ c.in_ok-decl.ensures.found) ∙ sym (decl_behind n fs f)

pub returns-in-None-clause-found : goal.returns-in-None-clause-found
returns-in-None-clause-found g c =
    let fs : Faces = g.E.Env.faces c.args.self.now.outer.now in
    let f : Face = c.args.self.now.own.now in
    let n : Name = c.args.name.now in
    let e : decl_of n f.decls ≡ first_decl (with_own fs f) n = ap (λ (o : Option Decl). option_or o (decl_of n f.decls)) (sym c.in-None.is ∙ c.in_ok-decl.ensures.found) ∙ sym (decl_behind n fs f) in
    subst (λ (o : Option Decl). IfOk c.decl.result (λ d. d ≡ o)) e c.decl.ensures
