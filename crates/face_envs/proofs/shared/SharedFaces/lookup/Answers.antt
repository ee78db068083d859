use Rattle.std.proofs.Common.{◌≡◌, ◌∙◌, ℕ, Bool, None, Option, IfOk, ap, sym, subst}
use Rattle.std.specs.Option.{option_and_then, option_copied}
use Rattle.mk_base.specs.declared.name.Name.{Name}
use Rattle.face_model.specs.declared.decl.Decl.{Decl}
use Rattle.face_model.specs.Environments.{Faces, decl_in, first_decl, first_entry}
use Rattle.face_envs.specs.Sight.{sees}
use Rattle.face_envs.specs.Tables.{entry_at, seen_from}
use Rattle.face_envs.proofs.Lookups.{entry_found}
use Rattle.face_envs.proofs.shared.SharedFaces.lookup.Goals as goal

pub returns-in-None-clause-found : goal.returns-in-None-clause-found
returns-in-None-clause-found c =
    let fs : Faces = c.self.inside.kept in
    let n : Name = c.args.name.now in
    let p : ℕ → Bool = sees c.args.seen in
    let e : option_and_then (entry_at fs) c.decl_place.result ≡ first_entry (seen_from p 0 fs) n = entry_found fs p n _ c.decl_place.result c.decl_place.ensures (c.self.invariant.of_decls n) in
    subst (λ (gs : Faces). None ≡ first_decl (seen_from p 0 gs) n) c.self.view_is
    (sym (ap (λ o. decl_in (option_and_then (entry_at fs) o)) c.in-None.is) ∙ ap decl_in e)

pub returns-in-Some-clause-found : goal.returns-in-Some-clause-found
returns-in-Some-clause-found c =
    let fs : Faces = c.self.inside.kept in
    let n : Name = c.args.name.now in
    let p : ℕ → Bool = sees c.args.seen in
    let e : option_and_then (entry_at fs) c.decl_place.result ≡ first_entry (seen_from p 0 fs) n = entry_found fs p n _ c.decl_place.result c.decl_place.ensures (c.self.invariant.of_decls n) in
    let whole : option_copied c.decl_at.result ≡ first_decl (seen_from p 0 fs) n = c.decl_at.ensures ∙ (sym (ap (λ o. decl_in (option_and_then (entry_at fs) o)) c.in-Some.is) ∙ ap decl_in e) in
    subst (λ (gs : Faces). IfOk c.copied_decl.result (λ d. d ≡ first_decl (seen_from p 0 gs) n)) c.self.view_is
    (subst (λ (o : Option Decl). IfOk c.copied_decl.result (λ d. d ≡ o)) whole c.copied_decl.ensures)
