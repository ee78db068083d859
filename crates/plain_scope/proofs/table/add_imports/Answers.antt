use Rattle.std.proofs.Common.{◌≡◌, ◌+◌, ◌<◌, sym, ap, ◌∙◌, subst, ℕ, List, ◌∷◌, length, get_or, drop}
use Rattle.std.proofs.lemmas.List.{drop_more}
use Rattle.std.specs.List.{AllByRecursion}
use Rattle.plain_scope.specs.declared.scope.Content.{Content}
use Rattle.plain_scope.specs.declared.scope.DataDecl.{DataDecl}
use Rattle.plain_scope.specs.Scope.{Use, content_heads, contents_at}
use Rattle.plain_scope.specs.Table.{use_in, with_types, with_contents}
use Rattle.plain_scope.proofs.Steps.{contents_next}
use Rattle.plain_scope.proofs.table.add_imports.Goals as goal

pub loop-place-preserved : goal.loop-place-preserved
loop-place-preserved c =
    let unit : List ℕ = c.args.unit.now in
    let contents : List Content = c.args.contents.now in
    let imports : List ℕ = c.args.imports.now in
    let i : ℕ = c.loop-place.place-index in
    let lt : i < length imports = c.loop-place-test.true in
    let content : Content = c.index-contents-place.result in
    let within : AllByRecursion (λ (n : ℕ). n < length contents) (get_or imports i 0 ∷ drop (i + 1) imports) =
    subst (λ (l : List ℕ). AllByRecursion (λ (n : ℕ). n < length contents) l) (drop_more imports i 0 lt) c.loop-place.invariant.within in
    let next : contents_at contents (drop i imports) ≡ content ∷ contents_at contents (drop (i + 1) imports) =
    contents_next contents imports i content lt within.0 c.index-contents-place.is in
    record {
      within = within.1;
      types = λ text.
          let old : Use = use_in c.loop-place.types text in
          let put : use_in c.add_decls.new.types text ≡ with_types unit content.module (content_heads content.datas) text old =
          c.in_ok-add_decls.ensures text
          ∙ ap (λ (m : List ℕ). with_types unit m (content_heads c.as_slice-in-loop-place.result.now) text old) c.as_slice.ensures
          ∙ ap (λ (ds : List DataDecl). with_types unit content.module (content_heads ds) text old) c.as_slice-in-loop-place.ensures in
          ap (with_contents unit (contents_at contents (drop (i + 1) imports)) text) put
          ∙ sym (ap (λ (cs : List Content). with_contents unit cs text old) next)
          ∙ c.loop-place.invariant.types text;
    }
