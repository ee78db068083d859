use Rattle.std.proofs.Common.{rules, ◌∙◌}
use Rattle.std.specs.Ordering.{is_lt, eq_by_cmp}
use Rattle.std.proofs.lemmas.List.Sorted.{answers_always, ranks_by}
use Rattle.std.proofs.lemmas.Map.Keys.{IsDistinct-IsPermutation}
use Rattle.std.proofs.lemmas.Cmp.{eq_by_cmp_equiv}
use Rattle.mk_base.specs.Order.{text_cmp}
use Rattle.plain_scope.specs.declared.scope.DataDecl.{DataDecl}
use Rattle.plain_face.proofs.Names.{strictly, types_total, types_apart}
use Rattle.plain_face.proofs.decls.sorted_decls.Goals as goal

pub returns-clause-sorted : goal.returns-clause-sorted
returns-clause-sorted c =
    let e = c.in_ok-decls.ensures ∙ c.as_slice.ensures in
    let moved = c.sort_unstable_by.ensures.permutation in
    let apart = IsDistinct-IsPermutation (eq_by_cmp (λ (a b : DataDecl). text_cmp a.ty b.ty)) (eq_by_cmp_equiv types_total).symm c.in_ok-decls.decls.items c.sort_unstable_by.new.self.items moved (rw e (types_apart c.args.content.now.datas c.requires)) in
    let up = c.sort_unstable_by.ensures.sorted (λ a b. is_lt (text_cmp a.ty b.ty)) (ranks_by types_total (λ (d : DataDecl). d)) (answers_always _ _ _ (λ f a r g k. search rules)) in
    strictly (λ (a b : DataDecl). text_cmp a.ty b.ty) types_total _ up apart
