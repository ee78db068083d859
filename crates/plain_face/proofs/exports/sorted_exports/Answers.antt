use Rattle.std.proofs.Common.{rules}
use Rattle.std.specs.Ordering.{is_lt, eq_by_cmp}
use Rattle.std.proofs.lemmas.List.Sorted.{answers_always, ranks_by}
use Rattle.std.proofs.lemmas.Map.Keys.{IsDistinct-IsPermutation}
use Rattle.std.proofs.lemmas.Cmp.{eq_by_cmp_equiv}
use Rattle.mk_base.specs.Order.{name_cmp}
use Rattle.plain_face.proofs.Names.{Export, strictly, exports_total, exports_apart}
use Rattle.plain_face.proofs.exports.sorted_exports.Goals as goal

pub returns-clause-sorted : goal.returns-clause-sorted
returns-clause-sorted c =
    let e = c.in_ok-exports.ensures in
    let moved = c.sort_unstable_by.ensures.permutation in
    let apart = IsDistinct-IsPermutation (eq_by_cmp (λ (a b : Export). name_cmp a.0 b.0)) (eq_by_cmp_equiv exports_total).symm c.in_ok-exports.exports.items c.sort_unstable_by.new.self.items moved (rw e (exports_apart c.args.unit.now c.args.content.now.module c.args.content.now.datas c.requires.types c.requires.constructors)) in
    let up = c.sort_unstable_by.ensures.sorted (λ a b. is_lt (name_cmp a.0 b.0)) (ranks_by exports_total (λ (d : Export). d)) (answers_always _ _ _ (λ f a r g k. search rules)) in
    strictly (λ (a b : Export). name_cmp a.0 b.0) exports_total _ up apart
