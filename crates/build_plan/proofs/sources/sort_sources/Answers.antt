use Rattle.std.proofs.Common.{Bool, List, rules}
use Rattle.std.specs.List.Sorted.{IsSortedBy}
use Rattle.std.specs.Cmp.{IsStrictWeakOrder}
use Rattle.std.proofs.lemmas.List.Sorted.{answers_always}
use Rattle.build_plan.specs.declared.sources.Source.{Source}
use Rattle.mod_graph.specs.Names.{less_node}
use Rattle.build_plan.proofs.Order.{less_weak}
use Rattle.build_plan.proofs.Sorting.{sorted_sources}
use Rattle.build_plan.proofs.sources.sort_sources.Goals as goal

pub returns : goal.returns
returns c =
    let old : List Source = c.args.sources.now in
    let new : List Source = c.sort_unstable_by.new.self in
    let lt : Source → Source → Bool = λ a b. less_node a.node b.node in
    let weak : IsStrictWeakOrder lt = record { one_way = λ x y. less_weak.one_way x.node y.node; chain = λ x y z. less_weak.chain x.node y.node z.node } in
    let sorted : IsSortedBy lt new = c.sort_unstable_by.ensures.sorted lt weak (answers_always _ _ _ (λ f a r q k. search rules)) in
    sorted_sources old new c.requires c.sort_unstable_by.ensures.permutation sorted
