use Rattle.std.proofs.Common.{Bool, List, rules}
use Rattle.std.specs.List.Sorted.{IsSortedBy}
use Rattle.std.specs.Cmp.{IsStrictWeakOrder}
use Rattle.std.proofs.lemmas.List.Sorted.{answers_always}
use Rattle.mod_graph.specs.declared.entries.Ranked.{Ranked}
use Rattle.mod_graph.specs.Names.{less_node}
use Rattle.mod_graph.proofs.NodeNames.{less_weak}
use Rattle.mod_graph.proofs.ByNode.{sorted_headers}
use Rattle.mod_graph.proofs.entries.sort_ranked.Goals as goal

pub returns : goal.returns
returns c =
    let old : List Ranked = c.args.ranked.now in
    let new : List Ranked = c.sort_unstable_by.new.self in
    let lt : Ranked → Ranked → Bool = λ a b. less_node a.header.now.node b.header.now.node in
    let weak : IsStrictWeakOrder lt = record {
      one_way = λ x y. less_weak.one_way x.header.now.node y.header.now.node;
      chain = λ x y z. less_weak.chain x.header.now.node y.header.now.node z.header.now.node;
    } in
    let sorted : IsSortedBy lt new = c.sort_unstable_by.ensures.sorted lt weak (answers_always _ _ _ (λ f a r q k. search rules)) in
    sorted_headers old new c.requires c.sort_unstable_by.ensures.permutation sorted
