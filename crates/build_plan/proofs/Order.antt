-- The order of nodes is strict and total, and the test of nodes tells them apart.
use Rattle.std.proofs.Common.{◌≡◌, true}
use Rattle.std.specs.Cmp.{IsTotalOrder, IsStrictWeakOrder}
use Rattle.std.proofs.lemmas.Cmp.{then_total, on_total, nat_cmp_total, nat_list_cmp_total}
use Rattle.std.proofs.lemmas.List.Sorted.{ranks_by}
use Rattle.mk_base.specs.Order.{node_cmp, place_of_node}
use Rattle.mk_base.specs.declared.name.Node.{Node}
use Rattle.build_theory.specs.Laws.{IsOrdered, IsExact}
use Rattle.build_theory.proofs.Lists.{clash}
use Rattle.mod_graph.specs.Names.{less_node}
use Rattle.mod_graph.proofs.NodeTests.{nodes_tell, node_itself, less_apart, less_chain, less_total}
use Rattle.build_plan.specs.Tree.{planning}

node_cmp_total : IsTotalOrder node_cmp
node_cmp_total = then_total (on_total (λ (n : Node). n.module.text) nat_list_cmp_total) (on_total (λ (n : Node). place_of_node n.boot) nat_cmp_total)

pub less_weak : IsStrictWeakOrder less_node
less_weak = ranks_by node_cmp_total (λ n. n)

pub planning_ordered : IsOrdered planning
planning_ordered = record { apart = less_apart; chain = less_chain; total = less_total }

pub planning_exact : IsExact planning
planning_exact = record { tells = nodes_tell; itself = node_itself }

pub not_less : (n : Node) → less_node n n ≡ true → ⊥
not_less n e = clash (less_node n n) e (less_apart n n e)
