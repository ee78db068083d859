-- What a need of a node needs, the node needs too.
use Rattle.std.proofs.Common.{◌≡◌, ℕ, true, List}
use Rattle.mk_base.specs.declared.name.Node.{Node}
use Rattle.build_theory.specs.Laws.{AreDistinct, IsIn}
use Rattle.build_theory.specs.Machine.{HasNoCycleBefore, HasPlace}
use Rattle.build_theory.proofs.Cycles.{needs_stand_before}
use Rattle.mod_graph.specs.Graph.{entries}
use Rattle.build_plan.specs.Tree.{input_of}
use Rattle.build_plan.proofs.Chained.{chained}
use Rattle.plain_build.specs.Plain.{PlainTree, plain}
use Rattle.plain_build.proofs.Order.{plain_exact}

pub lead_on : (t : PlainTree) (a b c : Node) → plain.needs t a b ≡ true → plain.needs t b c ≡ true → plain.needs t a c ≡ true
lead_on t a b c p q = chained (entries (input_of t)) a b c p q

-- so the order has a node before which there is no cycle behind its needs
pub nodes_stand_before : (t : PlainTree) → AreDistinct plain t.sources → (q : Node × List ℕ) → IsIn q t.sources → HasNoCycleBefore plain t q.0 → HasPlace plain t q
nodes_stand_before t apart q i free = needs_stand_before plain plain_exact t apart (lead_on t) q i free
