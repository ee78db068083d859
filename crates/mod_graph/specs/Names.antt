-- Nodes by their names: the node of a module, the test whether two are the same, and their order.
use Rattle.std.specs.Prelude.{ℕ, Bool, ◌&&◌, cond, not, List}
use Rattle.std.specs.Ordering.{is_lt}
use Rattle.mk_base.specs.Order.{node_cmp}
use Rattle.mk_base.specs.declared.name.Node.{Node}
pub use Rattle.mk_base.specs.Texts.{same_text}

abbrev pub same_flag : Bool → Bool → Bool
same_flag a b = cond a b (not b)

abbrev pub same_node : Node → Node → Bool
same_node a b = same_text a.module.text b.module.text && same_flag a.boot b.boot

-- by module, and the boot node before the real one
abbrev pub less_node : Node → Node → Bool
less_node a b = is_lt (node_cmp a b)

abbrev pub node_named : List ℕ → Bool → Node
node_named m boot = record { «module» = record { text = m }; boot = boot }
