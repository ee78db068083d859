-- What is kept of the numbered nodes: rows of what each reaches and needs, the numbers of their loops, and their order.
use Rattle.std.specs.Prelude.{◌≡◌, ◌↔◌, ◌<◌, ◌+◌, ℕ, true, List, length, get_or}
use Rattle.numbered_nodes.specs.Bits.{room_for}
use Rattle.numbered_nodes.specs.Edges.{Relates, HaveRoom}
use Rattle.numbered_nodes.specs.Order.{IsOrder}
use Rattle.mod_graph.specs.declared.entries.Entry.{Entry}
use Rattle.mod_graph.specs.declared.rows.Rows.{Rows}
use Rattle.mod_graph.specs.Edges.{reaches, needs, in_loop}
use Rattle.mod_graph.specs.Graph.{first_below}

pub record AreRows (r : Rows) (es : List Entry) : Type 0 where
  pub reach_count : length r.reach.items ≡ length es
  pub reach_room : HaveRoom (room_for (length es)) r.reach.items
  pub reach : (a b : ℕ) → a < length es → b < length es → Relates r.reach.items a b ↔ (reaches es a b ≡ true)
  pub needs_count : length r.needs.items ≡ length es
  pub needs_room : HaveRoom (room_for (length es + length es)) r.needs.items
  pub needs_are : (a b : ℕ) → a < length es → b < length es → Relates r.needs.items a b ↔ (needs es a b ≡ true)
  pub loops_count : length r.loops.items ≡ length es
  pub loops : (a : ℕ) → a < length es → get_or r.loops.items a 0 ≡ first_below (length es) (in_loop es a)
  pub order : IsOrder (λ a b. needs es a b ≡ true) (length es) r.order.items
