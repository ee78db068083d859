use Rattle.std.proofs.Common.{◌≡◌, ◌↔◌, ◌<◌, ◌≤◌, ◌+◌, ℕ, List, Vec, true, length, get_or, ap, sym, ◌∙◌, subst, arith}
use Rattle.std.specs.Global.{Global}
use Rattle.numbered_nodes.specs.Bits.{room_for}
use Rattle.numbered_nodes.specs.Reach.{InOneLoop}
use Rattle.numbered_nodes.specs.Edges.{lists, HasEdge, InRange, HaveRoom, Relates}
use Rattle.numbered_nodes.specs.Order.{IsOrder}
use Rattle.mod_graph.specs.Edges.{Leads, Joins, module_of, needs}
use Rattle.mod_graph.specs.LoopRows.{IsFirstInLoop}
use Rattle.mod_graph.proofs.RowTests.{nodes_range, modules_range, follows_rows, reach_tests, needs_tests, loop_tests, order_alike}
use Rattle.mod_graph.proofs.rows.rows_of.Goals as goal

abbrev Graph : Type 0
Graph = List (Vec ℕ Global)

pub reach_rows-requires : goal.reach_rows-requires
reach_rows-requires c =
    let es = c.args.entries.now in
    let g = c.deref.result.now in
    let e = c.deref.ensures.value in
    let edges = subst (λ (l : Graph). (a b : ℕ) → HasEdge (lists l) a b ↔ Leads es a b) (sym e) c.in_ok-nodes.ensures.edges in
    let len : length g ≡ length es = ap (λ (l : Graph). length l) e ∙ c.in_ok-nodes.ensures.len in
    record { range = subst (InRange (lists g)) (sym len) (nodes_range es (lists g) edges) }

pub needs_rows-requires-clause-range : goal.needs_rows-requires-clause-range
needs_rows-requires-clause-range c =
    let es = c.args.entries.now in
    let g = c.deref-2.result.now in
    let edges = subst (λ (l : Graph). (a b : ℕ) → HasEdge (lists l) a b ↔ Leads es a b) (sym c.deref-2.ensures.value) c.in_ok-nodes.ensures.edges in
    let len : length c.deref-4.result.now ≡ length es = ap (λ (l : List ℕ). length l) c.deref-4.ensures.value ∙ c.in_ok-module_of.ensures.len in
    subst (InRange (lists g)) (sym len) (nodes_range es (lists g) edges)

pub needs_rows-requires-clause-modules : goal.needs_rows-requires-clause-modules
needs_rows-requires-clause-modules c =
    let es = c.args.entries.now in
    let g = c.deref-3.result.now in
    let e = c.deref-3.ensures.value in
    let joins = subst (λ (l : Graph). (x y : ℕ) → HasEdge (lists l) x y ↔ Joins es x y) (sym e) c.in_ok-modules.ensures.edges in
    let len : length g ≡ length es = ap (λ (l : Graph). length l) e ∙ c.in_ok-modules.ensures.len in
    subst (InRange (lists g)) (sym len) (modules_range es (lists g) joins)

pub needs_rows-requires-clause-follows : goal.needs_rows-requires-clause-follows
needs_rows-requires-clause-follows c =
    let es = c.args.entries.now in
    let edges = subst (λ (l : Graph). (a b : ℕ) → HasEdge (lists l) a b ↔ Leads es a b) (sym c.deref-2.ensures.value) c.in_ok-nodes.ensures.edges in
    let joins = subst (λ (l : Graph). (x y : ℕ) → HasEdge (lists l) x y ↔ Joins es x y) (sym c.deref-3.ensures.value) c.in_ok-modules.ensures.edges in
    let e = c.deref-4.ensures.value in
    let own = c.deref-4.result.now in
    let len : length own ≡ length es = ap (λ (l : List ℕ). length l) e ∙ c.in_ok-module_of.ensures.len in
    let owned = subst (λ (l : List ℕ). (a : ℕ) → a < length es → get_or l a 0 ≡ module_of es a) (sym e) c.in_ok-module_of.ensures.modules in
    follows_rows es (lists c.deref-2.result.now) (lists c.deref-3.result.now) own edges joins len owned

-- the number of a loop is its first module
first_in_loop : (M : ℕ → ℕ → Type 0) (numbers : List ℕ) (count x m : ℕ) → ((a b : ℕ) → a < count → b < count → (get_or numbers a 0 ≡ get_or numbers b 0) ↔ InOneLoop M a b) → ((a : ℕ) → a < count → (get_or numbers a 0 ≤ a) × InOneLoop M a (get_or numbers a 0))
    → x < count → m ≡ get_or numbers x 0 → IsFirstInLoop M x m
first_in_loop M numbers count x m loops least lt at =
    let own = least x lt in
    let low = own.0 in (
      subst (λ k. InOneLoop M x k) (sym at) own.1,
      (λ y less mates.
          let below : y < count = omega arith in
          let same = (loops x y lt below).1 mates in
          let above = (least y below).0 in
          omega arith),
    )

pub returns : goal.returns
returns c =
    let es = c.args.entries.now in
    let n = length es in
    let reach = c.in_ok-reach.reach.items in
    let rows = c.in_ok-needs.field-0.rows.items in
    let numbers = c.in_ok-needs.field-0.loops.items in
    let loops = c.in_ok-loops.loops.items in
    let nodes = c.deref-2.result.now in
    let modules = c.deref-3.result.now in
    let own = c.deref-4.result.now in
    let edges_first = subst (λ (l : Graph). (a b : ℕ) → HasEdge (lists l) a b ↔ Leads es a b) (sym c.deref.ensures.value) c.in_ok-nodes.ensures.edges in
    let edges = subst (λ (l : Graph). (a b : ℕ) → HasEdge (lists l) a b ↔ Leads es a b) (sym c.deref-2.ensures.value) c.in_ok-nodes.ensures.edges in
    let joins = subst (λ (l : Graph). (x y : ℕ) → HasEdge (lists l) x y ↔ Joins es x y) (sym c.deref-3.ensures.value) c.in_ok-modules.ensures.edges in
    let count : length c.deref.result.now ≡ n = ap (λ (l : Graph). length l) c.deref.ensures.value ∙ c.in_ok-nodes.ensures.len in
    let module_count : length modules ≡ n = ap (λ (l : Graph). length l) c.deref-3.ensures.value ∙ c.in_ok-modules.ensures.len in
    let len : length own ≡ n = ap (λ (l : List ℕ). length l) c.deref-4.ensures.value ∙ c.in_ok-module_of.ensures.len in
    let len_last : length c.deref-6.result.now ≡ n = ap (λ (l : List ℕ). length l) c.deref-6.ensures.value ∙ c.in_ok-module_of.ensures.len in
    let owned = subst (λ (l : List ℕ). (a : ℕ) → a < n → get_or l a 0 ≡ module_of es a) (sym c.deref-4.ensures.value) c.in_ok-module_of.ensures.modules in
    let owned_last = subst (λ (l : List ℕ). (a : ℕ) → a < n → get_or l a 0 ≡ module_of es a) (sym c.deref-6.ensures.value) c.in_ok-module_of.ensures.modules in
    let tests : (a b : ℕ) → a < n → b < n → Relates rows a b ↔ (needs es a b ≡ true) = needs_tests es (lists nodes) (lists modules) own edges joins len owned rows c.in_ok-needs.ensures.needs in
    let numbered = subst (λ (l : List ℕ). (a : ℕ) → a < length c.deref-6.result.now → get_or loops a 0 ≡ get_or l (get_or c.deref-6.result.now a 0) 0) c.deref-5.ensures.value c.in_ok-loops.ensures.loops in
    let rows_len : length rows ≡ n = c.in_ok-needs.ensures.len ∙ len in
    let order = subst (λ (l : List (List ℕ)). IsOrder (Relates l) (length l) c.in_ok-order.order.items) c.deref-7.ensures.value c.in_ok-order.ensures.order in
    record {
      reach_count = c.in_ok-reach.ensures.len ∙ count;
      reach_room = subst (λ m. HaveRoom (room_for m) reach) count c.in_ok-reach.ensures.room;
      reach = λ a b la lb. reach_tests es (lists c.deref.result.now) edges_first reach c.in_ok-reach.ensures.reach a b;
      needs_count = rows_len;
      needs_room = subst (λ m. HaveRoom (room_for (m + m)) rows) len c.in_ok-needs.ensures.room;
      needs_are = tests;
      loops_count = c.in_ok-loops.ensures.len ∙ len_last;
      loops = λ a lt.
          let below : module_of es a < n = subst (λ x. x < n) (c.in_ok-module_of.ensures.modules a lt) (c.in_ok-module_of.ensures.range a 0 (let all = c.in_ok-module_of.ensures.len in omega arith)) in
          let at = numbered a (omega arith) ∙ ap (λ x. get_or numbers x 0) (owned_last a lt) in
          loop_tests es (lists modules) joins a (get_or loops a 0) lt (first_in_loop (HasEdge (lists modules)) numbers (length modules) (module_of es a) (get_or loops a 0) c.in_ok-needs.ensures.loops c.in_ok-needs.ensures.least (omega arith) at);
      order = order_alike (Relates rows) (λ a b. needs es a b ≡ true) n tests c.in_ok-order.order.items (subst (λ m. IsOrder (Relates rows) m c.in_ok-order.order.items) rows_len order);
    }
