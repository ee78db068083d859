use Rattle.std.proofs.Common.{◌≡◌, ◌<◌, ℕ, List, Vec, true, false, length, arith, rules, ap, sym, ◌∙◌, subst, drop, ◌||◌, refl}
use Rattle.std.specs.Global.{Global}
use Rattle.numbered_nodes.specs.Bits.{has, absent}
use Rattle.numbered_nodes.proofs.Booleans.{not_true, is_same}
use Rattle.numbered_nodes.proofs.Absent.{none_there, some_absent, one_less}
use Rattle.numbered_nodes.specs.Edges.{lists, HasEdge, Relates}
use Rattle.numbered_nodes.specs.Waiting.{IsPlaced, IsMore}
use Rattle.numbered_nodes.proofs.Listing.{whole, listed_next, nexts, chosen, ready_next, range_next, placed_next}
use Rattle.numbered_nodes.proofs.Ranks.{none_absent}
use Rattle.numbered_nodes.proofs.order.order_of.Goals as goal

pub loop-turn-init : goal.loop-turn-init
loop-turn-init c =
    let n = length c.args.needs.now in
    let first = c.in_ok-waiting.ensures in
    let none : length c.new-order.result.items ≡ 0 = ap (λ (l : List ℕ). length l) c.new-order.ensures.items in
    record {
      listed_room = c.in_ok-listed.ensures.room;
      len = none;
      unlisted = let e = none_there c.in_ok-listed.listed n c.in_ok-listed.ensures.none in omega arith;
      same = λ k. (
        (λ h. let e : false ≡ true = sym (c.in_ok-listed.ensures.none k) ∙ h in cc),
        (λ h. let lt = h.1 in absurd (omega arith)),
      );
      next = λ i h. absurd (omega arith);
      ready_room = first.room ∙ c.in_ok-ready.ensures.room;
      waiting_len = first.len;
      ready = first.ready;
      range = first.range;
      placed = λ x lt out. first.placed x lt;
    }

pub next_node-node-requires-clause-left : goal.next_node-node-requires-clause-left
next_node-node-requires-clause-left c =
    let unlisted = c.loop-turn.invariant.unlisted in
    some_absent c.loop-turn.listed (length c.args.needs.now) (omega arith)

pub put_again-requires-clause-node : goal.put_again-requires-clause-node
put_again-requires-clause-node c =
    let node = c.next_node-node.result in
    (c.next_node-node.ensures.node, c.insert.ensures.has node ∙ ap (λ b. b || has c.loop-turn.listed node) (is_same node node refl))

pub put_again-requires-clause-range : goal.put_again-requires-clause-range
put_again-requires-clause-range c = λ x e. c.loop-turn.invariant.range c.next_node-node.result x (subst (λ (g : List (Vec ℕ Global)). HasEdge (lists g) c.next_node-node.result x) c.deref_mut.ensures.value e)

pub loop-turn-preserved : goal.loop-turn-preserved
loop-turn-preserved c =
    let inv = c.loop-turn.invariant in
    let needs = c.args.needs.now in
    let n = length needs in
    let node = c.next_node-node.result in
    let next = c.next_node-node.ensures in
    let was = c.loop-turn.listed in
    let listed = c.insert.new.self in
    let step = c.insert.ensures.has in
    let push = c.in_ok-push.ensures.items in
    let put = c.in_ok-put_again.ensures in
    let ready = c.loop-turn.ready in
    let now = c.put_again.new.ready in
    let waiting = c.loop-turn.waiting in
    let new = c.put_again.new.waiting in
    let value = c.deref_mut.ensures.value in
    let back = whole waiting.len new (drop (length new) waiting.items) (search rules) in
    let more = subst (λ (g : List (Vec ℕ Global)). IsMore needs n listed ready (lists g) now (lists new)) value put.more in
    let again = subst (λ (g : List (Vec ℕ Global)). (x : ℕ) → HasEdge (lists g) node x → IsPlaced needs n listed now (lists new) x) value put.placed in
    record {
      listed_room = c.insert.ensures.room ∙ inv.listed_room;
      len = search rules;
      unlisted =
          let less = one_less was listed node step n next.node (not_true (has was node) next.new) in
          let before = inv.unlisted in
          omega arith;
      same = listed_next was listed c.loop-turn.order.items c.push.new.self.items node step push inv.same;
      next = nexts (Relates needs) n c.loop-turn.turn node c.loop-turn.order.items c.push.new.self.items inv.len push inv.next (chosen needs n was ready (lists waiting.items) inv.ready inv.placed c.loop-turn.order.items inv.same node next);
      ready_room = put.room ∙ inv.ready_room;
      waiting_len = ap (λ (g : List (Vec ℕ Global)). length g) back ∙ put.len ∙ ap (λ (g : List (Vec ℕ Global)). length g) value ∙ inv.waiting_len;
      ready = ready_next needs n was listed node step ready now (lists waiting.items) (lists new) more inv.ready;
      range = subst (λ (g : List (Vec ℕ Global)). (z x : ℕ) → HasEdge (lists g) z x → x < n) (sym back) (range_next needs n was listed node step ready now (lists waiting.items) (lists new) more inv.range);
      placed = subst (λ (g : List (Vec ℕ Global)). (x : ℕ) → x < n → has listed x ≡ false → IsPlaced needs n listed now (lists g) x) (sym back) (placed_next needs n was listed node step ready now (lists waiting.items) (lists new) more again inv.placed);
    }

pub returns-clause-all : goal.returns-clause-all
returns-clause-all c = λ x lt.
    let inv = c.loop-turn.invariant in
    let was = inv.unlisted in
    let end = c.loop-turn-test.false in
    let none : absent c.loop-turn.listed (length c.args.needs.now) ≡ 0 = omega arith in
    (inv.same x).0 (none_absent c.loop-turn.listed (length c.args.needs.now) none x lt)
