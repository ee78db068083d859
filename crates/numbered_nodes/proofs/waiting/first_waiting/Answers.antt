use Rattle.std.proofs.Common.{◌≡◌, ℕ, List, Vec, [], inl, inr, length, get_or, drop, sym, subst, rules}
use Rattle.std.specs.Global.{Global}
use Rattle.numbered_nodes.specs.Edges.{lists, HasEdge}
use Rattle.numbered_nodes.specs.Waiting.{IsPlaced}
use Rattle.numbered_nodes.proofs.Listing.{whole}
use Rattle.numbered_nodes.proofs.WaitingLists.{nobody}
use Rattle.numbered_nodes.proofs.waiting.first_waiting.Goals as goal

pub returns-clause-range : goal.returns-clause-range
returns-clause-range c = λ z x e.
    let waiting = c.in_ok-waiting.waiting in
    let new = c.put_all.new.waiting in
    let back = whole waiting.len new (drop (length new) waiting.items) (search rules) in
    let none = subst (λ (g : List (Vec ℕ Global)). get_or (lists g) z [] ≡ []) (sym c.deref_mut.ensures.value) (c.in_ok-waiting.ensures.none z) in
    elim (c.in_ok-put_all.ensures.more.range z x (subst (λ (g : List (Vec ℕ Global)). HasEdge (lists g) z x) back e)) [
      | inl was ↦ absurd (nobody (get_or (lists c.deref_mut.result.now) z []) x none was)
      | inr lt ↦ lt
    ]

pub returns-clause-placed : goal.returns-clause-placed
returns-clause-placed c = λ x lt.
    let waiting = c.in_ok-waiting.waiting in
    let new = c.put_all.new.waiting in
    let back = whole waiting.len new (drop (length new) waiting.items) (search rules) in
    subst (λ (g : List (Vec ℕ Global)). IsPlaced c.args.needs.now (length c.args.needs.now) c.args.listed.now c.put_all.new.ready (lists g) x) (sym back) (c.in_ok-put_all.ensures.placed x lt)
