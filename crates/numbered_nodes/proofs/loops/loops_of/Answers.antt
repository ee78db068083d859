use Rattle.std.proofs.Common.{◌≡◌, ◌↔◌, get_or, ℕ, List, subst, sym, ap, ◌∙◌, length, arith}
use Rattle.numbered_nodes.specs.Reach.{Reach}
use Rattle.numbered_nodes.specs.Edges.{lists, HasEdge, Relates}
use Rattle.numbered_nodes.proofs.Classes.{rows_chain, as_loops, to_loop}
use Rattle.numbered_nodes.proofs.loops.loops_of.Goals as goal

pub loop_numbers-requires-clause-chain : goal.loop_numbers-requires-clause-chain
loop_numbers-requires-clause-chain c =
    let E = HasEdge (lists c.args.graph.now) in
    let exact = subst (λ (r : List (List ℕ)). (a b : ℕ) → Relates r a b ↔ Reach E a b) (sym c.deref.ensures.value) c.in_ok-rows.ensures.reach in
    rows_chain c.deref.result.now exact

pub returns-clause-loops : goal.returns-clause-loops
returns-clause-loops c =
    let E = HasEdge (lists c.args.graph.now) in
    let exact = subst (λ (r : List (List ℕ)). (a b : ℕ) → Relates r a b ↔ Reach E a b) (sym c.deref.ensures.value) c.in_ok-rows.ensures.reach in
    let n : length c.deref.result.now ≡ length c.args.graph.now = ap (λ (l : List (List ℕ)). length l) c.deref.ensures.value ∙ c.in_ok-rows.ensures.len in
    let v = c.in_ok-numbers.numbers.items in
    as_loops c.deref.result.now exact v (length c.args.graph.now) (λ a b la lb. c.in_ok-numbers.ensures.loops a b (omega arith) (omega arith))

pub returns-clause-least : goal.returns-clause-least
returns-clause-least c =
    let E = HasEdge (lists c.args.graph.now) in
    let exact = subst (λ (r : List (List ℕ)). (a b : ℕ) → Relates r a b ↔ Reach E a b) (sym c.deref.ensures.value) c.in_ok-rows.ensures.reach in
    let n : length c.deref.result.now ≡ length c.args.graph.now = ap (λ (l : List (List ℕ)). length l) c.deref.ensures.value ∙ c.in_ok-rows.ensures.len in
    let v = c.in_ok-numbers.numbers.items in
    λ a la. let l = c.in_ok-numbers.ensures.least a (omega arith) in (l.0, to_loop c.deref.result.now exact a (get_or v a 0) l.1)
