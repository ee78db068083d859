use Rattle.std.proofs.Common.{◌<◌, ◌↔◌, ℕ, List, Vec, length, arith, sym, subst}
use Rattle.std.specs.Global.{Global}
use Rattle.std.specs.List.{Contains}
use Rattle.std.proofs.lemmas.List.Elements.{All-contains, Contains-push}
use Rattle.numbered_nodes.specs.Edges.{lists, HasEdge}
use Rattle.node_groups.proofs.Naming.{named_next}
use Rattle.node_groups.proofs.components.name_all.Goals as goal

pub name_once-requires-clause-turned : goal.name_once-requires-clause-turned
name_once-requires-clause-turned c = subst (λ (r : List (Vec ℕ Global)). (a b : ℕ) → HasEdge (lists r) b a ↔ HasEdge (lists c.args.graph.now) a b) (sym c.deref.ensures.value) c.in_ok-back.ensures.edges

pub name_once-requires-clause-from : goal.name_once-requires-clause-from
name_once-requires-clause-from c = All-contains (λ a. a < length c.args.graph.now) c.loop-from.order.items c.in-Some.from c.loop-from.invariant.order (subst (λ (l : List ℕ). Contains l c.in-Some.from) (sym c.in-Some.ensures.items) (Contains-push c.pop.new.self.items c.in-Some.from))

pub name_once-requires-in-loop-from-2-clause-turned : goal.name_once-requires-in-loop-from-2-clause-turned
name_once-requires-in-loop-from-2-clause-turned c = subst (λ (r : List (Vec ℕ Global)). (a b : ℕ) → HasEdge (lists r) b a ↔ HasEdge (lists c.args.graph.now) a b) (sym c.deref-in-loop-from-2.ensures.value) c.in_ok-back.ensures.edges

pub loop-from-2-preserved : goal.loop-from-2-preserved
loop-from-2-preserved c =
    let inv = c.loop-from-2.invariant in
    let n = length c.args.graph.now in
    let lens = c.name_once-in-loop-from-2.ensures.len in
    let done = c.in_ok-name_once-2.ensures in
    record {
      names = (let a = lens.0 in let b = inv.names in omega arith);
      marks = (let a = lens.1 in let b = inv.marks in omega arith);
      parted = done.parted;
      all = named_next c.loop-from-2.names c.name_once-in-loop-from-2.new.names n c.loop-from-2.from c.loop-from-2-test.true done.kept done.named inv.all;
    }
