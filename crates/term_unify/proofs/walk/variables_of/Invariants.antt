use Rattle.std.proofs.Common.{ℕ, ◌≡◌, ◌≤◌, []}
use Rattle.unifiers.specs.Reading.{places}
use Rattle.term_classes.specs.Settle.{mark_of}
use Rattle.term_unify.specs.Arena.{solved_at}
use Rattle.term_unify.specs.Walk.{Gathers, gather, weight}
use Rattle.term_unify.proofs.walk.variables_of.Given as goal

abbrev pub invariant-loop-visit : goal.invariant-loop-visit
invariant-loop-visit l = record {
  gathers : Gathers l.nodes l.slots l.variables l.marks l.clock l.found.items l.todo.items;
  same : gather l.nodes l.slots l.found.items l.todo.items ≡ places [] (solved_at l.nodes l.slots l.at);
  bounded : (i : ℕ) → mark_of l.marks i ≤ l.clock;
}

abbrev pub decreases-loop-visit : goal.decreases-loop-visit
decreases-loop-visit l = weight l.nodes l.slots l.todo.items
