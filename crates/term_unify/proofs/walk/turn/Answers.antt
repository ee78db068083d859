use Rattle.std.proofs.Common.{ℕ, ◌<◌, ◌++◌, ◌∷◌, [], List, length, slice_set, sym, subst, arith}
use Rattle.term_unify.specs.declared.walk.Visit.{Visit}
use Rattle.term_unify.specs.Walk.{Gathers, Visited, IsWithin}
use Rattle.term_unify.proofs.Gather.{within_last, left_one}
use Rattle.term_unify.proofs.walk.turn.Goals as goal

pub leave-requires : goal.leave-requires
leave-requires c =
    let w : IsWithin c.args.slots.now c.args.visit = within_last c.args.nodes.now c.args.slots.now c.args.todo.now.items c.args.visit c.requires.gathers.within in
    let l : c.in-Leave.class < length c.args.slots.now = subst (λ (v : Visit). IsWithin c.args.slots.now v) c.in-Leave.is w in
    let e = c.requires.gathers.len in
    omega arith

pub returns-in-Leave-clause-visited : goal.returns-in-Leave-clause-visited
returns-in-Leave-clause-visited c =
    let todo = c.args.todo.now.items in
    let found = c.args.found.now.items in
    let g = subst (λ (v : Visit). Gathers c.args.nodes.now c.args.slots.now c.args.variables.now c.args.marks.now c.args.clock found (todo ++ v ∷ [])) c.in-Leave.is c.requires.gathers in
    subst (λ (m : List ℕ). Visited c.args.nodes.now c.args.slots.now c.args.variables.now m c.args.clock found found (todo ++ c.args.visit ∷ []) todo) (sym c.leave.ensures.marks)
    (subst (λ (v : Visit). Visited c.args.nodes.now c.args.slots.now c.args.variables.now (slice_set c.args.marks.now c.in-Leave.class c.args.clock) c.args.clock found found (todo ++ v ∷ []) todo) (sym c.in-Leave.is)
    (left_one c.args.nodes.now c.args.slots.now c.args.variables.now c.args.marks.now c.args.clock found todo c.in-Leave.class g))
