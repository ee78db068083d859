use Rattle.std.proofs.Common.{◌≡◌, ◌↔◌, ◌<◌, ℕ, List, length, get_or, subst, refl}
use Rattle.numbered_nodes.specs.Reach.{Reach}
use Rattle.numbered_nodes.specs.Edges.{lists, HasEdge, Relates}
use Rattle.numbered_nodes.specs.Needs.{Leads, InOneNumber}
use Rattle.numbered_nodes.proofs.StepRows.{edges_within}
use Rattle.numbered_nodes.proofs.NeedsRows.{needs_from_steps}
use Rattle.numbered_nodes.proofs.needs.needs_rows.Goals as goal

-- the needs are what the steps reach, by the loops of the modules
pub returns-clause-needs : goal.returns-clause-needs
returns-clause-needs c =
    let E = HasEdge (lists c.args.nodes.now) in
    let M = HasEdge (lists c.args.modules.now) in
    let mo = c.args.module_of.now in
    let n = length mo in
    let numbers = c.in_ok-loops.loops.items in
    let own = c.in_ok-own.own.items in
    let rows = c.in_ok-rows.rows.items in
    let within = edges_within c.args.nodes.now n c.requires.len c.requires.range in
    let owned = subst (λ (l : List ℕ). (a : ℕ) → a < n → get_or own a 0 ≡ get_or l (get_or mo a 0) 0) c.deref.ensures.value c.in_ok-own.ensures.loops in
    let steps = subst (λ (l : List ℕ). (a b : ℕ) → a < length l → b < length l → Relates rows a b ↔ Reach (Leads E (InOneNumber E (λ d. get_or l d 0) (length l)) (length l)) a b) c.deref-2.ensures.value c.in_ok-rows.ensures.steps in
    let exact = subst (λ m. (a b : ℕ) → a < m → b < m → Relates rows a b ↔ Reach (Leads E (InOneNumber E (λ d. get_or own d 0) m) m) a b) c.in_ok-own.ensures.len steps in
    needs_from_steps E M mo numbers own n (length c.args.modules.now) refl within c.requires.module_of c.in_ok-loops.ensures.loops owned c.requires.follows rows exact
