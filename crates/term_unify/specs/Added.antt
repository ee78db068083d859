-- One more term, and what stays.
use Rattle.std.specs.Prelude.{ℕ, false, ◌+◌, ◌<◌, ◌≡◌, List, []}
use Rattle.unifiers.specs.Term.{Term}
use Rattle.unifiers.specs.Unifier.{MostGeneral}
use Rattle.term_classes.specs.declared.node.Node.{Node}
use Rattle.term_unify.specs.Arena.{Arena, made, made_at, solved, solution, is_rigid, size_of, count_of, variables_before, layer, IsNext, count_with}

-- the term is the last one; those before, their solution, and of what that is most general, are as they were
pub record Added (old new : Arena) (id : ℕ) (term : Term) : Type 0 where
  pub is : id ≡ size_of old
  pub size : size_of new ≡ size_of old + 1
  pub made_here : made new id ≡ term
  pub made_before : (i : ℕ) → i < size_of old → made new i ≡ made old i
  pub solved_before : (i : ℕ) → i < size_of old → solved new i ≡ solved old i
  pub solution_stays : (n : ℕ) → solution new n ≡ solution old n
  pub general : (pairs : List (Term × Term)) → MostGeneral (is_rigid old) pairs (solution old) → MostGeneral (is_rigid new) pairs (solution new)

-- the same terms as they were made
pub record SameTerms (old new : Arena) : Type 0 where
  pub size : size_of new ≡ size_of old
  pub count : count_of new ≡ count_of old
  pub made : (i : ℕ) → made new i ≡ made old i
  pub rigid : (n : ℕ) → is_rigid new n ≡ is_rigid old n

-- the same terms, with nothing solved, and with constants read as variables that are to be solved
pub record Relaxed (old new : Arena) : Type 0 where
  pub size : size_of new ≡ size_of old
  pub count : count_of new ≡ count_of old
  pub made : (i : ℕ) → i < size_of old → made new i ≡ made old i
  pub rigid : (n : ℕ) → is_rigid new n ≡ false
  pub general : MostGeneral (is_rigid new) [] (solution new)

-- the first k of some nodes are so
pub record IsRelaxed (nodes : List Node) (k : ℕ) (st : Arena) : Type 0 where
  pub size : size_of st ≡ k
  pub count : count_of st ≡ variables_before nodes k
  pub made : (i : ℕ) → i < k → made st i ≡ made_at nodes i
  pub rigid : (n : ℕ) → is_rigid st n ≡ false
  pub general : MostGeneral (is_rigid st) [] (solution st)

-- one more term, as that node was made; a constant is a variable
pub record Grown (old new : Arena) (node : Node) : Type 0 where
  pub size : size_of new ≡ size_of old + 1
  pub count : count_of new ≡ count_with node (count_of old)
  pub made_before : (i : ℕ) → i < size_of old → made new i ≡ made old i
  pub made_here : IsNext node (count_of old) → made new (size_of old) ≡ layer node (made old)
  pub rigid : (n : ℕ) → is_rigid new n ≡ is_rigid old n
  pub general : (pairs : List (Term × Term)) → MostGeneral (is_rigid old) pairs (solution old) → MostGeneral (is_rigid new) pairs (solution new)
