-- A search that takes over the rows that are known: what one step of it does.
use Rattle.std.specs.Prelude.{ℕ, ◌≡◌, ◌⊎◌, ◌↔◌, ◌≤◌, ◌+◌, List, Bool, true, false, get_or, length}
use Rattle.std.specs.List.{Contains}
use Rattle.numbered_nodes.specs.Bits.{has, absent}
use Rattle.numbered_nodes.specs.Reach.{Reach}
use Rattle.numbered_nodes.specs.Edges.{HasEdge, Relates}

-- all targets of a are in the set
abbrev pub IsSettled : List (List ℕ) → List ℕ → ℕ → Type 0
IsSettled g row a = (b : ℕ) → HasEdge g a b → has row b ≡ true

-- the rows of the nodes that are done are what these reach
abbrev pub AreExact : List (List ℕ) → List Bool → List (List ℕ) → Type 0
AreExact g done rows = (a b : ℕ) → get_or done a false ≡ true → Relates rows a b ↔ Reach (HasEdge g) a b

-- what is known after a scan of x that began with the set `first` and the nodes `before` left to scan
pub record Scanned (g : List (List ℕ)) (x : ℕ) (first before row left : List ℕ) : Type 0 where
  pub grows : (b : ℕ) → has first b ≡ true → has row b ≡ true
  pub sound : (b : ℕ) → has row b ≡ true → (has first b ≡ true) ⊎ Reach (HasEdge g) x b
  pub settled : (b : ℕ) → has row b ≡ true → (has first b ≡ true) ⊎ (Contains left b ⊎ IsSettled g row b)
  pub kept : (b : ℕ) → Contains before b → Contains left b
  pub new : (b : ℕ) → Contains left b → Contains before b ⊎ HasEdge g x b
  pub fewer : absent row (length g) + length left ≤ absent first (length g) + length before
