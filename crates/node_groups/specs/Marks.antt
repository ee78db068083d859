-- Searches that go over some of the nodes alone, and mark what they find.
use Rattle.std.specs.Prelude.{ℕ, ◌≡◌, ◌⊎◌, ◌<◌, ◌+◌, List, [], ◌∷◌, get_or, length, nat_eq, if◌then◌else◌}
use Rattle.std.specs.List.{Contains}
use Rattle.numbered_nodes.specs.Reach.{Reach}
use Rattle.numbered_nodes.specs.Edges.{HasEdge}

-- an edge to a node that is open: its key is the one asked for
abbrev pub Through : List (List ℕ) → List ℕ → ℕ → ℕ → ℕ → Type 0
Through g keys key a b = HasEdge g a b × (get_or keys b 0 ≡ key)

-- b is `from`, or is reached from it over open nodes
abbrev pub IsFound : List (List ℕ) → List ℕ → ℕ → ℕ → ℕ → Type 0
IsFound g keys key from b = (b ≡ from) ⊎ Reach (Through g keys key) from b

-- all open targets of a are marked
abbrev pub IsSettled : List (List ℕ) → List ℕ → ℕ → List ℕ → ℕ → ℕ → Type 0
IsSettled g keys key marks mark a = (b : ℕ) → HasEdge g a b → get_or keys b 0 ≡ key → get_or marks b 0 ≡ mark

-- a search that has found what is marked, while it goes through the targets of `busy`
pub record IsSearch (g : List (List ℕ)) (keys : List ℕ) (key from : ℕ) (marks left : List ℕ) (busy : ℕ) : Type 0 where
  pub sound : (a : ℕ) → a < length marks → get_or marks a 0 ≡ from → IsFound g keys key from a
  pub nodes : (a : ℕ) → Contains left a → (a < length marks) × (get_or marks a 0 ≡ from)
  pub settled : (a : ℕ) → a < length marks → get_or marks a 0 ≡ from → Contains left a ⊎ (IsSettled g keys key marks from a ⊎ (a ≡ busy))

-- how many nodes don't have the mark
abbrev pub unmarked : ℕ → List ℕ → ℕ
unmarked mark [] = 0
unmarked mark (m ∷ ms) = (if nat_eq m mark then 0 else 1) + unmarked mark ms

-- a mark stays, or is the new one
abbrev pub AreKept : ℕ → List ℕ → List ℕ → Type 0
AreKept mark old new = (a : ℕ) → (get_or new a 0 ≡ get_or old a 0) ⊎ (get_or new a 0 ≡ mark)
