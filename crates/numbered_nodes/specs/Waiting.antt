-- Who is ready and who waits, of the nodes below n: by their rows of needs, and by who is listed.
use Rattle.std.specs.Prelude.{ℕ, ◌≡◌, ◌⊎◌, ◌<◌, List, [], true, false, get_or}
use Rattle.numbered_nodes.specs.Bits.{has}
use Rattle.numbered_nodes.specs.Edges.{HasEdge, Relates}
use Rattle.numbered_nodes.specs.Order.{IsReady}

module _ (needs : List (List ℕ)) (n : ℕ) (listed : List ℕ) where
  -- all needs of x other than x itself are listed
  abbrev pub IsReadyNow : ℕ → Type 0
  IsReadyNow x = IsReady (Relates needs) n (λ k. has listed k ≡ true) x

  -- z is a need of x, and not x itself, that isn't listed
  pub record IsLeft (x z : ℕ) : Type 0 where
    pub node : z < n
    pub need : Relates needs x z
    pub other : z ≡ x → ⊥
    pub out : has listed z ≡ false

  -- x is in the set of those that are ready, or in the list of a need that is left
  abbrev pub IsPlaced : List ℕ → List (List ℕ) → ℕ → Type 0
  IsPlaced ready waiting x = (has ready x ≡ true) ⊎ ((z : ℕ) × IsLeft x z × HasEdge waiting z x)

  -- from the first set and lists to the others: nodes that are ready came into the set, and nodes came into the lists of unlisted nodes
  pub record IsMore (ready : List ℕ) (waiting : List (List ℕ)) (now : List ℕ) (after : List (List ℕ)) : Type 0 where
    pub grows : (x : ℕ) → has ready x ≡ true → has now x ≡ true
    pub sound : (x : ℕ) → has now x ≡ true → (has ready x ≡ true) ⊎ IsReadyNow x
    pub kept : (z x : ℕ) → HasEdge waiting z x → HasEdge after z x
    pub range : (z x : ℕ) → HasEdge after z x → HasEdge waiting z x ⊎ (x < n)
    pub behind : (z : ℕ) → has listed z ≡ true → get_or after z [] ≡ get_or waiting z []
