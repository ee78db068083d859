-- Edges between the nodes 0, 1, .., as lists of targets, and relations between nodes, as rows of bits.
use Rattle.std.specs.Prelude.{ℕ, ◌≡◌, ◌<◌, List, [], true, get_or, map, Vec}
use Rattle.std.specs.Global.{Global}
use Rattle.std.specs.List.{Contains, All}
use Rattle.numbered_nodes.specs.Bits.{has, room}

-- the targets of each node, as lists
abbrev pub lists : List (Vec ℕ Global) → List (List ℕ)
lists g = map (λ v. v.items) g

-- b is a target of a; a node past the last has none
abbrev pub HasEdge : List (List ℕ) → ℕ → ℕ → Type 0
HasEdge g a b = Contains (get_or g a []) b

-- each target is a node below n
abbrev pub InRange : List (List ℕ) → ℕ → Type 0
InRange g n = All (λ row. All (λ b. b < n) row) g

-- b stands in the row of a; a node past the last relates to none
abbrev pub Relates : List (List ℕ) → ℕ → ℕ → Type 0
Relates rows a b = has (get_or rows a []) b ≡ true

-- each row has room for r numbers
abbrev pub HaveRoom : ℕ → List (List ℕ) → Type 0
HaveRoom r rows = All (λ row. room row ≡ r) rows
