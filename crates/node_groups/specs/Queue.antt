-- Who is ready, and who waits for whom.
use Rattle.std.specs.Prelude.{ℕ, ◌≡◌, ◌⊎◌, ◌<◌, ◌≤◌, ◌+◌, List, [], ◌∷◌, Bool, true, false, get_or, length, if◌then◌else◌}
use Rattle.std.specs.List.{Contains}
use Rattle.numbered_nodes.specs.Edges.{HasEdge}

abbrev pub Is : List Bool → ℕ → Bool → Type 0
Is listed x b = get_or listed x false ≡ b

-- Over the edges g of the nodes below n: from the end of each node on its targets are listed; `waiting` has for each
-- node those that wait for it, `ready` the nodes that are ready, `todo` those that are to be put yet.
pub record IsQueue (g : List (List ℕ)) (n : ℕ) (listed : List Bool) (ends : List ℕ) (waiting : List (List ℕ)) (ready todo : List ℕ) : Type 0 where
  pub targets : (x i : ℕ) → get_or ends x 0 ≤ i → i < length (get_or g x []) → Is listed (get_or (get_or g x []) i 0) true
  pub now : (x : ℕ) → Contains ready x → (x < n) × (Is listed x false × ((z : ℕ) → HasEdge g x z → Is listed z true))
  pub waits : (z x : ℕ) → HasEdge waiting z x → Is listed z false → (x < n) × (Is listed x false × HasEdge g x z)
  pub nodes : (x : ℕ) → Contains todo x → (x < n) × Is listed x false
  pub placed : (x : ℕ) → x < n → Is listed x false → Contains todo x ⊎ (Contains ready x ⊎ ((z : ℕ) × HasEdge g x z × Is listed z false × HasEdge waiting z x))

-- how many aren't listed
abbrev pub unlisted : List Bool → ℕ
unlisted [] = 0
unlisted (b ∷ bs) = (if b then 0 else 1) + unlisted bs

-- the end of each node is within its targets
abbrev pub AreEnds : List (List ℕ) → List ℕ → Type 0
AreEnds g ends = (x : ℕ) → get_or ends x 0 ≤ length (get_or g x [])
