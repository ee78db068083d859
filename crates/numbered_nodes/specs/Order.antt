-- The order of the nodes 0 to n - 1 by what each needs.
use Rattle.std.specs.Prelude.{ℕ, ◌≡◌, ◌⊎◌, ◌<◌, List, get_or, take, length}
use Rattle.std.specs.List.{Contains}

module _ (Ready Listed : ℕ → Type 0) where
  abbrev pub IsIdle : ℕ → Type 0
  IsIdle y = Listed y ⊎ (Ready y → ⊥)

  -- The least unlisted node that is ready comes next, and where there is none the least unlisted one.
  pub record IsNext (n : ℕ) (x : ℕ) : Type 0 where
    pub node : x < n
    pub new : Listed x → ⊥
    pub least : (Ready x × ((y : ℕ) → y < x → IsIdle y)) ⊎ (((y : ℕ) → y < n → IsIdle y) × ((y : ℕ) → y < x → Listed y))

module _ (Needs : ℕ → ℕ → Type 0) (n : ℕ) where
  -- all nodes that x needs, other than x itself, are listed
  abbrev pub IsReady : (ℕ → Type 0) → ℕ → Type 0
  IsReady Listed x = (z : ℕ) → z < n → Needs x z → (z ≡ x → ⊥) → Listed z

  -- each node is the next one behind those that stand before it
  abbrev pub IsOrder : List ℕ → Type 0
  IsOrder os = (length os ≡ n) × ((i : ℕ) → i < n → IsNext (IsReady (Contains (take i os))) (Contains (take i os)) n (get_or os i 0))

  -- x and all nodes that it needs don't need themselves: there is no cycle before x
  abbrev pub IsCycleFree : ℕ → Type 0
  IsCycleFree x = (Needs x x → ⊥) × ((y : ℕ) → y < n → Needs x y → Needs y y → ⊥)
