-- The groups of the nodes 0 to n - 1: the classes of mutual reach, each behind all that its members lead to, and the
-- one with the least first member where several may come.
use Rattle.std.specs.Prelude.{ℕ, ◌<◌, ◌↔◌, List, [], get_or, take, length}
use Rattle.std.specs.List.{Contains}
use Rattle.numbered_nodes.specs.Reach.{InOneLoop}
use Rattle.node_groups.specs.Rising.{AreRising}

-- x stands in one of the groups
abbrev pub IsIn : List (List ℕ) → ℕ → Type 0
IsIn gs x = (i : ℕ) × (i < length gs) × Contains (get_or gs i []) x

module _ (E : ℕ → ℕ → Type 0) (n : ℕ) where
  -- one class of mutual reach, its members rising
  pub record IsClass (xs : List ℕ) : Type 0 where
    pub some : 0 < length xs
    pub members : (x : ℕ) → Contains xs x ↔ ((x < n) × InOneLoop E (get_or xs 0 0) x)
    pub rising : AreRising xs

  -- all that the class of x leads to, but the class itself, is listed
  abbrev pub IsReady : (ℕ → Type 0) → ℕ → Type 0
  IsReady Listed x = (a b : ℕ) → InOneLoop E x a → E a b → (InOneLoop E x b → ⊥) → Listed b

  -- the unlisted class that is ready and has the least first member
  pub record IsNext (Listed : ℕ → Type 0) (xs : List ℕ) : Type 0 where
    pub class : IsClass xs
    pub new : Listed (get_or xs 0 0) → ⊥
    pub ready : IsReady Listed (get_or xs 0 0)
    pub least : (y : ℕ) → y < get_or xs 0 0 → IsReady Listed y → Listed y

  -- each node is in a group, and each group is the next one behind those that stand before it
  abbrev pub IsGroups : List (List ℕ) → Type 0
  IsGroups gs = ((x : ℕ) → x < n → IsIn gs x) × ((i : ℕ) → i < length gs → IsNext (IsIn (take i gs)) (get_or gs i []))
