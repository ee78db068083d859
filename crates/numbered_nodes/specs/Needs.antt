-- What a node needs, over edges between the nodes below n and `Same`, to be in one loop of modules.
use Rattle.std.specs.Prelude.{ℕ, ◌≡◌, ◌⊎◌, ◌↔◌, ◌<◌, ◌+◌}
use Rattle.numbered_nodes.specs.Reach.{Reach, InOneLoop}

module _ (E Same : ℕ → ℕ → Type 0) (n : ℕ) where
  -- The least set that has every node that q reaches and, with each node of a loop other than q's, all nodes
  -- of that loop and every node that these reach.
  pub data Needs (q : ℕ) : ℕ → Type 0 where
    reached : {x : ℕ} → Reach E q x → Needs q x
    mate : {x y : ℕ} → Needs q x → (Same q x → ⊥) → Same x y → y < n → Needs q y
    beyond : {x y z : ℕ} → Needs q x → (Same q x → ⊥) → Same x y → Reach E y z → Needs q z

  -- one step: an edge, and where it leads into another loop, on to any node of that loop
  abbrev pub Leads : ℕ → ℕ → Type 0
  Leads a b = E a b ⊎ ((z : ℕ) × E a z × (Same a z → ⊥) × Same z b × (b < n))

-- The same by a node of its own for each loop, behind the others, where `loop_of` numbers the loops.
module _ (E : ℕ → ℕ → Type 0) (loop_of : ℕ → ℕ) (n : ℕ) where
  pub data Hub : ℕ → ℕ → Type 0 where
    link : {a b : ℕ} → E a b → Hub a b
    away : {a z h : ℕ} → E a z → (loop_of a ≡ loop_of z → ⊥) → h ≡ n + loop_of z → Hub a h
    into : {h b : ℕ} → h ≡ n + loop_of b → b < n → Hub h b

  abbrev pub InOneNumber : ℕ → ℕ → Type 0
  InOneNumber a b = loop_of a ≡ loop_of b

  abbrev pub HubsLead : Type 0
  HubsLead = ((a b : ℕ) → E a b → (a < n) × (b < n)) → (a b : ℕ) → a < n → b < n → Reach Hub a b ↔ Reach (Leads E InOneNumber n) a b

-- Nodes of modules: an edge of nodes stays in a module or is an edge of modules, and `Same` is one loop of modules.
module _ (E M : ℕ → ℕ → Type 0) (module_of : ℕ → ℕ) (n : ℕ) where
  abbrev pub InLoop : ℕ → ℕ → Type 0
  InLoop a b = InOneLoop M (module_of a) (module_of b)

  abbrev pub Follows : Type 0
  Follows = (a b : ℕ) → E a b → (a < n) × ((module_of a ≡ module_of b) ⊎ M (module_of a) (module_of b))

  -- so needs are what the steps reach
  abbrev pub NeedsAreReached : Type 0
  NeedsAreReached = Follows → ((a b : ℕ) → InLoop a b ⊎ (InLoop a b → ⊥)) → (q x : ℕ) → Needs E InLoop n q x ↔ Reach (Leads E InLoop n) q x
