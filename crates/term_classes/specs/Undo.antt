-- What was written, and what puts it back.
use Rattle.std.specs.Prelude.{ℕ, ◌<◌, ◌≡◌, List, [], ◌∷◌, slice_set, length, get_or}
use Rattle.std.specs.List.{All}
use Rattle.term_classes.specs.declared.node.Slot.{Slot}
use Rattle.term_classes.specs.declared.node.Saved.{Saved}

-- the slots with all that was kept put back, the latest first
abbrev pub rewound : List Saved → List Slot → List Slot
rewound [] slots = slots
rewound (s ∷ rest) slots = slice_set (rewound rest slots) s.at s.slot

-- only places below n were written
abbrev pub HoldsPlaces : ℕ → List Saved → Type 0
HoldsPlaces n saved = All (λ s. s.at < n) saved

abbrev pub IsPlace : List Saved → ℕ → Type 0
IsPlace saved i = (k : ℕ) × (k < length saved) × ((d : Saved) → (get_or saved k d).at ≡ i)

-- what was written is kept, so that it can be put back
pub record Kept (old new : List Slot) (before after : List Saved) : Type 0 where
  pub len : length new ≡ length old
  pub undo : rewound after new ≡ rewound before old
  pub places : HoldsPlaces (length old) before → HoldsPlaces (length old) after
  pub more : (j : ℕ) → IsPlace before j → IsPlace after j
