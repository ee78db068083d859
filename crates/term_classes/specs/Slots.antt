-- The slots of an arena: their links, the roots of their classes, and what fits them.
use Rattle.std.specs.Prelude.{ℕ, zero, suc, ◌-◌, ◌<◌, ◌≢◌, List, get_or, length, nat_eq, if◌then◌else◌}
use Rattle.term_classes.specs.declared.node.Slot.{Slot}

-- the slot at a place
abbrev pub slot_at : List Slot → ℕ → Slot
slot_at slots i = get_or slots i (record { link = 0; shape = 0; rank = 0; height = 0 })

abbrev pub link_of : List Slot → ℕ → ℕ
link_of slots i = (slot_at slots i).link

abbrev pub rank_of : List Slot → ℕ → ℕ
rank_of slots i = (slot_at slots i).rank

abbrev pub shape_of : List Slot → ℕ → ℕ
shape_of slots i = (slot_at slots i).shape

abbrev pub height_of : List Slot → ℕ → ℕ
height_of slots i = (slot_at slots i).height

-- links stay in range, and lead to greater heights
pub record AreLinked (slots : List Slot) : Type 0 where
  pub within : (i : ℕ) → i < length slots → link_of slots i < length slots
  pub rise : (i : ℕ) → i < length slots → link_of slots i ≢ i → height_of slots i < height_of slots (link_of slots i)
  pub bounded : (i : ℕ) → i < length slots → height_of slots i < 256

-- the end of the links, at most k of them
abbrev pub follow : List Slot → ℕ → ℕ → ℕ
follow slots zero i = i
follow slots (suc k) i = if nat_eq (link_of slots i) i then i else follow slots k (link_of slots i)

unfoldable pub root : List Slot → ℕ → ℕ
root slots i = follow slots (256 - height_of slots i) i
