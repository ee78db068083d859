-- One root linked to another.
use Rattle.std.specs.Prelude.{ℕ, ◌≡◌, ◌≢◌, List, length}
use Rattle.term_classes.specs.declared.node.Slot.{Slot}
use Rattle.term_classes.specs.declared.node.Saved.{Saved}
use Rattle.term_classes.specs.Undo.{IsPlace}
use Rattle.term_classes.specs.Slots.{link_of, shape_of, rank_of}

-- the root `from` leads to `to`, whose shape and rank are new
pub record Joined (old new : List Slot) (from to shape rank : ℕ) : Type 0 where
  pub len : length new ≡ length old
  pub link_from : link_of new from ≡ to
  pub link_other : (i : ℕ) → i ≢ from → link_of new i ≡ link_of old i
  pub shape_to : shape_of new to ≡ shape
  pub shape_other : (i : ℕ) → i ≢ to → shape_of new i ≡ shape_of old i
  pub rank_to : rank_of new to ≡ rank
  pub rank_other : (i : ℕ) → i ≢ to → rank_of new i ≡ rank_of old i

-- and the place of `to` is kept
pub record JoinedAt (old new : List Slot) (from to shape rank : ℕ) (saved : List Saved) : Type 0 where
  pub joined : Joined old new from to shape rank
  pub place : IsPlace saved to
