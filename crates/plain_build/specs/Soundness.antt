-- Which needs are sound.
use Rattle.std.specs.Prelude.{ℕ, Bool, false, not, List, slice_get}
use Rattle.std.specs.declared.option.Option.{Option}
use Rattle.std.specs.Option.{option_map_or}
use Rattle.std.specs.List.{find}
use Rattle.mk_base.specs.declared.place.NodeId.{NodeId}

-- the node at this place is done and sound
abbrev pub is_sound_at : List Bool → ℕ → Bool
is_sound_at sound k = option_map_or (λ (b : Bool). b) (slice_get sound k) false

-- the first of some needs that isn't sound, or isn't done yet
abbrev pub first_unsound : List Bool → List NodeId → Option NodeId
first_unsound sound needs = find (λ (n : NodeId). not (is_sound_at sound n.0)) needs
