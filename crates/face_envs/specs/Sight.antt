-- Which of the faces are asked.
use Rattle.std.specs.Prelude.{ℕ, ◌<◌, List, [], ◌∷◌, Bool, true, nat_eq, flat_map, slice_get}
use Rattle.std.specs.List.{AllByRecursion, list_any}
use Rattle.std.specs.Option.{option_to_list}
use Rattle.face_envs.specs.declared.sight.Seen.{Seen}
use Rattle.face_envs.specs.declared.sight.Seen.TheVariants.{All, Places}

-- each number is greater than those before it
abbrev pub AreRising : List ℕ → Type 0
AreRising [] = Unit {0}
AreRising (x ∷ xs) = AllByRecursion (λ (y : ℕ). x < y) xs × AreRising xs

abbrev pub IsRising : Seen → Type 0
IsRising All = Unit {0}
IsRising (Places places) = AreRising places.now

-- a face is among those that are asked
abbrev pub sees : Seen → ℕ → Bool
sees All f = true
sees (Places places) f = list_any (nat_eq f) places.now

-- what stands at some places
abbrev pub at_places : {A : Type 0} → List A → List ℕ → List A
at_places fs places = flat_map (λ (f : ℕ). option_to_list (slice_get fs f)) places
