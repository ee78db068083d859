-- How the tables of the modules of packages come about.
use Rattle.std.specs.Prelude.{ℕ, suc, Bool, not, ◌&&◌, List, [], ◌∷◌, ◌++◌, slice_get, Some, None, Option, map, if◌then◌else◌}
use Rattle.std.specs.List.{filter, flat_map}
use Rattle.std.specs.Option.{option_map_or, option_or}
use Rattle.indexmap.specs.IndexMap.{IndexMap, get, get_by}
use Rattle.mk_base.specs.declared.name.ModName.{ModName}
use Rattle.package_graph.specs.declared.modules.PackageModule.{PackageModule}
use Rattle.package_graph.specs.declared.modules.PackageState.{PackageState}
use Rattle.package_graph.specs.declared.tables.Home.{Home}
use Rattle.package_graph.specs.declared.modules.PackageState.TheVariants.{Good, Damaged, Dangling}
use Rattle.mk_base.specs.Texts.{same_text}
use Rattle.package_graph.specs.Packages.{is_damaged, is_dangling, led_to, least}

abbrev pub is_home : List ℕ → List ℕ → Home → Bool
is_home u m h = same_text u h.unit.now && same_text m h.«module».now

-- the place that a table has for a module of a package
abbrev pub home_in : {S : Type 0} → IndexMap Home ℕ S → List ℕ → List ℕ → Option ℕ
home_in t u m = get_by (is_home u m) t

abbrev pub place_if : Bool → ℕ → Option ℕ
place_if b k = if b then Some k else None

abbrev pub one_place : Option ℕ → List ℕ
one_place (Some k) = k ∷ []
one_place None = []

-- the places to which a module's imports lead
abbrev pub package_targets : List PackageModule → PackageModule → List ℕ
package_targets ps p = flat_map (λ (m : ModName). one_place (led_to ps p.unit.text m.text)) p.reaches

-- the places to which names lead in a module of a package, by the tables
abbrev pub targets_in : {S T : Type 0} → IndexMap Home ℕ S → IndexMap (List ℕ) ℕ T → List ℕ → List ModName → List ℕ
targets_in homes firsts unit names = flat_map (λ (m : ModName). one_place (option_or (home_in homes unit m.text) (get same_text firsts m.text))) names

abbrev pub is_state : PackageState → PackageState → Bool
is_state Damaged s = is_damaged s
is_state Dangling s = is_dangling s
is_state Good s = not (is_damaged s) && not (is_dangling s)

-- the places of the modules whose state passes a test, from a place on
abbrev pub state_places : (PackageState → Bool) → ℕ → List PackageModule → List ℕ
state_places test k [] = []
state_places test k (p ∷ qs) = (if test p.state then k ∷ [] else []) ++ state_places test (suc k) qs

abbrev pub name_at : List PackageModule → ℕ → List ℕ
name_at ps k = option_map_or (λ (p : PackageModule). p.«module».text) (slice_get ps k) []

-- the least name of the modules at these places that pass a test
abbrev pub least_at : List PackageModule → (ℕ → Bool) → List ℕ → Option (List ℕ)
least_at ps test ks = least (map (name_at ps) (filter test ks))
