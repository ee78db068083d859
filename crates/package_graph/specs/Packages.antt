-- The modules of packages: where a name leads, what they reach, and which of these are damaged or dangle.
use Rattle.std.specs.Prelude.{ℕ, suc, Bool, true, false, ◌&&◌, ◌||◌, nat_eq, List, [], ◌∷◌, ◌++◌, length, slice_get, Some, None, Option, position, if◌then◌else◌}
use Rattle.std.specs.List.{list_any}
use Rattle.std.specs.Option.{option_map_or, option_or}
use Rattle.std.specs.Ordering.{is_lt}
use Rattle.mk_base.specs.Order.{text_cmp}
use Rattle.mk_base.specs.declared.name.ModName.{ModName}
use Rattle.package_graph.specs.declared.modules.PackageModule.{PackageModule}
use Rattle.package_graph.specs.declared.modules.PackageState.{PackageState}
use Rattle.package_graph.specs.declared.modules.PackageState.TheVariants.{Damaged, Dangling}
use Rattle.mk_base.specs.Texts.{same_text}
use Rattle.numbered_nodes.specs.Chains.{is_at, over}

abbrev pub is_damaged : PackageState → Bool
is_damaged Damaged = true
is_damaged _ = false

abbrev pub is_dangling : PackageState → Bool
is_dangling Dangling = true
is_dangling _ = false

-- the least text, by its bytes
abbrev pub lesser : List ℕ → Option (List ℕ) → List ℕ
lesser m None = m
lesser m (Some n) = if is_lt (text_cmp m n) then m else n

abbrev pub least : List (List ℕ) → Option (List ℕ)
least [] = None
least (m ∷ ms) = Some (lesser m (least ms))

module _ (ps : List PackageModule) where
  -- the place of the first package module of this name
  abbrev pub first_package : List ℕ → Option ℕ
  first_package m = position (λ (p : PackageModule). same_text m p.module.text) ps

  -- the place of the module of this name in a package
  abbrev pub in_package : List ℕ → List ℕ → Option ℕ
  in_package u m = position (λ (p : PackageModule). same_text u p.unit.text && same_text m p.module.text) ps

  -- where a name in a package's module leads: to its own package, else to the first package that has it
  abbrev pub led_to : List ℕ → List ℕ → Option ℕ
  led_to u m = option_or (in_package u m) (first_package m)

  abbrev pub package_leads : ℕ → ℕ → Bool
  package_leads j k = option_map_or (λ (p : PackageModule). list_any (λ (m : ModName). is_at (led_to p.unit.text m.text) k) p.reaches) (slice_get ps j) false

  -- the module at j is the one at k, or it reaches that one
  abbrev pub has_package : ℕ → ℕ → Bool
  has_package j k = nat_eq j k || over package_leads (length ps) j k

  -- the names of the modules in some state among the one at j and those that it reaches, from place k on
  abbrev pub faulty_from : (PackageState → Bool) → ℕ → ℕ → List PackageModule → List (List ℕ)
  faulty_from test j k [] = []
  faulty_from test j k (p ∷ qs) = (if test p.state && has_package j k then p.module.text ∷ [] else []) ++ faulty_from test j (suc k) qs

  abbrev pub least_faulty : (PackageState → Bool) → ℕ → Option (List ℕ)
  least_faulty test j = least (faulty_from test j 0 ps)
