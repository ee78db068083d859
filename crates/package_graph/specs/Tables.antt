-- What is kept of the modules of packages.
use Rattle.std.specs.Prelude.{◌≡◌, ◌↔◌, ◌<◌, ℕ, true, List, length, slice_get, Some, Option}
use Rattle.indexmap.specs.IndexMap.{get}
use Rattle.numbered_nodes.specs.Bits.{room_for}
use Rattle.numbered_nodes.specs.Edges.{Relates, HaveRoom}
use Rattle.package_graph.specs.declared.modules.PackageModule.{PackageModule}
use Rattle.package_graph.specs.declared.packages.Packages.{Packages}
use Rattle.mk_base.specs.Texts.{same_text}
use Rattle.package_graph.specs.Packages.{first_package, has_package, least_faulty, is_damaged, is_dangling}

abbrev pub first_in : Packages → List ℕ → Option ℕ
first_in t m = get same_text t.firsts m

-- The table of these modules: the first of each name, a row for each with itself and what it reaches, and for each the
-- least name of a damaged and of a dangling module among these.
pub record AreTables (t : Packages) (ps : List PackageModule) : Type 0 where
  pub first : (m : List ℕ) → first_in t m ≡ first_package ps m
  pub count : length t.rows.items ≡ length ps
  pub room : HaveRoom (room_for (length ps)) t.rows.items
  pub rows : (j k : ℕ) → j < length ps → k < length ps → Relates t.rows.items j k ↔ (has_package ps j k ≡ true)
  pub damaged_count : length t.damaged.items ≡ length ps
  pub damaged : (j : ℕ) → j < length ps → slice_get t.damaged.items j ≡ Some (least_faulty ps is_damaged j)
  pub dangling_count : length t.dangling.items ≡ length ps
  pub dangling : (j : ℕ) → j < length ps → slice_get t.dangling.items j ≡ Some (least_faulty ps is_dangling j)
