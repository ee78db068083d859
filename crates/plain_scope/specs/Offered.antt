-- What a sound module offers, and what of it fits its spelling.
use Rattle.std.specs.Prelude.{◌<◌, ◌^◌, ◌≡◌, ℕ, ◌≤◌, List, [], ◌∷◌, length}
use Rattle.std.specs.List.{flat_map, AllByRecursion}
use Rattle.mk_base.specs.declared.name.Name.{Name}
use Rattle.mk_base.specs.declared.name.Space.TheVariants.{Con, Ty}
use Rattle.plain_scope.specs.declared.scope.DataDecl.{DataDecl}
use Rattle.plain_scope.specs.declared.scope.Content.{Content}
use Rattle.plain_scope.specs.Scope.{entity}

-- one before the next, all along
abbrev pub AreBefore : {X : Type 0} → (X → X → Type 0) → List X → Type 0
AreBefore before [] = Unit {0}
AreBefore before (x ∷ xs) = AllByRecursion (before x) xs × AreBefore before xs

-- the names that an interface speaks of: the types and constructors that it declares, and the types of their fields
abbrev pub names_in : List ℕ → Content → List Name
names_in unit c = flat_map (λ (d : DataDecl). entity unit c.module Ty d.ty ∷ entity unit c.module Con d.con ∷ d.fields) c.datas

-- What a module of the plain form offers once it is sound: no type and no constructor stands twice.
pub record IsSound (unit : List ℕ) (c : Content) : Type 0 where
  pub types : AreBefore (λ (a : DataDecl) (b : DataDecl). a.ty ≡ b.ty → ⊥) c.datas
  pub constructors : AreBefore (λ (a : DataDecl) (b : DataDecl). a.con ≡ b.con → ⊥) c.datas

-- What fits the interface: all texts and counts are far below 2 ^ 32.
pub record Fits (unit : List ℕ) (c : Content) : Type 0 where
  pub unit_fits : length unit ≤ 64
  pub module_fits : length c.module < 2 ^ 32
  pub count_fits : length c.datas ≤ 1048576
  pub types_fit : AllByRecursion (λ (d : DataDecl). (length d.ty ≤ 1048576) × (length d.con ≤ 1048576) × (length d.fields ≤ 1048576)) c.datas
  pub names_fit : AllByRecursion (λ (d : DataDecl). AllByRecursion (λ (n : Name). (length n.unit.text ≤ 64) × (length n.module.text < 2 ^ 32) × (length n.occ.text ≤ 1048576)) d.fields) c.datas
  pub all_fit : length (names_in unit c) ≤ 4194304
