-- What fits the parts of an interface.
use Rattle.std.specs.Prelude.{◌<◌, ◌^◌, ◌≡◌, ℕ, ◌≤◌, List, ◌++◌, length}
use Rattle.std.specs.declared.cmp.Ordering.TheVariants.{Less}
use Rattle.mk_base.specs.Order.{name_cmp}
use Rattle.mk_base.specs.declared.name.Name.{Name}
use Rattle.plain_scope.specs.declared.scope.DataDecl.{DataDecl}
use Rattle.plain_scope.specs.Offered.{AreBefore}
use Rattle.plain_face.specs.Interface.{blob, place}
use Rattle.plain_scope.specs.Scope.{entity}
use Rattle.wire.specs.Wire.{num}
use Rattle.mk_base.specs.declared.name.Space.TheVariants.{Ty}

abbrev pub NameFits : Name → Type 0
NameFits n = (length n.unit.text ≤ 64) × (length n.module.text < 2 ^ 32) × (length n.occ.text ≤ 1048576)

abbrev pub DeclFits : DataDecl → Type 0
DeclFits d = (length d.ty ≤ 1048576) × (length d.con ≤ 1048576) × (length d.fields ≤ 1048576)

-- names in order, and not too many
pub record IsOrdered (names : List Name) : Type 0 where
  pub sorted : AreBefore (λ a b. name_cmp a b ≡ Less) names
  pub bound : length names ≤ 4194304

-- the index entry of a declaration of this module
abbrev pub entry_bytes : List ℕ → List ℕ → List Name → DataDecl → List ℕ
entry_bytes unit m names d = num (place names (entity unit m Ty d.ty)) ++ num (length (blob names d))
