-- Tables of names, and names as bytes.
use Rattle.std.specs.Prelude.{◌≡◌, ℕ, ◌≤◌, ◌^◌, List, [], ◌∷◌, ◌++◌, length, map, get_or, Bool}
use Rattle.std.specs.List.{position_or_len}
use Rattle.std.specs.List.Sorted.{IsStrictlySortedBy}
use Rattle.std.specs.Ordering.{is_eq}
use Rattle.mk_base.specs.Order.{name_cmp, place_of_space}
use Rattle.mk_base.specs.declared.name.Name.{Name}
use Rattle.mk_base.specs.declared.name.Space.TheVariants.{Var}
use Rattle.wire.specs.Wire.{text, IsText}

-- by unit, module, space and text, no name twice
abbrev pub AreRising : List Name → Type 0
AreRising names = IsStrictlySortedBy name_cmp names

-- where a name stands in a table, counted from 0
abbrev pub place : List Name → Name → ℕ
place names n = position_or_len (λ m. is_eq (name_cmp n m)) names

-- a name with empty texts
abbrev pub no_name : Name
no_name = record { unit = record { text = [] }; «module» = record { text = [] }; occ = record { space = Var; text = [] } }

-- the name at a place of a table
abbrev pub name_of : List Name → ℕ → Name
name_of names k = get_or names k no_name

-- the names at some places
abbrev pub names_at : List Name → List ℕ → List Name
names_at names places = map (name_of names) places

-- a full name: unit, module, the byte of the space, and the name's own text
abbrev pub full_name : Name → List ℕ
full_name n = text n.unit.text ++ (text n.module.text ++ (place_of_space n.occ.space ∷ text n.occ.text))

pub record NameFits (n : Name) : Type 0 where
  pub unit : IsText n.unit.text
  pub «module» : IsText n.module.text
  pub text : IsText n.occ.text
