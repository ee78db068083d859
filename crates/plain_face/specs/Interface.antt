-- The plain interface of a module, by its one spelling.
use Rattle.std.specs.Prelude.{◌≡◌, ◌↔◌, ℕ, ◌+◌, List, [], ◌∷◌, ◌++◌, length, Some, None}
use Rattle.std.specs.declared.option.Option.{Option}
use Rattle.std.specs.List.{flat_map, Contains, position_or_len}
use Rattle.std.specs.List.Sorted.{IsPermutation}
use Rattle.std.specs.declared.cmp.Ordering.TheVariants.{Less}
use Rattle.mk_base.specs.Order.{name_cmp, text_cmp}
use Rattle.mk_base.specs.declared.name.Name.{Name}
use Rattle.mk_base.specs.declared.name.Space.{Space}
use Rattle.mk_base.specs.declared.name.Space.TheVariants.{Var, Con, Ty}
use Rattle.plain_scope.specs.declared.scope.DataDecl.{DataDecl}
use Rattle.plain_scope.specs.declared.scope.Content.{Content}
use Rattle.plain_scope.specs.Offered.{AreBefore, names_in}
use Rattle.plain_scope.specs.Scope.{entity, same_entity}
use Rattle.wire.specs.Wire.{num, text, list_of}

-- a table of just these names, each once, by unit, module, space and text
pub record IsTable (unit : List ℕ) (c : Content) (names : List Name) : Type 0 where
  pub sorted : AreBefore (λ a b. name_cmp a b ≡ Less) names
  pub whole : (n : Name) → Contains names n ↔ Contains (names_in unit c) n

-- a name is written as its place in the table
abbrev pub place : List Name → Name → ℕ
place names n = position_or_len (same_entity n) names

abbrev pub space_byte : Space → ℕ
space_byte Var = 0
space_byte Con = 1
space_byte Ty = 2

abbrev pub name_bytes : Name → List ℕ
name_bytes n = text n.unit.text ++ (text n.module.text ++ (space_byte n.occ.space ∷ text n.occ.text))

-- a field: no label, no fixity, not strict, and a type that is one constructor
abbrev pub field_bytes : List Name → Name → List ℕ
field_bytes names n = 0 ∷ 0 ∷ 0 ∷ 1 ∷ num (place names n)

-- a declaration: no fixity, a data type of no parameters, with one constructor without fixity
abbrev pub blob : List Name → DataDecl → List ℕ
blob names d = 0 ∷ 1 ∷ 0 ∷ 1 ∷ (text d.con ++ (0 ∷ list_of (field_bytes names) d.fields))

abbrev pub type_name : List ℕ → Content → DataDecl → Name
type_name unit c d = entity unit c.module Ty d.ty

-- the declarations by name, each with the length of its blob
abbrev pub index_bytes : List ℕ → Content → List Name → DataDecl → List ℕ
index_bytes unit c names d = num (place names (type_name unit c d)) ++ num (length (blob names d))

-- an export: a type, or a constructor with its type
abbrev pub exports_in : List ℕ → Content → List (Name × Option Name)
exports_in unit c = flat_map (λ (d : DataDecl). (type_name unit c d, None) ∷ (entity unit c.module Con d.con, Some (type_name unit c d)) ∷ []) c.datas

abbrev pub parent_bytes : List Name → Option Name → List ℕ
parent_bytes names (Some n) = num (place names n + 1)
parent_bytes names None = num 0

abbrev pub export_bytes : List Name → Name × Option Name → List ℕ
export_bytes names e = num (place names e.0) ++ parent_bytes names e.1

-- The plain interface: magic, version 0, unit, module, no boot source, the name table, the index, the blobs and the exports, the last three by name.
pub record IsInterface (unit : List ℕ) (c : Content) (bytes : List ℕ) : Type 0 where
  pub names : List Name
  pub table : IsTable unit c names
  pub decls : List DataDecl
  pub same_decls : IsPermutation c.datas decls
  pub decls_sorted : AreBefore (λ (a : DataDecl) (b : DataDecl). text_cmp a.ty b.ty ≡ Less) decls
  pub exports : List (Name × Option Name)
  pub same_exports : IsPermutation (exports_in unit c) exports
  pub exports_sorted : AreBefore (λ (a : Name × Option Name) (b : Name × Option Name). name_cmp a.0 b.0 ≡ Less) exports
  pub spelled : bytes ≡ 72 ∷ 83 ∷ 70 ∷ 73 ∷ 0 ∷ (text unit ++ (text c.module ++ (0 ∷ (list_of name_bytes names
      ++ (list_of (index_bytes unit c names) decls ++ (flat_map (blob names) decls ++ list_of (export_bytes names) exports))))))
