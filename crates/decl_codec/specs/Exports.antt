-- Exports as bytes, over a table of names.
use Rattle.std.specs.Prelude.{◌≡◌, ℕ, ◌+◌, ◌-◌, List, [], ◌∷◌, ◌++◌, length, Option, Some, None, nat_eq, nat_lt, if◌then◌else◌}
use Rattle.std.specs.List.{Contains}
use Rattle.mk_base.specs.declared.name.Name.{Name}
use Rattle.face_model.specs.declared.export.Export.{Export}
use Rattle.wire.specs.Wire.{num}
use Rattle.wire.specs.Reading.{◌>>=◌, num_at}
use Rattle.decl_codec.specs.Names.{place, name_of}
use Rattle.decl_codec.specs.Reading.{name_at}

module _ (names : List Name) where
  -- a name is its place in the table
  abbrev pub name : Name → List ℕ
  name n = num (place names n)

  -- one more than the parent's place, and 0 where there is none
  abbrev pub parent : Option Name → List ℕ
  parent None = num 0
  parent (Some p) = num (place names p + 1)

  abbrev pub export : Export → List ℕ
  export x = name x.name ++ parent x.parent

  abbrev pub ParentFits : Option Name → Type 0
  ParentFits None = Unit {0}
  ParentFits (Some p) = Contains names p

  abbrev pub ExportFits : Export → Type 0
  ExportFits x = Contains names x.name × ParentFits x.parent

  -- ---- reading

  unfoldable pub parent_at : List ℕ → Option (Option Name × List ℕ)
  parent_at bytes = do
    n ← num_at bytes
    if nat_eq n.0 0 then Some (None, n.1) else if nat_lt (length names) n.0 then None else Some (Some (name_of names (n.0 - 1)), n.1)

  unfoldable pub export_at : List ℕ → Option (Export × List ℕ)
  export_at bytes = do
    a ← name_at names bytes
    p ← parent_at a.1
    Some (record { name = a.0; parent = p.0 }, p.1)
