-- Reading declarations. How a name is read is left open.
use Rattle.std.specs.Prelude.{◌≡◌, ℕ, zero, suc, ◌+◌, ◌-◌, List, [], ◌∷◌, length, Option, Some, None, nat_lt, nat_eq, Bool, true, false, if◌then◌else◌}
use Rattle.wire.specs.Reading.{◌>>=◌, byte_at, num_at, text_at, list_at}
use Rattle.mk_base.specs.declared.name.Name.{Name}
use Rattle.mk_base.specs.declared.name.Space.{Space}
use Rattle.mk_base.specs.declared.name.Space.TheVariants as spaces
use Rattle.mk_base.specs.declared.kind.Kind.{Kind}
use Rattle.mk_base.specs.declared.kind.Kind.TheVariants as kinds
use Rattle.mk_base.specs.declared.ty.Ty.{Ty}
use Rattle.mk_base.specs.declared.ty.Ty.TheVariants as types
use Rattle.face_model.specs.declared.fixity.Assoc.TheVariants.{Left, Right, Neither}
use Rattle.face_model.specs.declared.fixity.Fixity.{Fixity}
use Rattle.face_model.specs.declared.scheme.Constraint.{Constraint}
use Rattle.face_model.specs.declared.scheme.Scheme.{Scheme}
use Rattle.face_model.specs.declared.decl.Field.{Field}
use Rattle.face_model.specs.declared.decl.Constr.{Constr}
use Rattle.face_model.specs.declared.decl.Method.{Method}
use Rattle.face_model.specs.declared.decl.Body.{Body}
use Rattle.face_model.specs.declared.decl.Body.TheVariants.{Value, Alg, Synonym, Class, Abstract}
use Rattle.face_model.specs.declared.decl.Decl.{Decl}
use Rattle.decl_codec.specs.Names.{name_of}
use Rattle.decl_codec.specs.Blobs.{kind_nodes, nodes_of}

-- a number below a count
unfoldable pub below_at : ℕ → List ℕ → Option (ℕ × List ℕ)
below_at count bytes = do
  n ← num_at bytes
  if nat_lt n.0 count then Some n else None

-- a name by its place in a table
unfoldable pub name_at : List Name → List ℕ → Option (Name × List ℕ)
name_at names bytes = do
  n ← below_at (length names) bytes
  Some (name_of names n.0, n.1)

abbrev pub space_of : ℕ → Option Space
space_of b = if nat_eq b 0 then Some spaces.Var else if nat_eq b 1 then Some spaces.Con else if nat_eq b 2 then Some spaces.Ty else None

unfoldable pub full_name_at : List ℕ → Option (Name × List ℕ)
full_name_at bytes = do
  u ← text_at bytes
  m ← text_at u.1
  b ← byte_at m.1
  s ← space_of b.0
  t ← text_at b.1
  Some (record { unit = record { text = u.0 }; «module» = record { text = m.0 }; occ = record { space = s; text = t.0 } }, t.1)

-- ---- flags and fixities

abbrev pub flag_of : ℕ → Option Bool
flag_of b = if nat_eq b 0 then Some false else if nat_eq b 1 then Some true else None

unfoldable pub flag_at : List ℕ → Option (Bool × List ℕ)
flag_at bytes = do
  b ← byte_at bytes
  f ← flag_of b.0
  Some (f, b.1)

abbrev pub fix_of : ℕ → Option (Option Fixity)
fix_of b =
    if nat_eq b 0 then Some None
    else if nat_lt b 11 then Some (Some (record { assoc = Left; level = b - 1 }))
    else if nat_lt b 21 then Some (Some (record { assoc = Right; level = b - 11 }))
    else if nat_lt b 31 then Some (Some (record { assoc = Neither; level = b - 21 }))
    else None

unfoldable pub fix_at : List ℕ → Option (Option Fixity × List ℕ)
fix_at bytes = do
  b ← byte_at bytes
  f ← fix_of b.0
  Some (f, b.1)

-- ---- kinds

-- a kind behind its tag, from how its parts are read
unfoldable pub kind_tagged : (List ℕ → Option (Kind × List ℕ)) → ℕ × List ℕ → Option (Kind × List ℕ)
kind_tagged read tag =
    if nat_eq tag.0 0 then Some (kinds.Star, tag.1)
    else if nat_eq tag.0 1 then (read tag.1 >>= λ f. read f.1 >>= λ x. Some (kinds.Arrow f.0 x.0, x.1))
    else None

unfoldable pub kind_layer : (List ℕ → Option (Kind × List ℕ)) → List ℕ → Option (Kind × List ℕ)
kind_layer read bytes = do
  tag ← byte_at bytes
  kind_tagged read tag

-- with at most so many levels
unfoldable pub kind_tree_at : ℕ → List ℕ → Option (Kind × List ℕ)
kind_tree_at zero bytes = None
kind_tree_at (suc levels) bytes = kind_layer (kind_tree_at levels) bytes

unfoldable pub kind_at : List ℕ → Option (Kind × List ℕ)
kind_at bytes = do
  k ← kind_tree_at 1000 bytes
  if nat_lt 65536 (kind_nodes k.0) then None else Some k

module _ (read_name : List ℕ → Option (Name × List ℕ)) where
  -- ---- types

  unfoldable pub ty_tagged : (List ℕ → Option (Ty × List ℕ)) → ℕ → ℕ × List ℕ → Option (Ty × List ℕ)
  ty_tagged read count tag =
      if nat_eq tag.0 0 then (below_at count tag.1 >>= λ n. Some (types.Var n.0, n.1))
      else if nat_eq tag.0 1 then (read_name tag.1 >>= λ a. Some (types.Con a.0, a.1))
      else if nat_eq tag.0 2 then (read tag.1 >>= λ f. read f.1 >>= λ x. Some (types.App f.0 x.0, x.1))
      else None

  unfoldable pub ty_layer : (List ℕ → Option (Ty × List ℕ)) → ℕ → List ℕ → Option (Ty × List ℕ)
  ty_layer read count bytes = do
    tag ← byte_at bytes
    ty_tagged read count tag

  unfoldable pub ty_tree_at : ℕ → ℕ → List ℕ → Option (Ty × List ℕ)
  ty_tree_at zero count bytes = None
  ty_tree_at (suc levels) count bytes = ty_layer (ty_tree_at levels count) count bytes

  unfoldable pub ty_at : ℕ → List ℕ → Option (Ty × List ℕ)
  ty_at count bytes = do
    t ← ty_tree_at 1000 count bytes
    if nat_lt 65536 (nodes_of t.0) then None else Some t

  -- ---- schemes and bodies

  unfoldable pub constraint_at : ℕ → List ℕ → Option (Constraint × List ℕ)
  constraint_at count bytes = do
    c ← read_name bytes
    t ← ty_at count c.1
    Some (record { class = c.0; ty = t.0 }, t.1)

  unfoldable pub scheme_at : List ℕ → Option (Scheme × List ℕ)
  scheme_at bytes = do
    v ← num_at bytes
    c ← list_at (constraint_at v.0) v.1
    t ← ty_at v.0 c.1
    Some (record { vars = v.0; context = c.0; body = t.0 }, t.1)

  unfoldable pub field_at : ℕ → List ℕ → Option (Field × List ℕ)
  field_at count bytes = do
    l ← text_at bytes
    f ← fix_at l.1
    s ← flag_at f.1
    t ← ty_at count s.1
    Some (record { label = l.0; fixity = f.0; strict = s.0; ty = t.0 }, t.1)

  unfoldable pub constr_at : ℕ → List ℕ → Option (Constr × List ℕ)
  constr_at count bytes = do
    o ← text_at bytes
    f ← fix_at o.1
    fs ← list_at (field_at count) f.1
    Some (record { occ = o.0; fixity = f.0; fields = fs.0 }, fs.1)

  unfoldable pub method_at : List ℕ → Option (Method × List ℕ)
  method_at bytes = do
    o ← text_at bytes
    f ← fix_at o.1
    s ← scheme_at f.1
    Some (record { occ = o.0; fixity = f.0; scheme = s.0 }, s.1)

  unfoldable pub value_at : List ℕ → Option (Body × List ℕ)
  value_at bytes = do
    s ← scheme_at bytes
    Some (Value s.0, s.1)

  unfoldable pub alg_at : Bool → List ℕ → Option (Body × List ℕ)
  alg_at renamed bytes = do
    ks ← list_at kind_at bytes
    cs ← list_at (constr_at (length ks.0)) ks.1
    Some (Alg renamed ks.0 cs.0, cs.1)

  unfoldable pub synonym_at : List ℕ → Option (Body × List ℕ)
  synonym_at bytes = do
    ks ← list_at kind_at bytes
    k ← kind_at ks.1
    t ← ty_at (length ks.0) k.1
    Some (Synonym ks.0 k.0 t.0, t.1)

  unfoldable pub class_at : List ℕ → Option (Body × List ℕ)
  class_at bytes = do
    k ← kind_at bytes
    ss ← list_at read_name k.1
    ms ← list_at method_at ss.1
    Some (Class k.0 ss.0 ms.0, ms.1)

  unfoldable pub abstract_at : List ℕ → Option (Body × List ℕ)
  abstract_at bytes = do
    ks ← list_at kind_at bytes
    Some (Abstract ks.0, ks.1)

  unfoldable pub body_tagged : ℕ × List ℕ → Option (Body × List ℕ)
  body_tagged tag =
      if nat_eq tag.0 0 then value_at tag.1
      else if nat_eq tag.0 1 then alg_at false tag.1
      else if nat_eq tag.0 2 then alg_at true tag.1
      else if nat_eq tag.0 3 then synonym_at tag.1
      else if nat_eq tag.0 4 then class_at tag.1
      else if nat_eq tag.0 5 then abstract_at tag.1
      else None

  unfoldable pub body_at : List ℕ → Option (Body × List ℕ)
  body_at bytes = do
    tag ← byte_at bytes
    body_tagged tag

  -- the declaration of a name
  unfoldable pub decl_at : Name → List ℕ → Option (Decl × List ℕ)
  decl_at name bytes = do
    f ← fix_at bytes
    b ← body_at f.1
    Some (record { name = name; fixity = f.0; body = b.0 }, b.1)
