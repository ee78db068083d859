-- Going over a declaration without building it: the same reading, which keeps the places of the names that occur and
-- the names that belong to the declaration, each behind those that were kept before.
use Rattle.std.specs.Prelude.{◌≡◌, ℕ, zero, suc, ◌+◌, List, [], ◌∷◌, ◌++◌, length, Option, Some, None, nat_lt, nat_eq, if◌then◌else◌}
use Rattle.wire.specs.Reading.{◌>>=◌, byte_at, num_at, text_at}
use Rattle.mk_base.specs.declared.name.Occ.{Occ}
use Rattle.mk_base.specs.declared.name.Space.TheVariants as spaces
use Rattle.decl_codec.specs.declared.going.Seen.{Seen}
use Rattle.decl_codec.specs.Blobs.{label_occs}
use Rattle.decl_codec.specs.Reading.{below_at, flag_at, fix_at}

-- what was kept, and the bytes behind
abbrev pub Went : Type 0
Went = Option (Seen × List ℕ)

abbrev pub with_place : Seen → ℕ → Seen
with_place seen k = record { places = seen.places ++ k ∷ []; occs = seen.occs }

abbrev pub with_occs : Seen → List Occ → Seen
with_occs seen occs = record { places = seen.places; occs = seen.occs ++ occs }

-- so many of a kind
unfoldable pub go_times : (Seen → List ℕ → Went) → ℕ → Seen → List ℕ → Went
go_times go zero seen bytes = Some (seen, bytes)
go_times go (suc n) seen bytes = do
  x ← go seen bytes
  go_times go n x.0 x.1

unfoldable pub go_list : (Seen → List ℕ → Went) → Seen → List ℕ → Went
go_list go seen bytes = do
  n ← num_at bytes
  go_times go n.0 seen n.1

-- ---- kinds: how many nodes

unfoldable pub go_kind_tagged : (List ℕ → Option (ℕ × List ℕ)) → ℕ × List ℕ → Option (ℕ × List ℕ)
go_kind_tagged go tag =
    if nat_eq tag.0 0 then Some (1, tag.1)
    else if nat_eq tag.0 1 then (go tag.1 >>= λ f. go f.1 >>= λ x. Some (f.0 + x.0 + 1, x.1))
    else None

unfoldable pub go_kind_tree : ℕ → List ℕ → Option (ℕ × List ℕ)
go_kind_tree zero bytes = None
go_kind_tree (suc levels) bytes = byte_at bytes >>= go_kind_tagged (go_kind_tree levels)

unfoldable pub go_kind : List ℕ → Option (List ℕ)
go_kind bytes = do
  k ← go_kind_tree 1000 bytes
  if nat_lt 65536 k.0 then None else Some k.1

unfoldable pub go_kind_times : ℕ → List ℕ → Option (List ℕ)
go_kind_times zero bytes = Some bytes
go_kind_times (suc n) bytes = go_kind bytes >>= go_kind_times n

-- the kinds of parameters: how many there are
unfoldable pub go_kinds : List ℕ → Option (ℕ × List ℕ)
go_kinds bytes = do
  n ← num_at bytes
  rest ← go_kind_times n.0 n.1
  Some (n.0, rest)

unfoldable pub go_abstract : Seen → List ℕ → Went
go_abstract seen bytes = do
  n ← go_kinds bytes
  Some (seen, n.1)

-- a table of so many names
module _ (names : ℕ) where
  unfoldable pub go_name : Seen → List ℕ → Went
  go_name seen bytes = do
    k ← below_at names bytes
    Some (with_place seen k.0, k.1)

  -- ---- types: what was kept, and how many nodes

  unfoldable pub go_ty_tagged : (Seen → List ℕ → Option ((Seen × ℕ) × List ℕ)) → ℕ → Seen → ℕ × List ℕ → Option ((Seen × ℕ) × List ℕ)
  go_ty_tagged go count seen tag =
      if nat_eq tag.0 0 then (below_at count tag.1 >>= λ n. Some ((seen, 1), n.1))
      else if nat_eq tag.0 1 then (go_name seen tag.1 >>= λ a. Some ((a.0, 1), a.1))
      else if nat_eq tag.0 2 then (go seen tag.1 >>= λ f. go f.0.0 f.1 >>= λ x. Some ((x.0.0, f.0.1 + x.0.1 + 1), x.1))
      else None

  unfoldable pub go_ty_tree : ℕ → ℕ → Seen → List ℕ → Option ((Seen × ℕ) × List ℕ)
  go_ty_tree zero count seen bytes = None
  go_ty_tree (suc levels) count seen bytes = byte_at bytes >>= go_ty_tagged (go_ty_tree levels count) count seen

  unfoldable pub go_ty : ℕ → Seen → List ℕ → Went
  go_ty count seen bytes = do
    t ← go_ty_tree 1000 count seen bytes
    if nat_lt 65536 t.0.1 then None else Some (t.0.0, t.1)

  -- ---- schemes and bodies

  unfoldable pub go_constraint : ℕ → Seen → List ℕ → Went
  go_constraint count seen bytes = do
    c ← go_name seen bytes
    go_ty count c.0 c.1

  unfoldable pub go_scheme : Seen → List ℕ → Went
  go_scheme seen bytes = do
    v ← num_at bytes
    c ← go_list (go_constraint v.0) seen v.1
    go_ty v.0 c.0 c.1

  unfoldable pub go_field : ℕ → Seen → List ℕ → Went
  go_field count seen bytes = do
    l ← text_at bytes
    f ← fix_at l.1
    s ← flag_at f.1
    go_ty count (with_occs seen (label_occs l.0)) s.1

  unfoldable pub go_constr : ℕ → Seen → List ℕ → Went
  go_constr count seen bytes = do
    o ← text_at bytes
    f ← fix_at o.1
    go_list (go_field count) (with_occs seen (record { space = spaces.Con; text = o.0 } ∷ [])) f.1

  unfoldable pub go_method : Seen → List ℕ → Went
  go_method seen bytes = do
    o ← text_at bytes
    f ← fix_at o.1
    go_scheme (with_occs seen (record { space = spaces.Var; text = o.0 } ∷ [])) f.1

  unfoldable pub go_alg : Seen → List ℕ → Went
  go_alg seen bytes = do
    n ← go_kinds bytes
    go_list (go_constr n.0) seen n.1

  unfoldable pub go_synonym : Seen → List ℕ → Went
  go_synonym seen bytes = do
    n ← go_kinds bytes
    rest ← go_kind n.1
    go_ty n.0 seen rest

  unfoldable pub go_class : Seen → List ℕ → Went
  go_class seen bytes = do
    rest ← go_kind bytes
    s ← go_list go_name seen rest
    go_list go_method s.0 s.1

  unfoldable pub go_tagged : Seen → ℕ × List ℕ → Went
  go_tagged seen tag =
      if nat_eq tag.0 0 then go_scheme seen tag.1
      else if nat_eq tag.0 1 then go_alg seen tag.1
      else if nat_eq tag.0 2 then go_alg seen tag.1
      else if nat_eq tag.0 3 then go_synonym seen tag.1
      else if nat_eq tag.0 4 then go_class seen tag.1
      else if nat_eq tag.0 5 then go_abstract seen tag.1
      else None

  unfoldable pub go_decl : Seen → List ℕ → Went
  go_decl seen bytes = do
    f ← fix_at bytes
    tag ← byte_at f.1
    go_tagged seen tag
