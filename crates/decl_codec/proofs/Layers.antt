-- Reading and going over kinds and types, layer by layer.
use Rattle.std.proofs.Common.{◌≡◌, ◌≢◌, ℕ, zero, suc, ◌-◌, List, Option, Some, None, Bool, true, false, refl, arith}
use Rattle.std.specs.Prelude.{nat_eq}
use Rattle.std.proofs.lemmas.Bool.{eqb-true}
use Rattle.mk_base.specs.declared.name.Name.{Name}
use Rattle.wire.specs.Reading.{◌>>=◌, byte_at}
use Rattle.decl_codec.specs.declared.going.Seen.{Seen}
use Rattle.decl_codec.specs.Reading.{kind_tree_at, kind_layer, kind_tagged, ty_tree_at, ty_layer, ty_tagged}
use Rattle.decl_codec.specs.Going.{go_kind_tree, go_kind_tagged, go_ty_tree, go_ty_tagged}

opposite : (b : Bool) → (b ≡ true → ⊥) → b ≡ false
opposite true h = absurd (h refl)
opposite false h = refl

pub differ : (a b : ℕ) → (a ≢ b) → nat_eq a b ≡ false
differ a b h = opposite (nat_eq a b) (λ e. h (eqb-true a b e))

-- ---- kinds

pub kind_layer_of : (levels : ℕ) (bytes : List ℕ) → (levels ≢ 0) → kind_tree_at levels bytes ≡ kind_layer (kind_tree_at (levels - 1)) bytes
unfolding kind_tree_at
kind_layer_of zero bytes h = absurd (h refl)
kind_layer_of (suc levels) bytes h = let e : suc levels - 1 ≡ levels = omega arith in rw e refl

pub no_kind_levels : (levels : ℕ) (bytes : List ℕ) → levels ≡ 0 → kind_tree_at levels bytes ≡ None
unfolding kind_tree_at
no_kind_levels zero bytes h = refl
no_kind_levels (suc levels) bytes h = absurd (omega arith)

pub no_kind_tag : (levels : ℕ) (bytes : List ℕ) (tag : ℕ) (rest : List ℕ) → (levels ≢ 0) → byte_at bytes ≡ Some (tag, rest) → (tag ≢ 0) → (tag ≢ 1) → kind_tree_at levels bytes ≡ None
unfolding kind_tree_at kind_layer kind_tagged
no_kind_tag zero bytes tag rest h e p q = absurd (h refl)
no_kind_tag (suc levels) bytes tag rest h e p q = rw (e, differ tag 0 p, differ tag 1 q) refl

pub go_kind_layer_of : (levels : ℕ) (bytes : List ℕ) → (levels ≢ 0) → go_kind_tree levels bytes ≡ (byte_at bytes >>= go_kind_tagged (go_kind_tree (levels - 1)))
unfolding go_kind_tree
go_kind_layer_of zero bytes h = absurd (h refl)
go_kind_layer_of (suc levels) bytes h = let e : suc levels - 1 ≡ levels = omega arith in rw e refl

pub no_go_kind_levels : (levels : ℕ) (bytes : List ℕ) → levels ≡ 0 → go_kind_tree levels bytes ≡ None
unfolding go_kind_tree
no_go_kind_levels zero bytes h = refl
no_go_kind_levels (suc levels) bytes h = absurd (omega arith)

pub no_go_kind_tag : (levels : ℕ) (bytes : List ℕ) (tag : ℕ) (rest : List ℕ) → (levels ≢ 0) → byte_at bytes ≡ Some (tag, rest) → (tag ≢ 0) → (tag ≢ 1) → go_kind_tree levels bytes ≡ None
unfolding go_kind_tree go_kind_tagged
no_go_kind_tag zero bytes tag rest h e p q = absurd (h refl)
no_go_kind_tag (suc levels) bytes tag rest h e p q = rw (e, differ tag 0 p, differ tag 1 q) refl

-- ---- types

module _ (read_name : List ℕ → Option (Name × List ℕ)) where
  pub ty_layer_of : (levels count : ℕ) (bytes : List ℕ) → (levels ≢ 0) → ty_tree_at read_name levels count bytes ≡ ty_layer read_name (ty_tree_at read_name (levels - 1) count) count bytes
  unfolding ty_tree_at
  ty_layer_of zero count bytes h = absurd (h refl)
  ty_layer_of (suc levels) count bytes h = let e : suc levels - 1 ≡ levels = omega arith in rw e refl

  pub no_ty_levels : (levels count : ℕ) (bytes : List ℕ) → levels ≡ 0 → ty_tree_at read_name levels count bytes ≡ None
  unfolding ty_tree_at
  no_ty_levels zero count bytes h = refl
  no_ty_levels (suc levels) count bytes h = absurd (omega arith)

  pub no_ty_tag : (levels count : ℕ) (bytes : List ℕ) (tag : ℕ) (rest : List ℕ) → (levels ≢ 0) → byte_at bytes ≡ Some (tag, rest) → (tag ≢ 0) → (tag ≢ 1) → (tag ≢ 2) → ty_tree_at read_name levels count bytes ≡ None
  unfolding ty_tree_at ty_layer ty_tagged
  no_ty_tag zero count bytes tag rest h e p q r = absurd (h refl)
  no_ty_tag (suc levels) count bytes tag rest h e p q r = rw (e, differ tag 0 p, differ tag 1 q, differ tag 2 r) refl

module _ (names : ℕ) where
  pub go_ty_layer_of : (levels count : ℕ) (seen : Seen) (bytes : List ℕ) → (levels ≢ 0) → go_ty_tree names levels count seen bytes ≡ (byte_at bytes >>= go_ty_tagged names (go_ty_tree names (levels - 1) count) count seen)
  unfolding go_ty_tree
  go_ty_layer_of zero count seen bytes h = absurd (h refl)
  go_ty_layer_of (suc levels) count seen bytes h = let e : suc levels - 1 ≡ levels = omega arith in rw e refl

  pub no_go_ty_levels : (levels count : ℕ) (seen : Seen) (bytes : List ℕ) → levels ≡ 0 → go_ty_tree names levels count seen bytes ≡ None
  unfolding go_ty_tree
  no_go_ty_levels zero count seen bytes h = refl
  no_go_ty_levels (suc levels) count seen bytes h = absurd (omega arith)

  pub no_go_ty_tag : (levels count : ℕ) (seen : Seen) (bytes : List ℕ) (tag : ℕ) (rest : List ℕ) → (levels ≢ 0) → byte_at bytes ≡ Some (tag, rest) → (tag ≢ 0) → (tag ≢ 1) → (tag ≢ 2) → go_ty_tree names levels count seen bytes ≡ None
  unfolding go_ty_tree go_ty_tagged
  no_go_ty_tag zero count seen bytes tag rest h e p q r = absurd (h refl)
  no_go_ty_tag (suc levels) count seen bytes tag rest h e p q r = rw (e, differ tag 0 p, differ tag 1 q, differ tag 2 r) refl
