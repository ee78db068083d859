-- What the tables of an environment hold, against its faces.
use Rattle.std.specs.Prelude.{ℕ, ◌+◌, List, [], ◌∷◌, ◌++◌, Option, Some, None, Bool, ◌&&◌, if◌then◌else◌, slice_get, ◌≡◌}
use Rattle.std.specs.Global.{Vec}
use Rattle.std.specs.Ordering.{is_gt}
use Rattle.indexmap.specs.IndexMap.{IndexMap, get}
use Rattle.mk_base.specs.Order.{text_cmp}
use Rattle.mk_base.specs.Texts.{same_text}
use Rattle.mk_base.specs.declared.name.Name.{Name}
use Rattle.mk_base.specs.declared.name.ModName.{ModName}
use Rattle.face_model.specs.declared.decl.Decl.{Decl}
use Rattle.face_model.specs.declared.inst.Inst.{Inst}
use Rattle.face_model.specs.Environments.{Known, Faces, Entry, AreFormed, same_name, is_inst, with_prints}
use Rattle.face_envs.specs.declared.tables.InstPlace.{InstPlace}

-- what a table has for a key, and nothing where it hasn't the key
abbrev pub row_of : {A : Type 0} → Option (Vec A) → List A
row_of None = []
row_of (Some v) = v.items

-- ---- declarations by name: the place of a face, and that of the declaration in it

-- those of a name in a face, from one on
abbrev pub decls_from : Name → ℕ → ℕ → List Decl → List (ℕ × ℕ)
decls_from n f d [] = []
decls_from n f d (x ∷ xs) = if same_name n x.name then (f, d) ∷ decls_from n f (d + 1) xs else decls_from n f (d + 1) xs

abbrev pub decl_places : Name → ℕ → Faces → List (ℕ × ℕ)
decl_places n f [] = []
decl_places n f (k ∷ ks) = decls_from n f 0 k.face.decls ++ decl_places n (f + 1) ks

-- the declaration at a place, with its fingerprint
abbrev pub entry_in : ℕ → Option Known → Option Entry
entry_in d None = None
entry_in d (Some k) = slice_get (with_prints k.face.decls k.prints) d

abbrev pub entry_at : Faces → ℕ × ℕ → Option Entry
entry_at fs p = entry_in p.1 (slice_get fs p.0)

-- ---- the faces of a module

abbrev pub same_module : ModName → ModName → Bool
same_module a b = same_text a.text b.text

abbrev pub face_places : ModName → ℕ → Faces → List ℕ
face_places m f [] = []
face_places m f (k ∷ ks) = if same_module m k.face.node.module then f ∷ face_places m (f + 1) ks else face_places m (f + 1) ks

-- ---- instances, by the names of their modules and then by place

-- whether a module's name comes behind another's
abbrev pub is_later : ModName → ModName → Bool
is_later a b = is_gt (text_cmp a.text b.text)

module _ {T : Type 0} (module_of : T → ModName) where
  -- one element put behind those that it doesn't come before, up to the first that comes behind it
  abbrev pub put_behind : T → List T → List T
  put_behind x [] = x ∷ []
  put_behind x (y ∷ ys) = if is_later (module_of y) (module_of x) then x ∷ y ∷ ys else y ∷ put_behind x ys

  -- one after another
  abbrev pub put_all : List T → List T → List T
  put_all [] ys = ys
  put_all (x ∷ xs) ys = put_all xs (put_behind x ys)

abbrev pub module_at : InstPlace → ModName
module_at p = p.module

-- what a class's table has for a type constructor, and nothing where there is none
abbrev pub inst_row : {S : Type 0} → Option (IndexMap Name (Vec InstPlace) S) → Name → List InstPlace
inst_row None head = []
inst_row (Some t) head = row_of (get same_name t head)

-- those of a class at a type constructor in a face, from one on
abbrev pub insts_from : Name → Name → ModName → ℕ → ℕ → List Inst → List InstPlace
insts_from class head m f i [] = []
insts_from class head m f i (x ∷ xs) = if is_inst class head x then (record { «module» = m; face = f; place = i }) ∷ insts_from class head m f (i + 1) xs else insts_from class head m f (i + 1) xs

-- those of all faces, in the order of the list
abbrev pub inst_places : Name → Name → ℕ → Faces → List InstPlace
inst_places class head f [] = []
inst_places class head f (k ∷ ks) = insts_from class head k.face.node.module f 0 k.face.insts ++ inst_places class head (f + 1) ks

abbrev pub inst_in : ℕ → Option Known → Option Inst
inst_in i None = None
inst_in i (Some k) = slice_get k.face.insts i

-- the instance at a place
abbrev pub inst_at : Faces → InstPlace → Option Inst
inst_at fs p = inst_in p.place (slice_get fs p.face)

-- ---- some of the faces

-- those whose numbers pass a test
abbrev pub seen_from : (ℕ → Bool) → ℕ → Faces → Faces
seen_from p f [] = []
seen_from p f (k ∷ ks) = if p f then k ∷ seen_from p (f + 1) ks else seen_from p (f + 1) ks

-- ---- all tables of a list of faces

module _ {D M C H : Type 0} where
  pub record AreTables (fs : Faces) (decls : IndexMap Name (Vec (ℕ × ℕ)) D) (modules : IndexMap ModName (Vec ℕ) M) (insts : IndexMap Name (IndexMap Name (Vec InstPlace) H) C) : Type 0 where
    pub formed : AreFormed fs
    pub of_decls : (n : Name) → row_of (get same_name decls n) ≡ decl_places n 0 fs
    pub of_modules : (m : ModName) → row_of (get same_module modules m) ≡ face_places m 0 fs
    pub of_insts : (class head : Name) → inst_row (get same_name insts class) head ≡ put_all module_at (inst_places class head 0 fs) []
