-- An environment: the faces that a module sees, each with the fingerprints of its declarations, and what is asked of it.
use Rattle.std.specs.Prelude.{ℕ, ◌+◌, List, [], ◌∷◌, ◌++◌, length, map, filter, find, flat_map, Option, Some, None, Bool, ◌&&◌, not, nat_eq, if◌then◌else◌}
use Rattle.std.specs.List.{AllByRecursion}
use Rattle.std.specs.Ordering.{is_gt}
use Rattle.mk_base.specs.Order.{text_cmp, place_of_space}
use Rattle.mk_base.specs.Texts.{same_text}
use Rattle.mk_base.specs.declared.name.Name.{Name}
use Rattle.mk_base.specs.declared.name.ModName.{ModName}
use Rattle.mk_base.specs.declared.fingerprint.Fingerprint.{Fingerprint}
use Rattle.face_model.specs.declared.decl.Decl.{Decl}
use Rattle.face_model.specs.declared.inst.Inst.{Inst}
use Rattle.face_model.specs.declared.export.Export.{Export}
use Rattle.face_model.specs.declared.face.Face.{Face}
use Rattle.face_model.specs.Formed.{FaceFormed}

-- A face, and the fingerprints of its declarations in their order. Where there are fewer of these, the last declarations have none.
pub record Known : Type 0 where
  pub face : Face
  pub prints : List Fingerprint

abbrev pub Faces : Type 0
Faces = List Known

abbrev pub AreFormed : Faces → Type 0
AreFormed fs = AllByRecursion (λ (k : Known). FaceFormed k.face) fs

-- ---- declarations

abbrev pub same_name : Name → Name → Bool
same_name a b = same_text a.unit.text b.unit.text && (same_text a.module.text b.module.text && (nat_eq (place_of_space a.occ.space) (place_of_space b.occ.space) && same_text a.occ.text b.occ.text))

-- a declaration, and its fingerprint where it has one
abbrev pub Entry : Type 0
Entry = Decl × Option Fingerprint

abbrev pub with_prints : List Decl → List Fingerprint → List Entry
with_prints [] ps = []
with_prints (d ∷ ds) [] = (d, None) ∷ with_prints ds []
with_prints (d ∷ ds) (p ∷ ps) = (d, Some p) ∷ with_prints ds ps

-- the declarations of all faces, in the order of the list
abbrev pub entries : Faces → List Entry
entries fs = flat_map (λ (k : Known). with_prints k.face.decls k.prints) fs

abbrev pub first_entry : Faces → Name → Option Entry
first_entry fs n = find (λ (e : Entry). same_name n e.0.name) (entries fs)

abbrev pub decl_in : Option Entry → Option Decl
decl_in None = None
decl_in (Some e) = Some e.0

abbrev pub print_in : Option Entry → Option Fingerprint
print_in None = None
print_in (Some e) = e.1

-- the first declaration of a name, where the list has one
abbrev pub first_decl : Faces → Name → Option Decl
first_decl fs n = decl_in (first_entry fs n)

-- the fingerprint of that declaration, where it has one
abbrev pub first_print : Faces → Name → Option Fingerprint
first_print fs n = print_in (first_entry fs n)

-- ---- exports

abbrev pub exports_in : Option Known → Option (List Export)
exports_in None = None
exports_in (Some k) = Some k.face.exports

-- what the first face of a module exports, where the list has one
abbrev pub exports_of : Faces → ModName → Option (List Export)
exports_of fs m = exports_in (find (λ (k : Known). same_text m.text k.face.node.module.text) fs)

-- ---- instances

abbrev pub is_inst : Name → Name → Inst → Bool
is_inst class head i = same_name class i.class && same_name head i.head

-- those of one face, by place
abbrev pub insts_in : Name → Name → Known → List Inst
insts_in class head k = filter (is_inst class head) k.face.insts

abbrev pub is_behind : Known → ModName → Bool
is_behind k m = is_gt (text_cmp k.face.node.module.text m.text)

-- the faces by the names of their modules; those of one name in the order of the list
abbrev pub put : Known → Faces → Faces
put k [] = k ∷ []
put k (j ∷ js) = if is_behind k j.face.node.module then j ∷ put k js else k ∷ j ∷ js

abbrev pub by_module : Faces → Faces
by_module [] = []
by_module (k ∷ ks) = put k (by_module ks)

-- the instances of a class at a type constructor, by the names of their modules and then by place
abbrev pub insts_of : Faces → Name → Name → List Inst
insts_of fs class head = flat_map (insts_in class head) (by_module fs)

-- how many of them stand in modules up to one by name
abbrev pub insts_up_to : Faces → Name → Name → ModName → ℕ
insts_up_to fs class head m = length (flat_map (insts_in class head) (filter (λ (k : Known). not (is_behind k m)) fs))
