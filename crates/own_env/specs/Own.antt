-- A list of faces with one more behind it, which has no fingerprints.
use Rattle.std.specs.Prelude.{◌≡◌, ℕ, List, [], ◌∷◌, ◌++◌, Option, find, flat_map, slice_get}
use Rattle.std.specs.Option.{option_to_list}
use Rattle.std.specs.Global.{Vec}
use Rattle.indexmap.specs.IndexMap.{IndexMap, get}
use Rattle.mk_base.specs.declared.name.Name.{Name}
use Rattle.face_model.specs.declared.decl.Decl.{Decl}
use Rattle.face_model.specs.declared.inst.Inst.{Inst}
use Rattle.face_model.specs.declared.face.Face.{Face}
use Rattle.face_model.specs.Environments.{Known, Faces, same_name}
use Rattle.face_model.specs.Formed.{FaceFormed}
use Rattle.face_envs.specs.declared.tables.InstPlace.{InstPlace}
use Rattle.face_envs.specs.Tables.{row_of, inst_row, decls_from, insts_from, module_at, put_all}

abbrev pub known : Face → Known
known f = record { face = f; prints = [] }

abbrev pub with_own : Faces → Face → Faces
with_own fs f = fs ++ known f ∷ []

-- the first declaration of a name among these
abbrev pub decl_of : Name → List Decl → Option Decl
decl_of n ds = find (λ (d : Decl). same_name n d.name) ds

-- the instances that stand at the places of a row
abbrev pub at_row : List Inst → List InstPlace → List Inst
at_row is row = flat_map (λ (b : InstPlace). option_to_list (slice_get is b.place)) row

-- what is kept of a face
module _ {D H C : Type 0} where
  pub record IsOwn (f : Face) (decls : IndexMap Name (Vec (ℕ × ℕ)) D) (insts : IndexMap Name (IndexMap Name (Vec InstPlace) H) C) : Type 0 where
    pub formed : FaceFormed f
    pub of_decls : (n : Name) → row_of (get same_name decls n) ≡ decls_from n 0 0 f.decls
    pub of_insts : (class head : Name) → inst_row (get same_name insts class) head ≡ put_all module_at (insts_from class head f.node.module 0 0 f.insts) []
