-- Scope and diagnostics of a module (Haskell 2010 Report, chapter 5): the names in scope are pairs of a name and an entity.
use Rattle.std.specs.Prelude.{ℕ, Bool, true, false, ◌&&◌, List, [], ◌∷◌, ◌++◌, map, slice_get, codes, if◌then◌else◌}
use Rattle.std.specs.Option.{option_to_list}
use Rattle.std.specs.List.{list_all, list_any, flat_map, filter}
use Rattle.mk_base.specs.declared.name.Name.{Name}
use Rattle.mk_base.specs.declared.name.Space.{Space}
use Rattle.mk_base.specs.declared.name.Space.TheVariants.{Var, Con, Ty}
use Rattle.mk_base.specs.declared.diag.Diag.{Diag}
use Rattle.mk_base.specs.declared.place.Pos.{Pos}
use Rattle.plain_form.specs.declared.form.Word.{Word}
use Rattle.plain_form.specs.declared.form.DataItem.{DataItem}
use Rattle.plain_form.specs.declared.form.Written.{Written}
use Rattle.plain_scope.specs.declared.scope.DataDecl.{DataDecl}
use Rattle.plain_scope.specs.declared.scope.Content.{Content}
use Rattle.plain_scope.specs.declared.scope.Checked.{Checked}
use Rattle.plain_scope.specs.declared.scope.Checked.TheVariants.{Sound, Wrong}
use Rattle.mk_base.specs.Texts.{same_text}

abbrev pub entity : List ℕ → List ℕ → Space → List ℕ → Name
entity unit m space text = record { unit = record { text = unit }; «module» = record { text = m }; occ = record { space = space; text = text } }

-- two names of the tree's unit are the same where module, space and text are
abbrev pub same_space : Space → Space → Bool
same_space Var Var = true
same_space Con Con = true
same_space Ty Ty = true
same_space _ _ = false

abbrev pub same_entity : Name → Name → Bool
same_entity a b = same_text a.unit.text b.unit.text && (same_text a.module.text b.module.text && (same_space a.occ.space b.occ.space && same_text a.occ.text b.occ.text))

-- A name in scope: its qualifier, empty for a plain name, and the entity, which has the name's space and text.
pub record Pair : Type 0 where
  pub qualifier : List ℕ
  pub entity : Name

-- a module exports the types and constructors that it declares
abbrev pub exports_of : List ℕ → List ℕ → List (List ℕ × List ℕ) → List Name
exports_of unit m ds = flat_map (λ d. entity unit m Ty d.0 ∷ entity unit m Con d.1 ∷ []) ds

-- each entity is in scope by its plain name and by the name qualified with the module
abbrev pub brought : List ℕ → List Name → List Pair
brought m es = flat_map (λ e. record { qualifier = []; entity = e } ∷ record { qualifier = m; entity = e } ∷ []) es

abbrev pub heads : List DataItem → List (List ℕ × List ℕ)
heads ds = map (λ (d : DataItem). (d.ty.text, d.con.text)) ds

abbrev pub content_heads : List DataDecl → List (List ℕ × List ℕ)
content_heads ds = map (λ d. (d.ty, d.con)) ds

-- the names in scope: what the module declares, and what its imports bring
abbrev pub scope : List ℕ → List ℕ → Written → List Content → List Pair
scope unit m w imported = brought m (exports_of unit m (heads w.datas)) ++ flat_map (λ (c : Content). brought c.module (exports_of unit c.module (content_heads c.datas))) imported

-- the entities that a plain name of a type refers to
abbrev pub referred : List Pair → List ℕ → List Name
referred pairs text = map (λ p. p.entity) (filter (λ p. same_text p.qualifier [] && (same_space p.entity.occ.space Ty && same_text p.entity.occ.text text)) pairs)

-- A use of a name: not in scope where it refers to no entity, ambiguous where it refers to two different ones.
pub data Use : Type 0 where
  Missing : Use
  Ambiguous : Use
  Found : Name → Use

abbrev pub use_of : List Name → Use
use_of [] = Missing
use_of (e ∷ es) = if list_all (same_entity e) es then Found e else Ambiguous

abbrev pub use_at : List Pair → List ℕ → Use
use_at pairs text = use_of (referred pairs text)

abbrev pub diag_at : Pos → ℕ → List ℕ → Diag
diag_at at code text = record { at = at; code = code; text = text }

abbrev pub use_diags : Word → Use → List Diag
use_diags w Missing = diag_at w.at 21 (w.text ++ codes " is not in scope") ∷ []
use_diags w Ambiguous = diag_at w.at 22 (w.text ++ codes " is ambiguous") ∷ []
use_diags w (Found e) = []

-- the uses of a data type's fields
abbrev pub field_diags : List Pair → List Word → List Diag
field_diags pairs fields = flat_map (λ (f : Word). use_diags f (use_at pairs f.text)) fields

-- a name that one before it has too
abbrev pub twice_diags : Word → List (List ℕ) → List Diag
twice_diags w before = if list_any (same_text w.text) before then diag_at w.at 23 (w.text ++ codes " is defined twice") ∷ [] else []

-- the diagnostics of a data type: its type and its constructor where they are defined again, and its fields
abbrev pub data_diags : List Pair → List DataItem → DataItem → List Diag
data_diags pairs before d = twice_diags d.ty (map (λ (e : DataItem). e.ty.text) before)
    ++ (twice_diags d.con (map (λ (e : DataItem). e.con.text) before)
    ++ field_diags pairs d.fields)

-- the diagnostics of the data types in their order, behind those before them
abbrev pub datas_diags : List Pair → List DataItem → List DataItem → List Diag
datas_diags pairs before [] = []
datas_diags pairs before (d ∷ ds) = data_diags pairs before d ++ datas_diags pairs (before ++ d ∷ []) ds

abbrev pub scope_diags : List ℕ → List ℕ → Written → List Content → List Diag
scope_diags unit m w imported = datas_diags (scope unit m w imported) [] w.datas

abbrev pub found_names : Use → List Name
found_names (Found e) = e ∷ []
found_names _ = []

abbrev pub resolved : List Pair → DataItem → DataDecl
resolved pairs d = record { ty = d.ty.text; con = d.con.text; fields = flat_map (λ (f : Word). found_names (use_at pairs f.text)) d.fields }

-- what the module offers, where it has no diagnostics
abbrev pub content_of : List ℕ → List ℕ → Written → List Content → Content
content_of unit m w imported = record { «module» = m; datas = map (resolved (scope unit m w imported)) w.datas }

abbrev pub with_diags : Content → List Diag → Checked
with_diags c [] = Sound c
with_diags c (d ∷ ds) = Wrong (d ∷ ds)

abbrev pub check_of : List ℕ → List ℕ → Written → List Content → Checked
check_of unit m w imported = with_diags (content_of unit m w imported) (scope_diags unit m w imported)

-- the contents at these places
abbrev pub contents_at : List Content → List ℕ → List Content
contents_at cs places = flat_map (λ i. option_to_list (slice_get cs i)) places
