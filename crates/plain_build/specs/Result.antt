-- What a build of the plain language answers, and what it asks.
use Rattle.std.specs.Prelude.{◌≡◌, ℕ, ◌+◌, ◌≤◌, Bool, true, ◌&&◌, ◌||◌, nat_le, nat_eq, List, [], ◌∷◌, length, map, slice_get, Some, None}
use Rattle.std.specs.declared.option.Option.{Option}
use Rattle.std.specs.List.{list_all}
use Rattle.mk_base.specs.declared.name.Node.{Node}
use Rattle.mk_base.specs.declared.diag.Diag.{Diag}
use Rattle.face_model.specs.declared.result.Reason.{Reason}
use Rattle.face_model.specs.declared.result.How.{How}
use Rattle.face_model.specs.declared.result.How.TheVariants as how
use Rattle.face_model.specs.declared.result.NodeResult.{NodeResult}
use Rattle.build_theory.specs.Build.{Tree, Language, Judged, Outcome, Sound, Failed, Blocked, incremental}
use Rattle.build_theory.specs.Build as theory
use Rattle.build_plan.specs.Tree.{Settings, sources_of}
use Rattle.plain_scope.specs.declared.scope.Content.{Content}
use Rattle.plain_face.specs.Interface.{IsInterface}
use Rattle.plain_build.specs.declared.build.PlainBuild.{PlainBuild}
use Rattle.plain_build.specs.Plain.{PlainTree, plain}
pub use Rattle.build_plan.specs.Files.{AreDistinct, AreShort}

abbrev pub is_small_letter : ℕ → Bool
is_small_letter b = nat_le 97 b && nat_le b 122

abbrev pub is_unit_byte : ℕ → Bool
is_unit_byte b = is_small_letter b || ((nat_le 48 b && nat_le b 57) || nat_eq b 45)

-- A unit's name has 1 to 64 characters of `a` to `z`, `0` to `9` and `-`, and begins with a letter.
abbrev pub IsUnitName : List ℕ → Type 0
IsUnitName [] = ⊥
IsUnitName (b ∷ bs) = (is_small_letter b ≡ true) × (list_all is_unit_byte bs ≡ true) × (length (b ∷ bs) ≤ 64)

-- what is set for the tree
abbrev pub settings_in : PlainBuild → Settings
settings_in input = record { unit = input.unit.text; prelude = input.prelude; restrict = input.restrict }

abbrev pub tree_of : PlainBuild → PlainTree
tree_of input = record { settings = settings_in input; sources = sources_of input.files }

abbrev pub PlainJudged : Type 0
PlainJudged = Judged Node Content (List Diag) Reason

-- how a node's result came about; a need that blocks it is named by its place
abbrev pub IsHow : List Node → How → theory.How Node Reason → Type 0
IsHow ns how.Current theory.Current = Unit {0}
IsHow ns (how.Checked reason subject) (theory.Checked r) = (reason ≡ r) × (subject ≡ [])
IsHow ns how.Graph theory.Graph = Unit {0}
IsHow ns (how.Blocked id) (theory.Behind n) = slice_get ns id.0 ≡ Some n
IsHow ns _ _ = ⊥

-- a sound node has its interface, a failed one its diagnostics, a blocked one neither
abbrev pub HasOutcome : List ℕ → List Diag → Option (List ℕ) → Outcome Node Content (List Diag) → Type 0
HasOutcome unit ds (Some bytes) (Sound c) = (ds ≡ []) × IsInterface unit c bytes
HasOutcome unit ds None (Sound c) = ⊥
HasOutcome unit ds bytes (Failed es) = (ds ≡ es) × (bytes ≡ None)
HasOutcome unit ds bytes (Blocked n) = (ds ≡ []) × (bytes ≡ None)

abbrev pub IsResult : List ℕ → List Node → NodeResult → Node × PlainJudged → Type 0
IsResult unit ns r j = (r.node ≡ j.0) × IsHow ns r.how j.1.how × HasOutcome unit r.diags r.bytes j.1.outcome

abbrev pub AreResults : List ℕ → List Node → List NodeResult → List (Node × PlainJudged) → Type 0
AreResults unit ns [] [] = Unit {0}
AreResults unit ns (r ∷ rs) (j ∷ js) = IsResult unit ns r j × AreResults unit ns rs js
AreResults unit ns _ _ = ⊥

abbrev pub nodes_in : List (Node × PlainJudged) → List Node
nodes_in js = map (λ j. j.0) js

abbrev pub is_checked : theory.How Node Reason → ℕ
is_checked (theory.Checked r) = 1
is_checked _ = 0

-- the number of nodes that were checked
abbrev pub checks_in : List (Node × PlainJudged) → ℕ
checks_in [] = 0
checks_in (j ∷ js) = is_checked j.1.how + checks_in js

-- the incremental build over an empty store
abbrev pub built : PlainBuild → List (Node × PlainJudged)
built input = incremental plain [] (tree_of input)
