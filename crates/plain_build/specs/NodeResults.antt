-- The results that are kept.
use Rattle.std.specs.Prelude.{◌≡◌, ℕ, List, [], ◌∷◌, ◌++◌, Some}
use Rattle.std.specs.declared.option.Option.{Option}
use Rattle.mk_base.specs.declared.name.Node.{Node}
use Rattle.mk_base.specs.declared.diag.Diag.{Diag}
use Rattle.face_model.specs.declared.result.How.{How}
use Rattle.face_model.specs.declared.result.How.TheVariants.{Checked}
use Rattle.face_model.specs.declared.result.Reason.TheVariants.{NoInterface}
use Rattle.face_model.specs.declared.result.NodeResult.{NodeResult}
use Rattle.plain_scope.specs.declared.scope.Content.{Content}
use Rattle.plain_face.specs.Interface.{IsInterface}

abbrev pub empty_content : Content
empty_content = record { «module» = []; datas = [] }

abbrev pub checked_how : How
checked_how = Checked NoInterface []

abbrev pub result_of : Node → How → List Diag → Option (List ℕ) → NodeResult
result_of n how diags bytes = record { node = n; how = how; diags = diags; bytes = bytes }

-- the results end with one more, that of a sound node with its interface
abbrev pub HasSound : List ℕ → Node → Content → List NodeResult → List NodeResult → Type 0
HasSound unit n c old new = (bytes : List ℕ) × IsInterface unit c bytes × (new ≡ old ++ result_of n checked_how [] (Some bytes) ∷ [])
