-- What can be asked of a list of faces, and by which answers of some faces those with one more behind them are told.
use Rattle.std.specs.Prelude.{◌≡◌, ℕ, List, [], ◌∷◌, Option}
use Rattle.std.specs.List.{AllByRecursion}
use Rattle.mk_base.specs.declared.name.Name.{Name}
use Rattle.mk_base.specs.declared.name.ModName.{ModName}
use Rattle.mk_base.specs.declared.fingerprint.Fingerprint.{Fingerprint}
use Rattle.face_model.specs.declared.decl.Decl.{Decl}
use Rattle.face_model.specs.declared.inst.Inst.{Inst}
use Rattle.face_model.specs.declared.export.Export.{Export}
use Rattle.face_model.specs.declared.face.Face.{Face}
use Rattle.face_model.specs.Environments.{Faces, first_decl, first_print, exports_of, insts_of, insts_up_to}
use Rattle.own_env.specs.Own.{with_own}

-- one question to an environment, a call of it
pub data Query : Type 0 where
  declaration : Name → Query
  fingerprint : Name → Query
  exported : ModName → Query
  instances : Name → Name → Query
  instances_up_to : Name → Name → ModName → Query

pub data Answer : Type 0 where
  declared : Option Decl → Answer
  printed : Option Fingerprint → Answer
  exporting : Option (List Export) → Answer
  found : List Inst → Answer
  counted : ℕ → Answer

abbrev pub ask : Faces → Query → Answer
ask fs (declaration n) = declared (first_decl fs n)
ask fs (fingerprint n) = printed (first_print fs n)
ask fs (exported m) = exporting (exports_of fs m)
ask fs (instances class head) = found (insts_of fs class head)
ask fs (instances_up_to class head m) = counted (insts_up_to fs class head m)

-- two lists of faces give the same answers to these
abbrev pub AnswerAlike : List Query → Faces → Faces → Type 0
AnswerAlike qs v w = AllByRecursion (λ (q : Query). ask v q ≡ ask w q) qs

-- the questions to the faces in front that tell an answer
abbrev pub among : Face → Query → List Query
among f (declaration n) = declaration n ∷ []
among f (fingerprint n) = fingerprint n ∷ []
among f (exported m) = exported m ∷ []
among f (instances class head) = instances class head ∷ instances_up_to class head f.node.module ∷ []
among f (instances_up_to class head m) = instances_up_to class head m ∷ []

-- with a face behind them, lists of faces that give the same answers to these questions give the same answer
abbrev pub OwnAnswersAreTold : Type 0
OwnAnswersAreTold = (f : Face) (q : Query) (v w : Faces) → AnswerAlike (among f q) v w → ask (with_own v f) q ≡ ask (with_own w f) q
