-- What can be reached below each frame, and whether a semicolon changes anything there.
use Rattle.std.specs.Prelude.{◌≡◌, Bool, true, false, ◌&&◌, ◌||◌, List, [], ◌∷◌}
use Rattle.hs_layout.specs.declared.frame.Frame.{Frame}
use Rattle.hs_layout.specs.declared.frame.Note.TheVariants as note
use Rattle.hs_layout.specs.declared.frames.Below.{Below}
use Rattle.hs_layout.specs.declared.frames.Entry.{Entry}
use Rattle.hs_layout.specs.declared.look.Target.{Target}
use Rattle.hs_layout.specs.declared.look.Target.TheVariants as target
use Rattle.hs_layout.specs.Frames.{is_renewed}
use Rattle.hs_layout.specs.Looks.{reaches}
use Rattle.hs_layout.specs.Rules.{is_context}

-- a semicolon leaves each frame up to the enclosing context as it is
abbrev pub is_settled : Bool → List Frame → Bool
is_settled keep [] = true
is_settled keep (f ∷ fs) = is_renewed keep f && (is_context f.sort || is_settled keep fs)

abbrev pub below_of : List Frame → Below
below_of fs = record {
  paren = reaches target.Paren fs;
  bracket = reaches target.Bracket fs;
  brace = reaches target.Brace fs;
  inner = reaches target.Inner fs;
  comma = reaches target.Comma fs;
  case_note = reaches (target.Note note.Case) fs;
  if_note = reaches (target.Note note.If) fs;
  then_note = reaches (target.Note note.Then) fs;
  let_note = reaches (target.Note note.Let) fs;
  bare = is_settled false fs;
  unseen = is_settled true fs;
}

abbrev pub flag : Target → Below → Bool
flag target.Paren b = b.paren
flag target.Bracket b = b.bracket
flag target.Brace b = b.brace
flag target.Inner b = b.inner
flag target.Comma b = b.comma
flag (target.Note note.Case) b = b.case_note
flag (target.Note note.If) b = b.if_note
flag (target.Note note.Then) b = b.then_note
flag (target.Note note.Let) b = b.let_note
flag _ b = false

-- the frames that are looked for through others that may stay
abbrev pub IsSought : Target → Type 0
IsSought target.Paren = Unit {0}
IsSought target.Bracket = Unit {0}
IsSought target.Brace = Unit {0}
IsSought target.Inner = Unit {0}
IsSought target.Comma = Unit {0}
IsSought (target.Note n) = Unit {0}
IsSought _ = ⊥

abbrev pub frames_of : List Entry → List Frame
frames_of [] = []
frames_of (e ∷ es) = e.frame ∷ frames_of es

abbrev pub IsCached : List Entry → Type 0
IsCached [] = Unit {0}
IsCached (e ∷ es) = (e.below ≡ below_of (frames_of es)) × IsCached es
