-- The words that wait for others in a frame.
use Rattle.std.specs.Prelude.{◌≡◌, Bool, true, false, List, [], ◌∷◌, if◌then◌else◌}
use Rattle.hs_layout.specs.declared.frame.Note.{Note}
use Rattle.hs_layout.specs.declared.frame.Note.TheVariants as note
use Rattle.hs_layout.specs.declared.notes.Waits.{Waits}
use Rattle.hs_layout.specs.declared.notes.Waiting.{Waiting}

abbrev pub same_note : Note → Note → Bool
same_note note.Case note.Case = true
same_note note.If note.If = true
same_note note.Then note.Then = true
same_note note.Let note.Let = true
same_note _ _ = false

abbrev pub has : Note → List Note → Bool
has n [] = false
has n (m ∷ ms) = if same_note m n then true else has n ms

abbrev pub is_none_left : List Note → Bool
is_none_left [] = true
is_none_left (n ∷ ns) = false

abbrev pub waits_of : List Note → Waits
waits_of ns = record { case_note = has note.Case ns; if_note = has note.If ns; then_note = has note.Then ns; let_note = has note.Let ns }

abbrev pub notes_of : List Waiting → List Note
notes_of [] = []
notes_of (e ∷ es) = e.note ∷ notes_of es

-- each entry knows which words wait from it down
abbrev pub IsCounted : List Waiting → Type 0
IsCounted [] = Unit {0}
IsCounted (e ∷ es) = (e.waits ≡ waits_of (notes_of (e ∷ es))) × IsCounted es
