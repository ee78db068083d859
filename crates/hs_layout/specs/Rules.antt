-- The rules of layout: each says which signs are put before a lexeme, and which frames are open behind them. The nearest frame stands first.
use Rattle.std.specs.Prelude.{ℕ, Bool, true, false, ◌&&◌, nat_eq, nat_lt, List, [], ◌∷◌, ◌++◌, if◌then◌else◌}
use Rattle.hs_syntax.specs.declared.token.PutSign.{PutSign}
use Rattle.hs_syntax.specs.declared.token.PutSign.TheVariants.{Open, Semicolon, Close}
use Rattle.hs_layout.specs.declared.role.Role.{Role}
use Rattle.hs_layout.specs.declared.role.Role.TheVariants as role
use Rattle.hs_layout.specs.declared.frame.Context.{Context}
use Rattle.hs_layout.specs.declared.frame.Context.TheVariants as context
use Rattle.hs_layout.specs.declared.frame.Sort.{Sort}
use Rattle.hs_layout.specs.declared.frame.Sort.TheVariants as sort
use Rattle.hs_layout.specs.declared.frame.Note.{Note}
use Rattle.hs_layout.specs.declared.frame.Note.TheVariants as note
use Rattle.hs_layout.specs.declared.frame.Lead.{Lead}
use Rattle.hs_layout.specs.declared.frame.Lead.TheVariants as lead
use Rattle.hs_layout.specs.declared.frame.Frame.{Frame}
use Rattle.hs_layout.specs.declared.look.Look.{Look}
use Rattle.hs_layout.specs.declared.look.Look.TheVariants.{Here, On, Nowhere}
use Rattle.hs_layout.specs.declared.look.Target.{Target}
use Rattle.hs_layout.specs.declared.look.Target.TheVariants as target
use Rattle.hs_layout.specs.Frames.{is_block, is_put, nothing_seen, see}
use Rattle.hs_layout.specs.Notes.{same_note}
use Rattle.hs_layout.specs.Looks.{look_at, reaches}

-- what a rule puts, and the frames behind it
pub record Step : Type 0 where
  pub puts : List PutSign
  pub frames : List Frame

abbrev pub stay : List Frame → Step
stay fs = record { puts = []; frames = fs }

-- one rule, then another
abbrev pub and_then : Step → (List Frame → Step) → Step
and_then s rule = record { puts = s.puts ++ (rule s.frames).puts; frames = (rule s.frames).frames }

-- the nearest frame is closed: where it is a block, its brace is put
abbrev pub closing : Frame → List PutSign
closing f = if is_put f then Close ∷ [] else []

abbrev pub close : List Frame → Step
close [] = stay []
close (f ∷ fs) = record { puts = closing f; frames = fs }

-- the frames above the first that is looked for are closed; it stays
abbrev pub down_past : Look → Frame → List Frame → Step → Step
down_past On f fs s = record { puts = closing f ++ s.puts; frames = s.frames }
down_past Here f fs s = stay (f ∷ fs)
down_past Nowhere f fs s = stay (f ∷ fs)

abbrev pub down_to : Target → List Frame → Step
down_to t [] = stay []
down_to t (f ∷ fs) = down_past (look_at t f) f fs (down_to t fs)

-- the indentation and the context that hold where these frames are open
abbrev pub indentation : List Frame → ℕ
indentation [] = 0
indentation (f ∷ fs) = f.column

abbrev pub context_of : List Frame → Context
context_of [] = context.Outside
context_of (f ∷ fs) = f.context

abbrev pub frame : Sort → Context → ℕ → Frame
frame s c n = record { sort = s; context = c; column = n; notes = []; seen = nothing_seen }

-- the nearest frame with other notes
abbrev pub with_notes : (List Note → List Note) → List Frame → List Frame
with_notes change [] = []
with_notes change (f ∷ fs) = record f { notes = change f.notes } ∷ fs

abbrev pub no_notes : List Note → List Note
no_notes ns = []

-- the nearest frame behind a further lexeme
abbrev pub see_top : Role → List Frame → List Frame
see_top r [] = []
see_top r (f ∷ fs) = record f { seen = see r f.seen } ∷ fs

-- A semicolon: up to the enclosing context nothing is seen any more, and the notes go unless they are kept.
abbrev pub renewed : Bool → Frame → Frame
renewed keep f = record f { notes = (if keep then f.notes else []); seen = nothing_seen }

abbrev pub is_context : Sort → Bool
is_context sort.Context = true
is_context _ = false

abbrev pub renew : Bool → List Frame → List Frame
renew keep [] = []
renew keep (f ∷ fs) = renewed keep f ∷ (if is_context f.sort then fs else renew keep fs)

-- frames back on top of others, the first lowest
abbrev pub onto : List Frame → List Frame → List Frame
onto [] fs = fs
onto (h ∷ hs) fs = onto hs (h ∷ fs)

-- <n>, Report section 10.3
abbrev pub is_level : ℕ → List Frame → Bool
is_level n [] = false
is_level n (f ∷ fs) = is_block f.context && nat_eq n f.column

abbrev pub punctuate : ℕ → Bool → List Frame → Step
punctuate n keep fs = if is_level n fs then record { puts = Semicolon ∷ []; frames = renew keep fs } else stay fs

abbrev pub at_line : ℕ → Bool → List Frame → Step
at_line n keep fs = and_then (down_to (target.Deeper n) fs) (punctuate n keep)

-- {n}, Report section 10.3
abbrev pub at_opening : Context → ℕ → Bool → List Frame → Step
at_opening c n keep fs =
    if nat_lt (indentation fs) n then record { puts = Open ∷ []; frames = frame sort.Context c n ∷ fs }
    else and_then (record { puts = Open ∷ Close ∷ []; frames = fs }) (at_line n keep)

-- `)`, `]` and `}`: an operator alone in parentheses is seen as a name
abbrev pub counted : Sort → Lead → Role
counted sort.Paren lead.Operator = role.Variable
counted _ _ = role.Other

abbrev pub pop : List Frame → List Frame
pop [] = []
pop (f ∷ fs) = if is_put f then f ∷ fs else see_top (counted f.sort f.seen.lead) fs

abbrev pub at_end_of : Target → List Frame → Step
at_end_of t fs = if reaches t fs then record { puts = (down_to t fs).puts; frames = pop (down_to t fs).frames } else stay (see_top role.Other fs)

-- `of`, `then`, `else` and `in`: the note goes with those above it, and an If becomes a Then
abbrev pub behind : Note → List Note → List Note
behind n [] = []
behind n (m ∷ ms) = if same_note m n then ms else behind n ms

abbrev pub answered : Note → List Note → List Note
answered note.If ns = note.Then ∷ behind note.If ns
answered n ns = behind n ns

abbrev pub at_answer : Note → List Frame → Step
at_answer n fs = if reaches (target.Note n) fs then record { puts = (down_to (target.Note n) fs).puts; frames = with_notes (answered n) (down_to (target.Note n) fs).frames } else stay fs

-- `,`
abbrev pub at_comma : List Frame → Step
at_comma fs = if reaches target.Comma fs then record { puts = (down_to target.Comma fs).puts; frames = with_notes no_notes (down_to target.Comma fs).frames } else stay fs

-- `where`: at a semicolon that was put at its column, the block of that goes too
abbrev pub at_where : Bool → ℕ → List Frame → Step
at_where semicolon n fs = and_then (if semicolon then down_to (target.From n) fs else stay fs) (down_to target.Do)

-- `|`, `=` and `->` directly in a block
abbrev pub without_let : List Note → List Note
without_let [] = []
without_let (n ∷ ns) = if same_note n note.Let then ns else n ∷ ns

abbrev pub is_direct : List Frame → Bool
is_direct [] = false
is_direct (f ∷ fs) = is_put f

abbrev pub at_sign : Step → List Frame → Step
at_sign s fs = if is_direct fs then record { puts = s.puts; frames = with_notes without_let s.frames } else stay fs

abbrev pub at_bar : List Frame → Step
at_bar fs = at_sign (if reaches target.Inner fs then down_to target.Bar fs else stay fs) fs

-- the rule of a lexeme at a column; semicolon: one was put right before it
abbrev pub at_lexeme : Role → Bool → ℕ → List Frame → Step
at_lexeme role.CloseParen semicolon n fs = at_end_of target.Paren fs
at_lexeme role.CloseBracket semicolon n fs = at_end_of target.Bracket fs
at_lexeme role.CloseBrace semicolon n fs = at_end_of target.Brace fs
at_lexeme role.Of semicolon n fs = at_answer note.Case fs
at_lexeme role.Then semicolon n fs = at_answer note.If fs
at_lexeme role.Else semicolon n fs = at_answer note.Then fs
at_lexeme role.In semicolon n fs = at_answer note.Let fs
at_lexeme role.Comma semicolon n fs = at_comma fs
at_lexeme role.Where semicolon n fs = at_where semicolon n fs
at_lexeme role.Bar semicolon n fs = at_bar fs
at_lexeme role.Equals semicolon n fs = at_sign (down_to target.Equals fs) fs
at_lexeme role.Arrow semicolon n fs = at_sign (down_to target.Arrow fs) fs
at_lexeme _ semicolon n fs = stay fs

-- what a lexeme opens behind itself
abbrev pub add_note : Note → List Note → List Note
add_note n ns = n ∷ ns

abbrev pub opened : Role → List Frame → List Frame
opened role.OpenParen fs = frame sort.Paren (context_of fs) (indentation fs) ∷ fs
opened role.OpenBracket fs = frame sort.Bracket (context_of fs) (indentation fs) ∷ fs
opened role.OpenBrace fs = frame sort.Context context.Brace 0 ∷ fs
opened role.Let fs = with_notes (add_note note.Let) fs
opened role.Case fs = with_notes (add_note note.Case) fs
opened role.If fs = with_notes (add_note note.If) fs
opened _ fs = fs

-- the frames behind a lexeme
abbrev pub behind_lexeme : Role → List Frame → List Frame
behind_lexeme r fs = opened r (see_top r fs)
