-- Which frame a rule looks for, from the nearest down.
use Rattle.std.specs.Prelude.{Bool, true, false, ◌||◌, ◌&&◌, not, nat_lt, nat_le, List, [], ◌∷◌, if◌then◌else◌}
use Rattle.hs_layout.specs.declared.frame.Context.{Context}
use Rattle.hs_layout.specs.declared.frame.Context.TheVariants as context
use Rattle.hs_layout.specs.declared.frame.Sort.{Sort}
use Rattle.hs_layout.specs.declared.frame.Sort.TheVariants as sort
use Rattle.hs_layout.specs.declared.frame.Note.{Note}
use Rattle.hs_layout.specs.declared.frame.Seen.{Seen}
use Rattle.hs_layout.specs.declared.frame.Frame.{Frame}
use Rattle.hs_layout.specs.declared.look.Look.{Look}
use Rattle.hs_layout.specs.declared.look.Look.TheVariants.{Here, On, Nowhere}
use Rattle.hs_layout.specs.declared.look.Target.{Target}
use Rattle.hs_layout.specs.declared.look.Target.TheVariants as target
use Rattle.hs_layout.specs.Notes.{has}
use Rattle.hs_layout.specs.Frames.{is_block, is_put, takes_comma}

abbrev pub on_if : Bool → Look
on_if true = On
on_if false = Here

abbrev pub through : Context → Look
through c = if is_block c then On else Nowhere

abbrev pub look_paren : Sort → Context → Look
look_paren sort.Paren c = Here
look_paren sort.Bracket c = On
look_paren sort.Context c = through c

abbrev pub look_bracket : Sort → Context → Look
look_bracket sort.Paren c = On
look_bracket sort.Bracket c = Here
look_bracket sort.Context c = through c

abbrev pub look_brace : Sort → Context → Look
look_brace sort.Paren c = On
look_brace sort.Bracket c = On
look_brace sort.Context context.Brace = Here
look_brace sort.Context c = through c

-- with no parenthesis, bracket or written brace above it
abbrev pub look_note : Note → Frame → Look
look_note n f = if has n f.notes then Here else (if is_put f then On else Nowhere)

abbrev pub look_comma : Sort → Context → Seen → Look
look_comma sort.Paren c s = Here
look_comma sort.Bracket c s = Here
look_comma sort.Context context.Outside s = Nowhere
look_comma sort.Context context.Brace s = Here
look_comma sort.Context c s = on_if (not (takes_comma c s))

-- the bracket of a list with blocks and notes alone above it
abbrev pub look_inner : Sort → Context → Look
look_inner sort.Paren c = Nowhere
look_inner sort.Bracket c = Here
look_inner sort.Context c = through c

abbrev pub is_do : Context → Bool
is_do context.Do = true
is_do _ = false

abbrev pub look_bar : Frame → Look
look_bar f = on_if (is_put f && (is_do f.context || f.seen.body))

abbrev pub look_equals : Sort → Context → Seen → Look
look_equals sort.Context context.Do s = On
look_equals sort.Context context.Of s = On
look_equals sort.Context context.Let s = on_if s.bound
look_equals _ c s = Here

abbrev pub look_arrow : Sort → Context → Seen → Look
look_arrow sort.Context context.Let s = on_if s.plain
look_arrow _ c s = Here

abbrev pub look_at : Target → Frame → Look
look_at target.Paren f = look_paren f.sort f.context
look_at target.Bracket f = look_bracket f.sort f.context
look_at target.Brace f = look_brace f.sort f.context
look_at (target.Note n) f = look_note n f
look_at target.Comma f = look_comma f.sort f.context f.seen
look_at target.Inner f = look_inner f.sort f.context
look_at (target.Deeper n) f = on_if (nat_lt n f.column)
look_at (target.From n) f = on_if (nat_le n f.column)
look_at target.Do f = on_if (is_do f.context)
look_at target.Bar f = look_bar f
look_at target.Equals f = look_equals f.sort f.context f.seen
look_at target.Arrow f = look_arrow f.sort f.context f.seen
look_at target.End f = On

-- whether the frame is there, with none in between that bars it
abbrev pub reaches_past : Look → Bool → Bool
reaches_past Here below = true
reaches_past On below = below
reaches_past Nowhere below = false

abbrev pub reaches : Target → List Frame → Bool
reaches t [] = false
reaches t (f ∷ fs) = reaches_past (look_at t f) (reaches t fs)

-- what the nearest frame is
abbrev pub look_top : Target → List Frame → Look
look_top t [] = Here
look_top t (f ∷ fs) = look_at t f
