-- Lines and columns, both from 1.
use Rattle.std.specs.Prelude.{ℕ, ◌+◌, ◌*◌, ◌/◌, Bool, false, ◌==◌, ◌||◌, ◌&&◌, List, [], ◌∷◌, if◌then◌else◌}
use Rattle.source_text.specs.declared.place.Place.{Place}

-- LF, CR, FF; CR LF is one newline, so a LF behind a CR is none
abbrev pub is_newline : ℕ → Bool
is_newline c = c == 10 || (c == 12 || c == 13)

abbrev pub step : Place → ℕ → Place
step p c =
    if c == 10 && p.after_return then record p { after_return = false }
    else if is_newline c then record { line = p.line + 1; column = 1; after_return = c == 13 }
    else if c == 9 then record { line = p.line; column = (p.column + 7) / 8 * 8 + 1; after_return = false }
    else record { line = p.line; column = p.column + 1; after_return = false }

-- the place behind a text
unfoldable pub after : Place → List ℕ → Place
after p [] = p
after p (c ∷ cs) = after (step p c) cs
