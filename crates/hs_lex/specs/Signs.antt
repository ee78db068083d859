-- What stands at the front of the inside of a comment.
use Rattle.std.specs.Prelude.{◌≡◌, ◌<◌, ℕ, Bool, true, false, ◌==◌, ◌&&◌, List, ◌∷◌, length}
use Rattle.source_text.specs.Characters.{characters}
use Rattle.hs_lex.specs.Classes.{is_inside}
use Rattle.hs_lex.specs.declared.nested.Sign.{Sign}
use Rattle.hs_lex.specs.declared.nested.Sign.TheVariants.{Opens, Closes, Other, Nothing}

abbrev pub is_opening : ℕ → ℕ → Bool
is_opening c d = c == 123 && d == 45

abbrev pub is_closing : ℕ → ℕ → Bool
is_closing c d = c == 45 && d == 125

-- no pair, and a character that may stand in a comment
abbrev pub IsOther : ℕ → ℕ → Type 0
IsOther c d = (is_opening c d ≡ false) × (is_closing c d ≡ false) × (is_inside c ≡ true)

abbrev pub Tells : List ℕ → Sign → Type 0
Tells cs (Opens rest) = cs ≡ 123 ∷ 45 ∷ characters rest.now
Tells cs (Closes rest) = cs ≡ 45 ∷ 125 ∷ characters rest.now
Tells cs (Other rest) = (c d : ℕ) × (after : List ℕ) × (cs ≡ c ∷ characters rest.now) × (characters rest.now ≡ d ∷ after) × IsOther c d
Tells cs Nothing = (c d : ℕ) (l : List ℕ) → cs ≡ c ∷ d ∷ l → is_inside c ≡ false

abbrev pub IsShorter : ℕ → Sign → Type 0
IsShorter n (Opens rest) = length rest.now < n
IsShorter n (Closes rest) = length rest.now < n
IsShorter n (Other rest) = length rest.now < n
IsShorter n Nothing = Unit {0}
