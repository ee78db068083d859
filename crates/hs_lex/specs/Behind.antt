-- What stands behind a dot.
use Rattle.std.specs.Prelude.{◌≡◌, ℕ, List, ◌∷◌}
use Rattle.source_text.specs.Characters.{characters}
use Rattle.hs_lex.specs.declared.name.Behind.{Behind}
use Rattle.hs_lex.specs.declared.name.Behind.TheVariants.{Last, Qualifier, Nothing}
use Rattle.hs_lex.specs.declared.class.Class.TheVariants as class
use Rattle.hs_lex.specs.Reading.{IsLongest, Nothing as NoText}
use Rattle.hs_lex.specs.Lexemes.{IsPlain, IsName}

abbrev pub Tells : List ℕ → Behind → Type 0
Tells cs (Last rest) = (next : List ℕ) × (cs ≡ 46 ∷ next) × NoText (IsName class.Large) next × IsLongest IsPlain next (characters rest.now)
Tells cs (Qualifier rest) = (next : List ℕ) × (cs ≡ 46 ∷ next) × IsLongest (IsName class.Large) next (characters rest.now)
Tells cs Nothing = (next : List ℕ) → cs ≡ 46 ∷ next → NoText (IsName class.Large) next × NoText IsPlain next
