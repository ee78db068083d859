-- The longest text of a language that stands at a place.
use Rattle.std.specs.Prelude.{◌≡◌, ◌≤◌, ℕ, true, false, List, [], ◌∷◌, ◌++◌, length, Option, MatchOption}
use Rattle.std.specs.Borrow.{Bor}
use Rattle.source_text.specs.Characters.{characters}
use Rattle.hs_lex.specs.Classes.{in_part}
use Rattle.hs_lex.specs.declared.class.Part.{Part}

abbrev pub AllIn : Part → List ℕ → Type 0
AllIn p [] = Unit {0}
AllIn p (c ∷ cs) = (in_part p c ≡ true) × AllIn p cs

-- what follows doesn't go on with the part
abbrev pub Ends : Part → List ℕ → Type 0
Ends p [] = Unit {0}
Ends p (c ∷ cs) = in_part p c ≡ false

-- the longest run of the part
abbrev pub Runs : Part → List ℕ → List ℕ → Type 0
Runs p cs rest = (l : List ℕ) × (cs ≡ l ++ rest) × AllIn p l × Ends p rest

-- A language says of a text and of what follows it whether the text is a lexeme there.
pub record IsLongest (L : List ℕ → List ℕ → Type 0) (cs rest : List ℕ) : Type 0 where
  pub text : List ℕ
  pub front : cs ≡ text ++ rest
  pub is : L text rest
  pub longest : (l r : List ℕ) → L l r → cs ≡ l ++ r → length l ≤ length text

abbrev pub Nothing : (List ℕ → List ℕ → Type 0) → List ℕ → Type 0
Nothing L cs = (l r : List ℕ) → L l r → cs ≡ l ++ r → ⊥

-- what a function answers that looks for the longest text of L
abbrev pub Reads : (List ℕ → List ℕ → Type 0) → List ℕ → Option (Bor (List ℕ)) → Type 0
Reads L cs answer = MatchOption answer (Nothing L cs) (λ rest. IsLongest L cs (characters rest.now))
