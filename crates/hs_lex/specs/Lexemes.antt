-- White space, comments and lexemes.
use Rattle.std.specs.Prelude.{◌≡◌, ◌⊎◌, ◌≤◌, ◌+◌, ◌-◌, ℕ, Bool, true, false, ◌==◌, ◌||◌, ◌&&◌, List, [], ◌∷◌, ◌++◌, length, if◌then◌else◌}
use Rattle.hs_lex.specs.declared.class.Class.{Class}
use Rattle.hs_lex.specs.declared.class.Class.TheVariants as class
use Rattle.hs_lex.specs.declared.class.Part.{Part}
use Rattle.hs_lex.specs.declared.class.Part.TheVariants as part
use Rattle.hs_lex.specs.Classes.{class_of, is_inside}
use Rattle.hs_lex.specs.Reading.{AllIn, Ends}
use Rattle.hs_lex.specs.Words.{is_reserved}
pub use Rattle.hs_lex.specs.Numbers.{Then, IsNumber}
pub use Rattle.hs_lex.specs.Quoted.{IsText, IsChar}

abbrev pub BeginsWith : Class → List ℕ → Type 0
BeginsWith k [] = ⊥
BeginsWith k (c ∷ cs) = class_of c ≡ k

-- one character of the class
abbrev pub IsOne : Class → List ℕ → Type 0
IsOne k [] = ⊥
IsOne k (c ∷ []) = class_of c ≡ k
IsOne k (c ∷ d ∷ cs) = ⊥

-- all characters of the part, as many as stand there
abbrev pub IsWhole : Part → List ℕ → List ℕ → Type 0
IsWhole p l rest = AllIn p l × Ends p rest

abbrev pub IsDashes : List ℕ → Type 0
IsDashes l = AllIn part.Dash l × (2 ≤ length l)

abbrev pub IsName : Class → List ℕ → List ℕ → Type 0
IsName k l rest = BeginsWith k l × IsWhole part.Name l rest

abbrev pub IsOperator : List ℕ → List ℕ → Type 0
IsOperator l rest = BeginsWith class.Symbol l × IsWhole part.Symbol l rest × (IsDashes l → ⊥)

-- dashes with no symbol behind them, and the rest of the line
abbrev pub EndsLine : List ℕ → Type 0
EndsLine [] = Unit {0}
EndsLine (c ∷ cs) = (c == 10 || (c == 12 || c == 13)) ≡ true

abbrev pub IsLineComment : List ℕ → List ℕ → Type 0
IsLineComment l rest = (dashes line : List ℕ) × (l ≡ dashes ++ line) × IsDashes dashes × Ends part.Symbol (line ++ rest) × AllIn part.Comment line × EndsLine rest

-- The text closes so many open comments, at its end and not before: {- opens one more, -} closes one, and any other
-- character stands for itself, where it may stand there.
abbrev pub is_nil : List ℕ → Bool
is_nil [] = true
is_nil (c ∷ cs) = false

unfoldable pub closes : ℕ → List ℕ → Bool
closes n [] = false
closes n (c ∷ []) = false
closes n (c ∷ d ∷ cs) =
    if c == 123 && d == 45 then closes (n + 1) cs
    else if c == 45 && d == 125 then (if n == 1 then is_nil cs else closes (n - 1) cs)
    else is_inside c && closes n (d ∷ cs)

abbrev pub IsNestedComment : List ℕ → Type 0
IsNestedComment [] = ⊥
IsNestedComment (a ∷ []) = ⊥
IsNestedComment (a ∷ b ∷ cs) = (a ≡ 123) × (b ≡ 45) × (closes 1 cs ≡ true)

abbrev pub IsSpecial : List ℕ → List ℕ → Type 0
IsSpecial l rest = IsOne class.Special l × (l ≡ 123 ∷ [] → Ends part.Dash rest)

-- a small name or an operator, taken whole and not reserved
abbrev pub IsPlain : List ℕ → List ℕ → Type 0
IsPlain l rest = (IsName class.Small l rest ⊎ IsOperator l rest) × (is_reserved l ≡ false)

-- so many times a dot and a conid, and perhaps a dot and a plain last part
abbrev pub IsTail : List (List ℕ) → List ℕ → List ℕ → Type 0
IsTail [] l rest = (l ≡ []) ⊎ ((m : List ℕ) × (l ≡ 46 ∷ m) × IsPlain m rest)
IsTail (q ∷ qs) l rest = (m : List ℕ) × (l ≡ 46 ∷ (q ++ m)) × IsName class.Large q (m ++ rest) × IsTail qs m rest

abbrev pub IsAnyTail : List ℕ → List ℕ → Type 0
IsAnyTail l rest = (qs : List (List ℕ)) × IsTail qs l rest

-- a conid and what may stand behind it
abbrev pub IsLargeName : List ℕ → List ℕ → Type 0
IsLargeName l rest = (q m : List ℕ) × (l ≡ q ++ m) × IsName class.Large q (m ++ rest) × IsAnyTail m rest
