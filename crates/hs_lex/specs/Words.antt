-- The reserved words and operators (Haskell 2010 Report, section 2.4).
use Rattle.std.specs.Prelude.{ℕ, Bool, false, ◌||◌, List, [], ◌∷◌, codes}
use Rattle.std.specs.Str.{bytes_eq}

-- reservedid
abbrev pub words : List (List ℕ)
words =
    codes "case" ∷ codes "class" ∷ codes "data" ∷ codes "default" ∷ codes "deriving" ∷ codes "do" ∷ codes "else" ∷ codes "foreign" ∷ codes "if" ∷ codes "import"
    ∷ codes "in" ∷ codes "infix" ∷ codes "infixl" ∷ codes "infixr" ∷ codes "instance" ∷ codes "let" ∷ codes "module" ∷ codes "newtype" ∷ codes "of" ∷ codes "then"
    ∷ codes "type" ∷ codes "where" ∷ codes "_" ∷ []

-- reservedop: .. : :: = \ | <- -> @ ~ =>
abbrev pub operator_words : List (List ℕ)
operator_words = codes ".." ∷ codes ":" ∷ codes "::" ∷ codes "=" ∷ (92 ∷ []) ∷ codes "|" ∷ codes "<-" ∷ codes "->" ∷ codes "@" ∷ codes "~" ∷ codes "=>" ∷ []

abbrev pub is_one_of : List (List ℕ) → List ℕ → Bool
is_one_of [] l = false
is_one_of (w ∷ ws) l = bytes_eq l w || is_one_of ws l

unfoldable pub is_word : List ℕ → Bool
is_word l = is_one_of words l

unfoldable pub is_operator_word : List ℕ → Bool
is_operator_word l = is_one_of operator_words l

unfoldable pub is_import : List ℕ → Bool
is_import l = bytes_eq l (codes "import")

abbrev pub is_reserved : List ℕ → Bool
is_reserved l = is_word l || is_operator_word l
