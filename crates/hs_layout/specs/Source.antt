-- The tokens of a source, and the signs that are put between them.
use Rattle.std.specs.Prelude.{◌≡◌, ℕ, zero, suc, List, [], ◌∷◌, ◌++◌, Option, Some, None}
use Rattle.hs_syntax.specs.declared.token.Token.{Token}
use Rattle.hs_syntax.specs.declared.token.PutSign.{PutSign}
use Rattle.hs_syntax.specs.declared.token.PutSign.TheVariants.{Open, Semicolon, Close}

-- a token before others, unless it is put
abbrev pub unless_put : Option PutSign → Token → List Token → List Token
unless_put None t ts = t ∷ ts
unless_put (Some s) t ts = ts

-- the tokens that aren't put
abbrev pub own : List Token → List Token
own [] = []
own (t ∷ ts) = unless_put t.put t (own ts)

-- a source has no other
abbrev pub IsSource : List Token → Type 0
IsSource [] = Unit {0}
IsSource (t ∷ ts) = (t.put ≡ None) × IsSource ts

abbrev pub sign_in : Option PutSign → List PutSign
sign_in None = []
sign_in (Some s) = s ∷ []

-- the signs that are put
abbrev pub signs : List Token → List PutSign
signs [] = []
signs (t ∷ ts) = sign_in t.put ++ signs ts

-- how many braces are open behind the signs, where n are before them; none where one closes that isn't open
abbrev pub level : ℕ → List PutSign → Option ℕ
level n [] = Some n
level n (Open ∷ ss) = level (suc n) ss
level n (Semicolon ∷ ss) = level n ss
level zero (Close ∷ ss) = None
level (suc n) (Close ∷ ss) = level n ss
