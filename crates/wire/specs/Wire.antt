-- Numbers, texts and lists as bytes, in their one spelling.
use Rattle.std.specs.Prelude.{◌≡◌, ℕ, zero, suc, ◌+◌, ◌-◌, ◌/◌, ◌%◌, ◌<◌, ◌^◌, List, [], ◌∷◌, ◌++◌, length, take, drop, nat_lt, if◌then◌else◌, IsUtf8}
use Rattle.std.specs.List.{flat_map, AllByRecursion}

-- at most so many bytes more
abbrev pub num_from : ℕ → ℕ → List ℕ
num_from zero n = n ∷ []
num_from (suc more) n = if nat_lt n 128 then n ∷ [] else (n % 128 + 128) ∷ num_from more (n / 128)

-- a number below 2 ^ 32 in unsigned LEB128: seven bits a byte, the low ones first, in the fewest bytes
abbrev pub num : ℕ → List ℕ
num n = num_from 4 n

abbrev pub IsNum : ℕ → Type 0
IsNum n = n < 2 ^ 32

-- a text is its length and its bytes
abbrev pub text : List ℕ → List ℕ
text bytes = num (length bytes) ++ bytes

abbrev pub IsText : List ℕ → Type 0
IsText bytes = IsNum (length bytes) × IsUtf8 bytes

-- a list is a count and its members
abbrev pub list_of : {X : Type 0} → (X → List ℕ) → List X → List ℕ
list_of f xs = num (length xs) ++ flat_map f xs

abbrev pub AreMembers : {X : Type 0} → (X → Type 0) → List X → Type 0
AreMembers P xs = IsNum (length xs) × AllByRecursion P xs

-- ---- spellings at places

-- a spelling stands at a place and ends at another one, counted from 0
abbrev pub Stands : List ℕ → List ℕ → ℕ → ℕ → Type 0
Stands spelling bytes at end = (drop at bytes ≡ spelling ++ drop end bytes) × (end ≡ at + length spelling)

-- the bytes from a place up to another one
abbrev pub between : ℕ → ℕ → List ℕ → List ℕ
between start end bytes = take (end - start) (drop start bytes)

-- a text stands at a place, with its own bytes from `start` up to the end
abbrev pub TextStands : List ℕ → ℕ → ℕ → ℕ → Type 0
TextStands bytes at start end = IsText (between start end bytes) × Stands (text (between start end bytes)) bytes at end × (start + length (between start end bytes) ≡ end)
