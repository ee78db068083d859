-- The commands of a script, and the one spelling of each.
use Rattle.std.specs.Prelude.{◌≡◌, ℕ, ◌≤◌, ◌<◌, List, [], ◌∷◌, ◌++◌, length, codes}
use Rattle.std.specs.List.{flat_map, AllByRecursion}
use Rattle.std.specs.Fmt.{decimal}

-- a command, with what it says: a path and the file's bytes, the words of the flags with a space before each, a number of jobs, a path
pub data Said : Type 0 where
  Put : List ℕ → List ℕ → Said
  Flags : List ℕ → Said
  Build : ℕ → Said
  Quit : Said
  Del : List ℕ → Said

-- the line feed and the space
abbrev pub line : List ℕ → List ℕ
line words = words ++ 10 ∷ []

abbrev pub spaced : List ℕ → List ℕ
spaced word = word ++ 32 ∷ []

-- printable ASCII, and no space
abbrev pub IsWordByte : ℕ → Type 0
IsWordByte b = (32 < b) × (b < 127)

abbrev pub IsPath : List ℕ → Type 0
IsPath path = (0 < length path) × (length path ≤ 255) × AllByRecursion IsWordByte path

-- the words that `flags` takes
pub data Ext : Type 0 where
  ImplicitPrelude : Ext
  NoImplicitPrelude : Ext
  MonomorphismRestriction : Ext
  NoMonomorphismRestriction : Ext
  Haskell2010 : Ext

abbrev pub ext_name : Ext → List ℕ
ext_name ImplicitPrelude = codes "ImplicitPrelude"
ext_name NoImplicitPrelude = codes "NoImplicitPrelude"
ext_name MonomorphismRestriction = codes "MonomorphismRestriction"
ext_name NoMonomorphismRestriction = codes "NoMonomorphismRestriction"
ext_name Haskell2010 = codes "Haskell2010"

-- a space and a word
abbrev pub IsFlagWord : List ℕ → Type 0
IsFlagWord text = (e : Ext) × (text ≡ 32 ∷ ext_name e)

-- words one after another, with a space before each
abbrev pub ext_names : List Ext → List ℕ
ext_names es = flat_map (λ e. 32 ∷ ext_name e) es

-- what stands behind `flags` on its line: any number of words
abbrev pub IsFlagWords : List ℕ → Type 0
IsFlagWords text = (es : List Ext) × (text ≡ ext_names es)

-- numbers of jobs
abbrev pub IsJobs : ℕ → Type 0
IsJobs n = n ≡ 1

abbrev pub IsCommand : Said → Type 0
IsCommand (Put path body) = IsPath path × (length body ≤ 1048576)
IsCommand (Flags text) = IsFlagWords text
IsCommand (Build n) = IsJobs n
IsCommand Quit = Unit {0}
IsCommand (Del path) = IsPath path

abbrev pub spelling : Said → List ℕ
spelling (Put path body) = codes "put " ++ (spaced path ++ (line (decimal (length body)) ++ line body))
spelling (Flags text) = codes "flags" ++ line text
spelling (Build n) = codes "build " ++ line (decimal n)
spelling Quit = line (codes "quit")
spelling (Del path) = codes "del " ++ line path
