-- Scripts: commands one after another up to `quit`, and where a script is bad.
use Rattle.std.specs.Prelude.{◌≡◌, ◌⊎◌, ℕ, ◌<◌, List, ◌++◌, length, take}
use Rattle.std.specs.List.{flat_map, AllByRecursion}
use Rattle.session_lang.specs.Spelling.{Said, Quit, IsCommand, spelling}

-- how many bytes of a script are looked at
abbrev pub limit : ℕ
limit = 268435456

-- a command other than quit
abbrev pub IsPlain : Said → Type 0
IsPlain c = IsCommand c × (c ≡ Quit → ⊥)

abbrev pub spellings : List Said → List ℕ
spellings cs = flat_map spelling cs

-- the bytes begin with no command
abbrev pub BeginsNone : List ℕ → Type 0
BeginsNone bytes = (c : Said) (more : List ℕ) → IsCommand c → bytes ≡ spelling c ++ more → ⊥

-- the bytes go on to a command
abbrev pub GoesOn : List ℕ → Type 0
GoesOn bytes = (c : Said) × (more : List ℕ) × IsCommand c × (bytes ++ more ≡ spelling c)

-- A good script: these commands, then quit, and then anything, with quit's line within the limit.
abbrev pub IsScript : List ℕ → List Said → Type 0
IsScript bytes cs = AllByRecursion IsPlain cs × ((rest : List ℕ) × (take limit bytes ≡ spellings cs ++ (spelling Quit ++ rest)))

-- the input goes on past the limit, in the middle of what could still be a command
abbrev pub IsCut : List ℕ → List ℕ → Type 0
IsCut bytes rest = (limit < length bytes) × GoesOn rest

-- A bad script: these commands, then bytes that begin with none. The bad place is behind the commands, or at the limit where the input is cut there.
pub record IsBadScript (bytes : List ℕ) (cs : List Said) (at : ℕ) : Type 0 where
  pub plain : AllByRecursion IsPlain cs
  pub rest : List ℕ
  pub front : take limit bytes ≡ spellings cs ++ rest
  pub none : BeginsNone rest
  pub place : (IsCut bytes rest × (at ≡ limit)) ⊎ ((IsCut bytes rest → ⊥) × (at ≡ length (spellings cs)))

-- A script has one reading.
abbrev pub ScriptsHaveOneReading : Type 0
ScriptsHaveOneReading = (bytes : List ℕ) (cs ds : List Said) → IsScript bytes cs → IsScript bytes ds → cs ≡ ds

-- None is good and bad.
abbrev pub GoodIsNotBad : Type 0
GoodIsNotBad = (bytes : List ℕ) (cs ds : List Said) (at : ℕ) → IsScript bytes cs → IsBadScript bytes ds at → ⊥

-- A bad script has one bad place, behind the same commands.
abbrev pub BadPlacesAreOne : Type 0
BadPlacesAreOne = (bytes : List ℕ) (cs ds : List Said) (at other : ℕ) → IsBadScript bytes cs at → IsBadScript bytes ds other → (cs ≡ ds) × (at ≡ other)
