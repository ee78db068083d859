-- A script that is read piece by piece, up to the limit.
use Rattle.std.specs.Prelude.{◌≡◌, ◌⊎◌, ℕ, ◌+◌, ◌-◌, ◌<◌, ◌≤◌, List, [], ◌++◌, length, take, drop}
use Rattle.session_lang.specs.Script.{limit, BeginsNone, GoesOn}
use Rattle.std.specs.declared.option.Option.{Option}
use Rattle.std.specs.Option.{IfSome}
use Rattle.std.specs.Io.KnownBytes.{Consumes}
use Rattle.session_lang.specs.declared.command.Command.{Command}
use Rattle.session_lang.specs.Meant.{said, AreSpansOf}
use Rattle.session_lang.specs.Spelling.{IsCommand, spelling}
use Rattle.hsmake_top.specs.Stopped.{piece, IsPart}
use Rattle.hsmake_top.specs.declared.script.Script.{Script}
use Rattle.hsmake_top.specs.declared.script.Next.{Next}
use Rattle.hsmake_top.specs.declared.script.Next.TheVariants.{Whole, Bad}

-- the bytes that were read and that no command has taken
abbrev pub pending : Script → List ℕ
pending s = drop s.at s.buffer.items

-- how many bytes the commands so far took
abbrev pub place : Script → ℕ
place s = s.start + s.at

-- how many bytes were read
abbrev pub seen : Script → ℕ
seen s = s.start + length s.buffer.items

pub record IsWithin (s : Script) : Type 0 where
  pub at : s.at ≤ length s.buffer.items
  pub seen : s.start + length s.buffer.items ≤ limit

-- more is pending: some bytes that were read
abbrev pub IsLonger : Script → Script → List ℕ → Type 0
IsLonger old new bytes = (pending new ≡ pending old ++ bytes) × (place new ≡ place old)

-- What was read by at most one read, of a piece at most, and of at most one byte behind the limit.
pub record IsLastRead (left_then left_now : Option (List ℕ)) (seen_then : ℕ) : Type 0 where
  pub last : List ℕ
  pub read : Consumes left_then left_now last
  pub short : length last ≤ piece
  pub total : seen_then + length last ≤ limit + 1

-- A place and what is pending there lead, over what was read since, to a proper beginning of a command.
pub record StopsInPart (left_then left_now : Option (List ℕ)) (before : ℕ) (pending_then : List ℕ) : Type 0 where
  pub first : List ℕ
  pub read : Consumes left_then left_now first
  pub part : IsPart (pending_then ++ first)
  pub within : before + length (pending_then ++ first) ≤ limit

-- The same, and one read more.
pub record ReadsFurther (left_then left_now : Option (List ℕ)) (before : ℕ) (pending_then : List ℕ) : Type 0 where
  pub first : List ℕ
  pub last : List ℕ
  pub read : Consumes left_then left_now (first ++ last)
  pub part : IsPart (pending_then ++ first)
  pub within : before + length (pending_then ++ first) ≤ limit
  pub short : length last ≤ piece
  pub total : before + length (pending_then ++ first) + length last ≤ limit + 1

-- what was read since: nothing, or a read more behind a proper beginning of a command
abbrev pub ReadsOn : Option (List ℕ) → Option (List ℕ) → ℕ → List ℕ → Type 0
ReadsOn left_then left_now before pending_then = Consumes left_then left_now [] ⊎ ReadsFurther left_then left_now before pending_then

-- what is looked at of the bytes from a place on
abbrev pub window : ℕ → List ℕ → List ℕ
window before ahead = take (limit - before) ahead

abbrev pub IsCutAt : ℕ → List ℕ → Type 0
IsCutAt before ahead = (limit - before < length ahead) × GoesOn (window before ahead)

-- no command stands ahead of a place, and this is the bad place
pub record IsBadAhead (before : ℕ) (ahead : List ℕ) (at : ℕ) : Type 0 where
  pub none : BeginsNone (window before ahead)
  pub place : (IsCutAt before ahead × (at ≡ limit)) ⊎ ((IsCutAt before ahead → ⊥) × (at ≡ before))

-- a command stands ahead, once some bytes were read
pub record IsWhole (left_then left_now : Option (List ℕ)) (old new : Script) (command : Command) (used : ℕ) : Type 0 where
  pub bytes : List ℕ
  pub read : Consumes left_then left_now bytes
  pub longer : IsLonger old new bytes
  pub valid : IsCommand (said (pending new) command)
  pub spans : AreSpansOf (length (pending new)) command
  pub used_is : used ≡ length (spelling (said (pending new) command))
  pub rest : List ℕ
  pub front : pending new ≡ spelling (said (pending new) command) ++ rest

-- what a script goes on with
abbrev pub IsNext : Option (List ℕ) → Option (List ℕ) → Script → Script → Next → Type 0
IsNext left_then left_now old new (Whole command used) = IsWhole left_then left_now old new command used
IsNext left_then left_now old new (Bad at) = IfSome left_then (λ bytes. IsBadAhead (place old) (pending old ++ bytes) at)
