-- How far a session went: what was read of its input, and what was counted and written where a stream failed.
use Rattle.std.specs.Prelude.{◌≡◌, ◌≢◌, ◌⊎◌, ℕ, ◌+◌, ◌≤◌, List, [], ◌∷◌, ◌++◌, length, take, Some}
use Rattle.std.specs.declared.option.Option.{Option}
use Rattle.std.specs.Option.{IfSome}
use Rattle.std.specs.List.{AllByRecursion}
use Rattle.std.specs.Io.KnownBytes.{Appends, Consumes}
use Rattle.session_lang.specs.Spelling.{Said, IsCommand, spelling}
use Rattle.session_lang.specs.Script.{limit, IsPlain, IsBadScript, spellings}
use Rattle.hsmake_top.specs.Session.{opening, state_after, reply_of, replies, all_checks, bad_line}

-- how many bytes one read takes at most
abbrev pub piece : ℕ
piece = 8192

-- the bytes are a proper beginning of a command, as no bytes are
abbrev pub IsPart : List ℕ → Type 0
IsPart bytes = (c : Said) × (more : List ℕ) × IsCommand c × (more ≢ []) × (bytes ++ more ≡ spelling c)

-- the bytes are whole commands, none of them quit, and a proper beginning of one more, which may be quit
pub record IsOpen (bytes : List ℕ) : Type 0 where
  pub commands : List Said
  pub plain : AllByRecursion IsPlain commands
  pub part : List ℕ
  pub part_is : IsPart part
  pub bytes_are : bytes ≡ spellings commands ++ part

-- What was read of an input, of which the rest is left: before the last read what had been read was open and within
-- the limit, and the last read took at most a piece; of what stands behind the limit at most one byte was read.
pub record HasConsumed (bytes rest : List ℕ) : Type 0 where
  pub first : List ℕ
  pub last : List ℕ
  pub front : bytes ≡ first ++ last ++ rest
  pub is_open : IsOpen first
  pub within : length first ≤ limit
  pub short : length last ≤ piece
  pub total : length first + length last ≤ limit + 1

-- the same where the input tells what it has left
abbrev pub HaveConsumed : Option (List ℕ) → Option (List ℕ) → Type 0
HaveConsumed left_then left_now = IfSome left_then (λ bytes. IfSome left_now (λ rest. HasConsumed bytes rest))

-- A read failed: some commands were carried out, what was read behind them is a proper beginning of one more, and the
-- output took just the replies.
pub record StoppedReading (bytes : List ℕ) (left_now : Option (List ℕ)) (checks_then checks_now : ℕ) (taken_then taken_now : Option (List ℕ)) : Type 0 where
  pub commands : List Said
  pub plain : AllByRecursion IsPlain commands
  pub part : List ℕ
  pub part_is : IsPart part
  pub read : Consumes (Some bytes) left_now (spellings commands ++ part)
  pub rest : List ℕ
  pub begins : take limit bytes ≡ spellings commands ++ (part ++ rest)
  pub written : Appends taken_then taken_now (replies opening commands)
  pub checks_are : checks_now ≡ checks_then + all_checks opening commands

-- A write failed in the reply to a command: the output took the replies before it and a front of that reply, and its
-- checks were counted.
pub record StoppedInReply (bytes : List ℕ) (checks_then checks_now : ℕ) (taken_then taken_now : Option (List ℕ)) : Type 0 where
  pub commands : List Said
  pub plain : AllByRecursion IsPlain commands
  pub last : Said
  pub last_plain : IsPlain last
  pub rest : List ℕ
  pub begins : take limit bytes ≡ spellings commands ++ (spelling last ++ rest)
  pub count : ℕ
  pub written : Appends taken_then taken_now (replies opening commands ++ take count (reply_of (state_after opening commands) last))
  pub checks_are : checks_now ≡ checks_then + all_checks opening (commands ++ last ∷ [])

-- A write failed in the last line of a bad script: the output took all replies and a front of that line.
pub record StoppedInBadLine (bytes : List ℕ) (checks_then checks_now : ℕ) (taken_then taken_now : Option (List ℕ)) : Type 0 where
  pub commands : List Said
  pub at : ℕ
  pub bad : IsBadScript bytes commands at
  pub count : ℕ
  pub written : Appends taken_then taken_now (replies opening commands ++ take count (bad_line at))
  pub checks_are : checks_now ≡ checks_then + all_checks opening commands

abbrev pub StoppedWriting : List ℕ → ℕ → ℕ → Option (List ℕ) → Option (List ℕ) → Type 0
StoppedWriting bytes checks_then checks_now taken_then taken_now =
    StoppedInReply bytes checks_then checks_now taken_then taken_now ⊎ StoppedInBadLine bytes checks_then checks_now taken_then taken_now
