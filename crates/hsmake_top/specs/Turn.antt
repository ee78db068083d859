-- The turns of a session: what was done so far, and how a session ends.
use Rattle.std.specs.Prelude.{◌≡◌, ◌⊎◌, ℕ, ◌+◌, ◌≤◌, Bool, true, false, List, ◌++◌, length}
use Rattle.std.specs.declared.option.Option.{Option}
use Rattle.std.specs.Option.{IfSome}
use Rattle.std.specs.List.{AllByRecursion}
use Rattle.std.specs.Io.KnownBytes.{Appends, Consumes}
use Rattle.mk_base.specs.declared.status.Status.{Status}
use Rattle.mk_base.specs.declared.status.Status.TheVariants as status
use Rattle.session_lang.specs.Spelling.{Said}
use Rattle.session_lang.specs.Script.{IsPlain, spellings}
use Rattle.hsmake_top.specs.declared.turn.Progress.{Progress}
use Rattle.hsmake_top.specs.Session.{State, opening, state_after, replies, any_fails, all_checks, HasWritten, Ended, EndedBad}
use Rattle.hsmake_top.specs.Stopped.{HaveConsumed, StoppedReading, StoppedWriting}
use Rattle.hsmake_top.specs.Ahead.{IsWithin, pending, place}
use Rattle.hsmake_top.specs.Kept.{IsKept, state_of}

-- what was read, written and counted so far
pub record SoFar (left_then left_now taken_then taken_now : Option (List ℕ)) (pending : List ℕ) (before : ℕ) (state : State) (failed : Bool) (checks_then checks_now : ℕ) : Type 0 where
  pub commands : List Said
  pub plain : AllByRecursion IsPlain commands
  pub read : Consumes left_then left_now (spellings commands ++ pending)
  pub consumed : HaveConsumed left_then left_now
  pub written : Appends taken_then taken_now (replies opening commands)
  pub before_is : before ≡ length (spellings commands)
  pub state_is : state ≡ state_after opening commands
  pub failed_is : failed ≡ any_fails opening commands
  pub checks_are : checks_now ≡ checks_then + all_checks opening commands

abbrev pub HasDone : Option (List ℕ) → Option (List ℕ) → Option (List ℕ) → Option (List ℕ) → ℕ → ℕ → Progress → Type 0
HasDone l0 l1 k0 k1 n0 n1 p = SoFar l0 l1 k0 k1 (pending p.script) (place p.script) (state_of p.session) p.failed n0 n1

-- each file took at least a byte of the script
pub record IsProgress (p : Progress) : Type 0 where
  pub within : IsWithin p.script
  pub kept : IsKept p.session
  pub few : length p.session.input.files ≤ place p.script

-- a session that is answered by this status
pub record IsEnd (left left_now taken_then taken_now : Option (List ℕ)) (checks_then checks_now : ℕ) (answer : Status) : Type 0 where
  pub done : answer ≡ status.Done → IfSome left (λ bytes. (text : List ℕ) × Ended bytes false checks_then checks_now text × Appends taken_then taken_now text)
  pub failed : answer ≡ status.Failed → IfSome left (λ bytes. (text : List ℕ) × Ended bytes true checks_then checks_now text × Appends taken_then taken_now text)
  pub bad : answer ≡ status.BadScript → IfSome left (λ bytes. (text : List ℕ) × EndedBad bytes checks_then checks_now text × Appends taken_then taken_now text)
  pub begun : IfSome left (λ bytes. HasWritten bytes taken_then taken_now)
  pub read_counted : answer ≡ status.ReadFault → IfSome left (λ bytes. StoppedReading bytes left_now checks_then checks_now taken_then taken_now)
  pub write_counted : answer ≡ status.WriteFault → IfSome left (λ bytes. StoppedWriting bytes checks_then checks_now taken_then taken_now)
  pub consumed : HaveConsumed left left_now

-- the answers to a whole script
abbrev pub IsWhole : Status → Type 0
IsWhole answer = (answer ≡ status.Done) ⊎ ((answer ≡ status.Failed) ⊎ (answer ≡ status.BadScript))
