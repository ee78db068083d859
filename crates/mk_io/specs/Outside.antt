-- What sources and sinks do, and how they fail.
use Rattle.std.specs.Prelude.{◌≡◌, ℕ, ◌+◌, ◌-◌, ◌^◌, ◌≤◌, ◌<◌, min, List, length, take, MatchResult, OnErr, OnOk, Result, Err}
use Rattle.std.specs.declared.option.Option.{Option}
use Rattle.std.specs.Io.KnownBytes.{Appends, Keeps}
use Rattle.mk_io.specs.declared.outside.IoErr.{IoErr}
use Rattle.mk_io.specs.declared.outside.IoErr.TheVariants.{Failed, NoMemory}

-- one more, of a count in a `u64` that stays at its last value
abbrev pub next_count : ℕ → ℕ
next_count n = min (n + 1) (2 ^ 64 - 1)

-- the count rose, or stands at its last value
abbrev pub Rose : ℕ → ℕ → Type 0
Rose before now = next_count before ≤ now

-- A failure comes only where the count rose, and success only where it stayed.
pub record HasCause {T E : Type 0} (before now : ℕ) (result : Result T E) : Type 0 where
  pub later : before ≤ now
  pub failed : OnErr result (Rose before now)
  pub kept : OnOk result (now ≡ before)

-- the outside failed
abbrev pub IsFailed : {T : Type 0} → Result T IoErr → Type 0
IsFailed result = result ≡ Err Failed

-- A failure of the outside comes only where the count rose; success and want of memory only where it stayed.
pub record HasIoCause {T : Type 0} (before now : ℕ) (result : Result T IoErr) : Type 0 where
  pub later : before ≤ now
  pub failed : IsFailed result → Rose before now
  pub kept : (IsFailed result → ⊥) → now ≡ before

-- known bytes grow by a front of bs
abbrev pub AppendsFront : Option (List ℕ) → Option (List ℕ) → List ℕ → Type 0
AppendsFront old new bs = (k : ℕ) × Appends old new (take k bs)

-- what a refused write took: a front where the outside failed, and nothing where memory ran out
abbrev pub PutsAtErr : IoErr → Option (List ℕ) → Option (List ℕ) → List ℕ → Type 0
PutsAtErr Failed old new piece = AppendsFront old new piece
PutsAtErr NoMemory old new piece = Keeps old new

-- a write took as many bytes as it answers, at least one where there is one
abbrev pub Puts : Option (List ℕ) → Option (List ℕ) → Result ℕ IoErr → List ℕ → Type 0
Puts old new result piece = MatchResult result
    (λ n. Appends old new (take n piece) × (n ≤ length piece) × (0 < length piece → 0 < n))
    (λ e. PutsAtErr e old new piece)
