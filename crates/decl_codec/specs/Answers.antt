-- What a reader answers, which can run out of memory.
use Rattle.std.specs.Prelude.{◌≡◌, Option, Some, None, Result, Ok, Err}
use Rattle.decl_codec.specs.declared.fault.Fault.{Fault}
use Rattle.decl_codec.specs.declared.fault.Fault.TheVariants as faults

-- why there is none: nothing is read there, or memory ran out
abbrev pub Fails : {Y : Type 0} → Fault → Option Y → Type 0
Fails faults.Malformed read = read ≡ None
Fails faults.NoMemory read = Unit {0}

-- what is read, or why there is none
abbrev pub Gives : {X Y : Type 0} → (X → Y) → Result X Fault → Option Y → Type 0
Gives view (Ok x) read = read ≡ Some (view x)
Gives view (Err e) read = Fails e read
