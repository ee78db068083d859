-- The exit statuses.
use Rattle.std.specs.Prelude.{ℕ}
use Rattle.mk_base.specs.declared.status.Status.{Status}
use Rattle.mk_base.specs.declared.status.Status.TheVariants.{Done, Failed, Usage, ReadFault, NoMemory, WriteFault, StoreFault, BadScript}

abbrev pub status_number : Status → ℕ
status_number Done = 0
status_number Failed = 1
status_number Usage = 2
status_number ReadFault = 3
status_number NoMemory = 4
status_number WriteFault = 5
status_number StoreFault = 6
status_number BadScript = 7
