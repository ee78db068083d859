use Rattle.std.proofs.Common.{take}
use Rattle.class_env.specs.Supers.{Grown}
use Rattle.class_env.proofs.names.put_all.Given as goal

abbrev pub invariant-loop-name : goal.invariant-loop-name
invariant-loop-name l = Grown l.fn.names.keys (take l.name-index l.more) l.names.keys
