use Rattle.std.proofs.Common.{◌≡◌, take}
use Rattle.mk_base.proofs.plain.copied_items.Given as goal

abbrev pub invariant-loop-x : goal.invariant-loop-x
invariant-loop-x g l = l.to.items ≡ take l.x-index l.from
