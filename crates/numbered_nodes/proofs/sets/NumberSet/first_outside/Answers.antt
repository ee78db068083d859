use Rattle.std.proofs.Common.{◌*◌}
use Rattle.numbered_nodes.proofs.Outside.{word_more}
use Rattle.numbered_nodes.proofs.sets.NumberSet.first_outside.Goals as goal

pub loop-i-preserved : goal.loop-i-preserved
loop-i-preserved c = word_more c.args.self.now c.args.other.now (c.args.start * 64) c.loop-i.i c.args.bound c.loop-i.invariant c.in_default.ensures.none
