use Rattle.mod_graph.proofs.LoopClasses.{loops_are_classes}
use Rattle.mod_graph.proofs.law.loops_are_classes.Goals as goal

pub returns : goal.returns
returns c = loops_are_classes
