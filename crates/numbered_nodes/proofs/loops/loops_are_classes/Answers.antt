use Rattle.std.proofs.Common.{refl, inl}
use Rattle.numbered_nodes.proofs.ReachLaws.{loop_sym, loop_trans}
use Rattle.numbered_nodes.proofs.loops.loops_are_classes.Goals as goal

pub returns-clause-itself : goal.returns-clause-itself
returns-clause-itself c = λ g a. inl refl

pub returns-clause-back : goal.returns-clause-back
returns-clause-back c = λ g a b s. loop_sym s

pub returns-clause-on : goal.returns-clause-on
returns-clause-on c = λ g a b d s t. loop_trans s t
