use Rattle.term_classes.specs.Ceilings.{Lowered}
use Rattle.term_classes.proofs.Caps.{AllCapped}
use Rattle.term_classes.proofs.ceiling.cap_saved.Given as goal

abbrev pub invariant-loop-one : goal.invariant-loop-one
invariant-loop-one l = record {
  lowered : Lowered l.fn.ceilings l.ceilings;
  capped : AllCapped l.nodes l.slots l.ceilings l.saved l.one-index;
}
