use Rattle.std.proofs.Common.{sym, ◌∙◌}
use Rattle.term_classes.proofs.Roots.{root_next, root_last}
use Rattle.term_classes.proofs.find.find.Goals as goal

pub loop-at-preserved : goal.loop-at-preserved
loop-at-preserved c = record {
  within = c.requires.linked.within c.loop-at.at c.loop-at.invariant.within;
  same =
      sym (root_next c.args.slots.now c.requires.linked c.loop-at.at c.loop-at.invariant.within c.loop-at-test.true) ∙ c.loop-at.invariant.same;
}

pub returns-clause-root : goal.returns-clause-root
returns-clause-root c = sym (root_last c.args.slots.now c.loop-at.at c.loop-at-test.false) ∙ c.loop-at.invariant.same
