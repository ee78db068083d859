use Rattle.term_classes.proofs.press.+press.Given as goal

abbrev pub decreases-press : goal.decreases-press
decreases-press l = l.levels
