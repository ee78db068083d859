use Rattle.decl_codec.proofs.kind.+kind_tree_at.Given as goal

abbrev pub decreases-kind_tree_at : goal.decreases-kind_tree_at
decreases-kind_tree_at l = l.levels
