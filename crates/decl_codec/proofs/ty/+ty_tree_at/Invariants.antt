use Rattle.decl_codec.proofs.ty.+ty_tree_at.Given as goal

abbrev pub decreases-ty_tree_at : goal.decreases-ty_tree_at
decreases-ty_tree_at l = l.levels
