use Rattle.decl_codec.proofs.going.+go_ty_tree.Given as goal

abbrev pub decreases-go_ty_tree : goal.decreases-go_ty_tree
decreases-go_ty_tree l = l.levels
