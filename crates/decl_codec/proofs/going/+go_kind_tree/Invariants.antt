use Rattle.decl_codec.proofs.going.+go_kind_tree.Given as goal

abbrev pub decreases-go_kind_tree : goal.decreases-go_kind_tree
decreases-go_kind_tree l = l.levels
