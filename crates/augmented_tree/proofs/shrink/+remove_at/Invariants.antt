use Rattle.augmented_tree.proofs.shrink.+remove_at.Given as goal

abbrev pub decreases-remove_at : goal.decreases-remove_at
decreases-remove_at l = l.levels
