use Rattle.augmented_tree.proofs.walk.+sum_above_at.Given as goal

abbrev pub decreases-sum_above_at : goal.decreases-sum_above_at
decreases-sum_above_at l = l.levels
