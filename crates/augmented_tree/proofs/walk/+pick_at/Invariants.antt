use Rattle.augmented_tree.proofs.walk.+pick_at.Given as goal

abbrev pub decreases-pick_at : goal.decreases-pick_at
decreases-pick_at l = l.levels
