use Rattle.augmented_tree.proofs.walk.+first_key_at.Given as goal

abbrev pub decreases-first_key_at : goal.decreases-first_key_at
decreases-first_key_at l = l.levels
