use Rattle.augmented_tree.proofs.shrink.+take_first.Given as goal

abbrev pub decreases-take_first : goal.decreases-take_first
decreases-take_first l = l.levels
