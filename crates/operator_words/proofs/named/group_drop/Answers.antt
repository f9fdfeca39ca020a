use Rattle.std.proofs.Common.{ℕ, List, [], ◌∷◌, ap}
use Rattle.std.specs.Prelude.{codes}
use Rattle.operator_words.proofs.named.group_drop.Goals as goal

pub returns : goal.returns
returns c = (c.in_ok-group.ensures.0, ap (λ (word : List ℕ). codes "group-drop" ∷ word ∷ []) c.in_ok-group.ensures.1)
