use Rattle.std.proofs.Common.{ℕ, List, [], ◌∷◌, ap}
use Rattle.std.specs.Prelude.{codes}
use Rattle.operator_words.proofs.named.redo.Goals as goal

pub returns : goal.returns
returns c = (c.in_ok-k.ensures.0, ap (λ (word : List ℕ). codes "redo" ∷ word ∷ []) c.in_ok-k.ensures.1)
