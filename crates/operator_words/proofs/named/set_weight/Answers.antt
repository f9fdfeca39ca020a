use Rattle.std.proofs.Common.{ℕ, List, [], ◌∷◌, ap, ◌∙◌}
use Rattle.std.specs.Prelude.{codes}
use Rattle.std.specs.Fmt.{decimal}
use Rattle.operator_words.proofs.named.set_weight.Goals as goal

pub returns : goal.returns
returns c = (
  (c.in_ok-group.ensures.0, c.in_ok-weight.ensures.0),
  ap (λ (word : List ℕ). codes "set-weight" ∷ word ∷ c.args.given.now ∷ []) c.in_ok-group.ensures.1 ∙ ap (λ (word : List ℕ). codes "set-weight" ∷ decimal c.in_ok-group.group ∷ word ∷ []) c.in_ok-weight.ensures.1,
)
