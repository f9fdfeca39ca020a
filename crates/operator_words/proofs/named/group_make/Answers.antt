use Rattle.std.proofs.Common.{ℕ, List, [], ◌∷◌, ap, ◌∙◌}
use Rattle.std.specs.Prelude.{codes}
use Rattle.std.specs.Fmt.{decimal}
use Rattle.operator_words.proofs.named.group_make.Goals as goal

pub returns : goal.returns
returns c = (
  (c.in_ok-parent.ensures.0, c.in_ok-weight.ensures.0),
  ap (λ (word : List ℕ). codes "group-make" ∷ word ∷ c.args.given.now ∷ []) c.in_ok-parent.ensures.1 ∙ ap (λ (word : List ℕ). codes "group-make" ∷ decimal c.in_ok-parent.parent ∷ word ∷ []) c.in_ok-weight.ensures.1,
)
