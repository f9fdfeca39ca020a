use Rattle.std.proofs.Common.{◌≡◌, ◌≢◌, ℕ, List, Option, Some, MatchOption, subst, ◌∙◌}
use Rattle.plain.specs.Groups.{parent}
use Rattle.dispatch_core.proofs.Grouping.{used_child}
use Rattle.dispatch_core.proofs.groups.is_used.Goals as goal

pub returns : goal.returns
returns c =
    c.is_some.ensures
    ∙ used_child c.args.parts.now.tables c.args.group c.first_child.result c.requires.places
    (subst (λ (ps : List (Option ℕ)). MatchOption c.first_child.result ((e : ℕ) → parent ps e ≢ Some c.args.group) (λ e. parent ps e ≡ Some c.args.group)) c.groups.ensures c.first_child.ensures)
