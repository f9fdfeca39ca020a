-- SetWeight: the weight is pending until the group is stamped next (bfq has weights of groups; that a new one waits is our profile).
use Rattle.std.specs.Prelude.{ℕ, ◌+◌, Bool, not, [], ◌∷◌, ◌++◌}
use Rattle.plain.specs.Machine.{Plain, put}
use Rattle.plain.specs.Groups.{entity_of}
use Rattle.plain.specs.declared.answer.Code.TheVariants.{BadWeight}
use Rattle.plain.specs.declared.answer.Reply.TheVariants.{Done}
use Rattle.plain.specs.declared.answer.Answer.TheVariants.{Refused}
use Rattle.plain.specs.Tests.{StepResult, unless, accepted}
use Rattle.plain.specs.Entities.{is_weight, group_tests}

-- a group that is not the root gets a pending weight of 1 to 1000 (bfq; that it is pending is our profile)
abbrev pub set_weight : Plain → Bool → ℕ → ℕ → StepResult
set_weight m room group weight = unless (group_tests m group ++ (
    (not (is_weight weight), Refused BadWeight)
    ∷ [])) m
    (accepted room m (record m { bfq = record m.bfq { pending = put m.bfq.pending (entity_of group) weight } }) Done)
