-- GroupDrop: a group in which there is no entity goes (bfq has groups; when they may go is our profile).
use Rattle.std.specs.Prelude.{ℕ, ◌+◌, ◌==◌, Bool, false, [], ◌∷◌, ◌++◌, Option, None, Some, is_some}
use Rattle.std.specs.List.{find}
use Rattle.plain.specs.Lists.{numbers}
use Rattle.plain.specs.Machine.{Bfq, Plain}
use Rattle.plain.specs.Groups.{entity_of}
use Rattle.plain.specs.declared.answer.Code.TheVariants.{GroupInUse}
use Rattle.plain.specs.declared.answer.Reply.TheVariants.{Done}
use Rattle.plain.specs.declared.answer.Answer.TheVariants.{Refused}
use Rattle.plain.specs.Tests.{StepResult, unless, accepted}
use Rattle.plain.specs.Entities.{without_entity, group_tests}

-- an entity is in this group (bfq)
abbrev pub is_in : ℕ → Option ℕ → Bool
is_in group None = false
is_in group (Some parent) = parent == group

-- some session or group is in this group (bfq)
abbrev pub is_used : Bfq → ℕ → Bool
is_used b group = is_some (find (λ entity. is_in group (b.parent entity)) (numbers 0 48))

-- a group may go if it stands, is not the root, and no entity is in it (our profile)
abbrev pub group_drop : Plain → Bool → ℕ → StepResult
group_drop m room group = unless (group_tests m group ++ (
    (is_used m.bfq group, Refused GroupInUse)
    ∷ [])) m
    (accepted room m (record m { bfq = without_entity (entity_of group) m.bfq }) Done)
