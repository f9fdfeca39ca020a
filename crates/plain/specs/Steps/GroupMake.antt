-- GroupMake: a group comes under its parent, of the best-effort class, with the lowest number that is free (bfq: groups with weights, in a tree;
-- the class and the number are our profile).
use Rattle.std.specs.Prelude.{ℕ, nat_le, Bool, not, [], ◌∷◌, Option, None, Some}
use Rattle.std.specs.List.{find}
use Rattle.plain.specs.Lists.{numbers}
use Rattle.plain.specs.Machine.{Bfq, Plain}
use Rattle.plain.specs.Opening.{Limits}
use Rattle.plain.specs.Classes.{same_times}
use Rattle.sector_core.specs.declared.class.Class.TheVariants.{BestEffort}
use Rattle.plain.specs.Groups.{entity_of, depth, most_levels}
use Rattle.plain.specs.Rules.{put_vtimes, stands}
use Rattle.plain.specs.declared.answer.Code.TheVariants.{NoGroup, BadWeight, TooDeep, GroupsFull}
use Rattle.plain.specs.declared.answer.Reply.TheVariants.{Group}
use Rattle.plain.specs.declared.answer.Answer.TheVariants.{Refused}
use Rattle.plain.specs.Tests.{StepResult, unless, accepted}
use Rattle.plain.specs.Entities.{with_entity, is_weight}

-- the lowest number from 1 to 31 that no group has, if there is one (our profile)
abbrev pub free_group : Bfq → Option ℕ
free_group b = find (λ group. not (stands b group)) (numbers 1 31)

-- a group stands under a number, idle and best effort in its parent, at the first virtual time (bfq has groups; all else is our profile)
abbrev pub made_group : Limits → Plain → Bool → ℕ → ℕ → Option ℕ → StepResult
made_group l m room parent weight None = (m, Refused GroupsFull)
made_group l m room parent weight (Some group) =
    accepted room m (record m { bfq = put_vtimes group (same_times l.first_vtime) (with_entity l (entity_of group) parent BestEffort weight m.bfq) }) (Group group)

-- a group may be made in one that stands and is not four levels deep, with a weight of 1 to 1000 (bfq; the depth is our profile)
abbrev pub group_make : Limits → Plain → Bool → ℕ → ℕ → StepResult
group_make l m room parent weight = unless (
    (not (stands m.bfq parent), Refused NoGroup)
    ∷ (not (is_weight weight), Refused BadWeight)
    ∷ (nat_le most_levels (depth m.bfq.parent parent), Refused TooDeep)
    ∷ []) m
    (made_group l m room parent weight (free_group m.bfq))
