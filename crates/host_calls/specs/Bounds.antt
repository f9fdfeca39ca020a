-- How great times, ages and budgets are.
use Rattle.std.specs.Prelude.{◌≡◌, ℕ, ◌<◌, ◌≤◌, ◌^◌, List, Some, None, slice_index_or}
use Rattle.sector_core.specs.declared.class.Class.{Class}
use Rattle.plain.specs.declared.member.Member.{Member}
use Rattle.plain.specs.Classes.{Classes, time_of}
use Rattle.plain.specs.Groups.{entity_of}
use Rattle.plain.specs.declared.seat.InService.{InService}
use Rattle.plain.specs.declared.call.Call.{Call}
use Rattle.plain.specs.Opening.{Limits}
use Rattle.plain.specs.Keeper.{machine_of}
use Rattle.plain.specs.Headline.{replay}

-- no time of a group is above 2^62: neither a virtual time of it, nor the start or the finish of a member (our profile; the times are B-WF2Q+'s)
abbrev pub AreTimely : Classes → Type 0
AreTimely tree =
    ((class : Class) → time_of tree.vtimes class ≤ 2 ^ 62)
    × ((entity : ℕ) (member : Member) → slice_index_or tree.members entity None ≡ Some member → (member.start ≤ 2 ^ 62) × (member.finish ≤ 2 ^ 62))

-- On the machine of every keeper that a journal makes: no time is, where the first one is not;
abbrev pub TimesAreBounded : Limits → ℕ → List Call → Type 0
TimesAreBounded l most journal = l.first_vtime ≤ 2 ^ 62 → (group : ℕ) → AreTimely ((machine_of (replay l most journal)).bfq.service group)

-- the queue in service is that of a seat, and it has been so for no more ticks than serials were given (our profile);
abbrev pub AgesAreBounded : Limits → ℕ → List Call → Type 0
AgesAreBounded l most journal =
    (slot : InService) → (machine_of (replay l most journal)).bfq.in_service ≡ Some slot → (slot.seat < 16) × (slot.age ≤ (replay l most journal).last)

-- and the budget of a group is the greatest one (our profile).
abbrev pub GroupsHaveTheGreatestBudget : Limits → ℕ → List Call → Type 0
GroupsHaveTheGreatestBudget l most journal = (group : ℕ) → group < 32 → (machine_of (replay l most journal)).bfq.budget (entity_of group) ≡ l.max_budget
