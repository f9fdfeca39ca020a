-- What the sums of weights are by which a charge divides.
use Rattle.std.specs.Prelude.{◌≡◌, ℕ, ◌≤◌, true, List, All, Some}
use Rattle.plain.specs.Groups.{path}
use Rattle.plain.specs.Rules.{class_of, group_of, wsum}
use Rattle.plain.specs.declared.seat.InService.{InService}
use Rattle.plain.specs.Machine.{Bfq, Plain}
use Rattle.plain.specs.declared.call.Call.{Call}
use Rattle.plain.specs.Opening.{Limits}
use Rattle.plain.specs.Entities.{is_bfq}
use Rattle.plain.specs.Steps.Dispatch.{with_budget_in, with_selected}
use Rattle.plain.specs.Keeper.{machine_of}
use Rattle.plain.specs.Headline.{replay}

-- if a queue is in service, some weight counts in the class of each entity on its path, in its group (B-WF2Q+: by their sum the share is
-- made by which a virtual time rises)
abbrev pub SumsAreThere : Bfq → Type 0
SumsAreThere b = (slot : InService) → b.in_service ≡ Some slot → All (λ entity. 1 ≤ wsum b (group_of b entity) (class_of b entity)) (path b.parent slot.seat)

-- so it is under bfq, and where a dispatch has a queue in service, before it charges
abbrev pub SumsArePositiveIn : Limits → Plain → Type 0
SumsArePositiveIn l m =
    is_bfq m.scheduler ≡ true → SumsAreThere m.bfq × ((b : Bfq) → with_budget_in l m m.bfq.in_service ≡ Some b → SumsAreThere (with_selected b))

-- so it is on the machine of every keeper that a journal makes
abbrev pub SumsArePositive : Limits → ℕ → List Call → Type 0
SumsArePositive l most journal = SumsArePositiveIn l (machine_of (replay l most journal))
