-- Whom select takes into service: nobody while a sibling of a higher class waits.
use Rattle.std.specs.Prelude.{◌≡◌, ℕ, ◌≤◌, true, List, All, Some, None}
use Rattle.plain.specs.declared.member.Member.{Member}
use Rattle.plain.specs.Members.{IsActiveAt}
use Rattle.plain.specs.Classes.{rank}
use Rattle.plain.specs.Groups.{path}
use Rattle.plain.specs.declared.seat.InService.{InService}
use Rattle.plain.specs.Machine.{Bfq, Plain}
use Rattle.plain.specs.Rules.{class_of, group_of}
use Rattle.plain.specs.declared.call.Call.{Call}
use Rattle.plain.specs.Opening.{Limits}
use Rattle.plain.specs.Entities.{is_bfq}
use Rattle.plain.specs.Steps.Dispatch.{with_budget_in, with_selected}
use Rattle.plain.specs.Keeper.{machine_of}
use Rattle.plain.specs.Headline.{replay}

-- no entity that waits in the same group is of a higher class (bfq: classes in strict order)
abbrev pub GoesFirst : Bfq → ℕ → Type 0
GoesFirst b entity = (n : ℕ) (m : Member) → IsActiveAt (b.service (group_of b entity)).members n m → rank (class_of b entity) ≤ rank m.class

-- if nobody is in service, whoever is selected goes first, as things stand before that: the session, and each group above it
abbrev pub SelectsInOrder : Bfq → Type 0
SelectsInOrder b = b.in_service ≡ None → (slot : InService) → (with_selected b).in_service ≡ Some slot → All (GoesFirst b) (path b.parent slot.seat)

-- so it is if a dispatch selects
abbrev pub DispatchesInOrder : Limits → Plain → Type 0
DispatchesInOrder l m = is_bfq m.scheduler ≡ true → (b : Bfq) → with_budget_in l m m.bfq.in_service ≡ Some b → SelectsInOrder b

-- on the machine of every keeper that a journal makes
abbrev pub ClassesAreInOrder : Limits → ℕ → List Call → Type 0
ClassesAreInOrder l most journal = DispatchesInOrder l (machine_of (replay l most journal))
