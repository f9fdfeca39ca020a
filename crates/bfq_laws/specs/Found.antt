-- A dispatch under BFQ finds a queue and a request.
use Rattle.std.specs.Prelude.{◌≡◌, ℕ, true, List, Some, is_some}
use Rattle.plain.specs.declared.seat.InService.{InService}
use Rattle.plain.specs.Machine.{Bfq, Plain}
use Rattle.plain.specs.declared.call.Call.{Call}
use Rattle.plain.specs.Opening.{Limits}
use Rattle.plain.specs.Entities.{is_bfq}
use Rattle.plain.specs.Steps.Dispatch.{next_queue, next_request, with_budget_in, with_selected}
use Rattle.plain.specs.Keeper.{machine_of}
use Rattle.plain.specs.Headline.{replay}

-- under bfq, where a queue is not empty, and the queue in service has room in its budget or has expired, a queue is in service or is
-- selected, and it has a next request (bfq: where a queue is not empty one is selected)
abbrev pub DispatchFindsARequest : Limits → Plain → Type 0
DispatchFindsARequest l m =
    is_bfq m.scheduler ≡ true → is_some (next_queue m) ≡ true → (b : Bfq) → with_budget_in l m m.bfq.in_service ≡ Some b
    → (slot : InService) × ((with_selected b).in_service ≡ Some slot) × (is_some (next_request m slot.seat) ≡ true)

-- so it is on the machine of every keeper that a journal makes
abbrev pub EachDispatchFindsARequest : Limits → ℕ → List Call → Type 0
EachDispatchFindsARequest l most journal = DispatchFindsARequest l (machine_of (replay l most journal))
