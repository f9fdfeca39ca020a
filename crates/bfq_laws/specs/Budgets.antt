-- What budgets are on every machine of a keeper.
use Rattle.std.specs.Prelude.{◌≡◌, ℕ, ◌≤◌, true, List, Some, is_some}
use Rattle.plain.specs.declared.seat.InService.{InService}
use Rattle.plain.specs.Machine.{Bfq, Plain}
use Rattle.plain.specs.declared.call.Call.{Call}
use Rattle.plain.specs.Opening.{Limits}
use Rattle.plain.specs.Keeper.{machine_of}
use Rattle.plain.specs.Headline.{replay}

-- each entity may be served 256 sectors or more at a time (bfq: a budget has room for a request; 256 sectors are our profile)
abbrev pub AreEnough : Bfq → Type 0
AreEnough b = (entity : ℕ) → 256 ≤ b.budget entity

-- so it is on the machine of every keeper that a journal makes, where a new queue's budget is so, and the greatest one is no lesser
abbrev pub BudgetsAreEnough : Limits → ℕ → List Call → Type 0
BudgetsAreEnough l most journal = 256 ≤ l.first_budget → l.first_budget ≤ l.max_budget → AreEnough (machine_of (replay l most journal)).bfq

-- the queue in service is that of a seat that is taken, and it has been sent no more sectors than its budget (bfq: a queue is served within
-- its budget)
abbrev pub ServiceIsWithin : Plain → Type 0
ServiceIsWithin m = (slot : InService) → m.bfq.in_service ≡ Some slot → (is_some (m.seat slot.seat) ≡ true) × (slot.service ≤ m.bfq.budget slot.seat)

-- so it is on the machine of every such keeper
abbrev pub ServiceIsWithinBudget : Limits → ℕ → List Call → Type 0
ServiceIsWithinBudget l most journal = 256 ≤ l.first_budget → l.first_budget ≤ l.max_budget → ServiceIsWithin (machine_of (replay l most journal))
