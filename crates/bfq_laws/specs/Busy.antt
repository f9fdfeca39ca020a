-- Which sessions' queues wait or are served.
use Rattle.std.specs.Prelude.{◌≡◌, ℕ, ◌<◌, true, false, not, ◌&&◌, List, Some, is_some}
use Rattle.plain.specs.Lists.{is_empty}
use Rattle.plain.specs.Rules.{member_of, is_idle}
use Rattle.plain.specs.declared.seat.InService.{InService}
use Rattle.plain.specs.Machine.{Plain}
use Rattle.plain.specs.declared.call.Call.{Call}
use Rattle.plain.specs.Opening.{Limits}
use Rattle.plain.specs.Entities.{is_bfq}
use Rattle.plain.specs.Keeper.{machine_of}
use Rattle.plain.specs.Headline.{replay}

-- the entity of each session waits or is served exactly where, under bfq, its queue is not empty (B-WF2Q+: a backlogged entity waits to be
-- picked, or is served; under another scheduler nobody does, by our profile)
abbrev pub BusyAreNotIdle : Plain → Type 0
BusyAreNotIdle m =
    (seat : ℕ) → seat < 16 → is_some (m.seat seat) ≡ true
    → not (is_idle (member_of m.bfq seat).state) ≡ (is_bfq m.scheduler && not (is_empty (m.queue seat)))

-- and a queue is in service under bfq alone, and is not empty (bfq: a queue that has become empty expires)
abbrev pub ServedIsBusy : Plain → Type 0
ServedIsBusy m = (slot : InService) → m.bfq.in_service ≡ Some slot → (is_bfq m.scheduler ≡ true) × (is_empty (m.queue slot.seat) ≡ false)

-- so it is on the machine of every keeper that a journal makes
abbrev pub BusySessionsWaitOrAreServed : Limits → ℕ → List Call → Type 0
BusySessionsWaitOrAreServed l most journal = BusyAreNotIdle (machine_of (replay l most journal)) × ServedIsBusy (machine_of (replay l most journal))
