-- Whose requests a queue has.
use Rattle.std.specs.Prelude.{◌≡◌, ℕ, true, List, All}
use Rattle.plain.specs.Machine.{Plain}
use Rattle.plain.specs.declared.call.Call.{Call}
use Rattle.plain.specs.Opening.{Limits}
use Rattle.plain.specs.Sessions.{is_session}
use Rattle.plain.specs.Keeper.{machine_of}
use Rattle.plain.specs.Headline.{replay}

-- each request in the queue of a seat is of the session that sits there, and so the queue of a free seat is empty (our profile)
abbrev pub QueuesAreOwned : Plain → Type 0
QueuesAreOwned m = (seat : ℕ) → All (λ request. is_session request.session (m.seat seat) ≡ true) (m.queue seat)

-- so it is on the machine of every keeper that a journal makes
abbrev pub QueuesAreOfTheirSessions : Limits → ℕ → List Call → Type 0
QueuesAreOfTheirSessions l most journal = QueuesAreOwned (machine_of (replay l most journal))
