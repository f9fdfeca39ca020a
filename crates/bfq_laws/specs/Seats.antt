-- Which seats' entities are in a group.
use Rattle.std.specs.Prelude.{◌≡◌, ℕ, ◌<◌, List, is_some}
use Rattle.plain.specs.Machine.{Plain}
use Rattle.plain.specs.declared.call.Call.{Call}
use Rattle.plain.specs.Opening.{Limits}
use Rattle.plain.specs.Keeper.{machine_of}
use Rattle.plain.specs.Headline.{replay}

-- the entity of a seat is in a group exactly where a session sits there (our profile)
abbrev pub SeatsAreInGroups : Plain → Type 0
SeatsAreInGroups m = (seat : ℕ) → seat < 16 → is_some (m.bfq.parent seat) ≡ is_some (m.seat seat)

-- so it is on the machine of every keeper that a journal makes
abbrev pub TakenSeatsAreInGroups : Limits → ℕ → List Call → Type 0
TakenSeatsAreInGroups l most journal = SeatsAreInGroups (machine_of (replay l most journal))
