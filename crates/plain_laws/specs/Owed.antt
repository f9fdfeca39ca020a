-- What a seat's running counter counts: the bios of its session that are queued, in the dispatch list, in flight, or completed and not yet
-- reaped.
use Rattle.std.specs.Prelude.{◌≡◌, ℕ, ◌+◌, ◌==◌, List, length, Some, if◌then◌else◌}
use Rattle.std.specs.List.{sum_by}
use Rattle.plain.specs.declared.seat.Seat.{Seat}
use Rattle.plain.specs.Machine.{WholeRequest, Plain}
use Rattle.plain.specs.declared.call.Call.{Call}
use Rattle.plain.specs.Opening.{Limits}
use Rattle.plain.specs.Requests.{flying}
use Rattle.plain.specs.Keeper.{machine_of}
use Rattle.plain.specs.Headline.{replay}

-- how many bios of a session a request has: all of its bios, or none
abbrev pub bios_in : ℕ → WholeRequest → ℕ
bios_in session request = if request.session == session then length request.bios else 0

-- how many bios of a session some requests have
abbrev pub bios_of : ℕ → List WholeRequest → ℕ
bios_of session requests = sum_by (bios_in session) requests

-- the bios that a session at a seat has queued, in the dispatch list, in flight, and completed in its outbox
abbrev pub owed : Limits → Plain → ℕ → ℕ → ℕ
owed l m seat session = bios_of session (m.queue seat) + bios_of session m.requeued + bios_of session (flying l m) + length (m.outbox seat)

-- the counter of each seat that is taken is what its session is owed
abbrev pub CountsOwed : Limits → Plain → Type 0
CountsOwed l m = (seat : ℕ) (s : Seat) → m.seat seat ≡ Some s → s.unreaped ≡ owed l m seat s.session

-- so it is on the machine of every keeper that a journal makes
abbrev pub UnreapedIsOwed : Limits → ℕ → List Call → Type 0
UnreapedIsOwed l most journal = CountsOwed l (machine_of (replay l most journal))
