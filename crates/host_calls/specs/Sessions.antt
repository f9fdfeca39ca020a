-- At which seats sessions sit, and whose the requests are.
use Rattle.std.specs.Prelude.{◌≡◌, ℕ, ◌<◌, true, List, Option, Some}
use Rattle.plain.specs.declared.seat.Seat.{Seat}
use Rattle.plain.specs.declared.call.Call.{Call}
use Rattle.plain.specs.Opening.{Limits}
use Rattle.plain.specs.Sessions.{is_session}
use Rattle.plain.specs.Keeper.{machine_of}
use Rattle.plain.specs.Headline.{replay}
use Rattle.plain_laws.specs.Requests.{EachRequest}

-- sessions sit at the first sixteen seats (our profile)
abbrev pub AreWithin : (ℕ → Option Seat) → Type 0
AreWithin seats = (seat : ℕ) (s : Seat) → seats seat ≡ Some s → seat < 16

-- no two seats have one session (our profile: a session is named by the serial of its attach)
abbrev pub AreApart : (ℕ → Option Seat) → Type 0
AreApart seats = (seat other : ℕ) (s t : Seat) → seats seat ≡ Some s → seats other ≡ Some t → s.session ≡ t.session → seat ≡ other

-- a session sits at one of those seats, and at no other; it may be leaving (our profile)
abbrev pub SitsAtOne : (ℕ → Option Seat) → ℕ → Type 0
SitsAtOne seats session =
    (seat : ℕ) × (seat < 16) × (is_session session (seats seat) ≡ true) × ((other : ℕ) → is_session session (seats other) ≡ true → other ≡ seat)

-- On the machine of every keeper that a journal makes: the sessions;
abbrev pub SessionsSitApart : Limits → ℕ → List Call → Type 0
SessionsSitApart l most journal = AreWithin (machine_of (replay l most journal)).seat × AreApart (machine_of (replay l most journal)).seat

-- and the session of each request that is queued, in the dispatch list or in flight.
abbrev pub RequestsHaveSeats : Limits → ℕ → List Call → Type 0
RequestsHaveSeats l most journal =
    EachRequest (λ request. SitsAtOne (machine_of (replay l most journal)).seat request.session) (machine_of (replay l most journal))
