-- Who sits at a seat, and what a client's call is tested for first.
use Rattle.std.specs.Prelude.{ℕ, ◌+◌, ◌==◌, nat_le, Bool, false, not, List, [], ◌∷◌, ◌++◌, Option, None, Some}
use Rattle.std.specs.Option.{option_map_or}
use Rattle.plain.specs.Machine.{Plain}
use Rattle.plain.specs.declared.seat.Seat.{Seat}
use Rattle.plain.specs.declared.answer.Code.TheVariants.{BadSeat, NoSession, StaleSession}
use Rattle.plain.specs.declared.answer.Answer.{Answer}
use Rattle.plain.specs.declared.answer.Answer.TheVariants.{Refused}

-- the session at a seat is this one (our profile)
abbrev pub is_session : ℕ → Option Seat → Bool
is_session session None = false
is_session session (Some seat) = seat.session == session

-- the session at a seat leaves: it makes no more calls, but some of its requests are not yet completed (our profile)
abbrev pub is_leaving : Option Seat → Bool
is_leaving None = false
is_leaving (Some seat) = seat.leaving

-- there is a session at a seat that makes calls (our profile)
abbrev pub has_session : Option Seat → Bool
has_session None = false
has_session (Some seat) = not seat.leaving

-- a client's call names a seat that there is, at which there is a session (our profile)
abbrev pub session_tests : Plain → ℕ → List (Bool × Answer)
session_tests m seat = (nat_le 16 seat, Refused BadSeat) ∷ (not (has_session (m.seat seat)), Refused NoSession) ∷ []

-- the same, and the session there is the one that the call names (our profile)
abbrev pub seat_tests : Plain → ℕ → ℕ → List (Bool × Answer)
seat_tests m seat session = session_tests m seat ++ (not (is_session session (m.seat seat)), Refused StaleSession) ∷ []

-- how many bios the session at a seat has submitted and not yet reaped (our profile)
abbrev pub unreaped : Plain → ℕ → ℕ
unreaped m seat = option_map_or (λ s. s.unreaped) (m.seat seat) 0

-- a seat with another count of bios that are not yet reaped (our profile)
abbrev pub with_unreaped : ℕ → Seat → Seat
with_unreaped n seat = record seat { unreaped = n }
