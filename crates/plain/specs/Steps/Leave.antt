-- Leave: the session makes no more calls, and its outbox is dropped. Its queued requests still run, and their completions are dropped.
-- The seat is free, and its entity gone, once no request of the session is left (our profile).
use Rattle.std.specs.Prelude.{ℕ, Bool, true, [], length}
use Rattle.std.specs.Option.{option_map}
use Rattle.plain.specs.Machine.{Plain, put}
use Rattle.plain.specs.declared.seat.Seat.{Seat}
use Rattle.plain.specs.Opening.{Limits}
use Rattle.plain.specs.declared.answer.Reply.TheVariants.{Left}
use Rattle.plain.specs.Tests.{StepResult, unless, accepted}
use Rattle.plain.specs.Sessions.{session_tests}
use Rattle.plain.specs.Entities.{without_gone, owed_fewer}

-- a seat whose session makes no more calls (our profile)
abbrev pub with_leaving : Seat → Seat
with_leaving seat = record seat { leaving = true }

-- the session leaves, its outbox is dropped, and its seat is free at once if no request of it is left (our profile)
abbrev pub left : Limits → Plain → ℕ → Plain
left l m seat =
    without_gone l seat (owed_fewer seat (length (m.outbox seat)) (record m {
      seat = put m.seat seat (option_map with_leaving (m.seat seat));
      outbox = put m.outbox seat [];
    }))

-- a session may leave if there is one at the seat that is not leaving yet (our profile)
abbrev pub leave : Limits → Plain → Bool → ℕ → StepResult
leave l m room seat = unless (session_tests m seat) m (accepted room m (left l m seat) Left)
