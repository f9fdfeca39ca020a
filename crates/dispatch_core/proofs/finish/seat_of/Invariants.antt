use Rattle.std.proofs.Common.{◌≡◌, ◌≢◌, ℕ, ◌<◌, Some, None, slice_index_or}
use Rattle.plain.specs.declared.seat.Seat.{Seat}
use Rattle.dispatch_core.proofs.finish.seat_of.Given as goal

-- no seat before this one is the session's
abbrev pub invariant-loop-seat : goal.invariant-loop-seat
invariant-loop-seat l = (k : ℕ) (s : Seat) → k < l.seat → slice_index_or l.parts.tables.seats k None ≡ Some s → s.session ≢ l.session
