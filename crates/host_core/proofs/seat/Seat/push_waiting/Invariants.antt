use Rattle.std.proofs.Common.{◌≡◌}
use Rattle.host_core.specs.Seats.{staged, collected, is_closed, SameSeat}
use Rattle.host_core.proofs.seat.Seat.push_waiting.Given as goal

abbrev pub invariant-loop : goal.invariant-loop
invariant-loop g l =
    (l.call ≡ l.initial.call) × (SameSeat l.initial.self l.self) × (staged l.self ≡ staged l.initial.self) × (collected l.self ≡ collected l.initial.self) × (is_closed l.self ≡ is_closed l.initial.self)
