use Rattle.std.proofs.Common.{◌≡◌}
use Rattle.host_looks.specs.Looking.{SameSeat, asked, heard}
use Rattle.host_looks.proofs.seat.LookSeat.hear.Given as goal

abbrev pub invariant-loop : goal.invariant-loop
invariant-loop g l = (SameSeat l.initial.self l.self) × (asked l.self ≡ asked l.initial.self) × (heard l.self ≡ heard l.initial.self)
