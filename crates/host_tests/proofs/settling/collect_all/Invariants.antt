use Rattle.host_core.specs.Seats.{SameSeat}
use Rattle.host_tests.proofs.settling.collect_all.Given as goal

abbrev pub invariant-loop : goal.invariant-loop
invariant-loop l = SameSeat l.initial.seat l.seat
