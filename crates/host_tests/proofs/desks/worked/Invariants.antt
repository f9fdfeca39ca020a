use Rattle.host_core.specs.Seats.{SameSeat, SameDesk}
use Rattle.host_tests.proofs.desks.worked.Given as goal

abbrev pub invariant-loop-session : goal.invariant-loop-session
invariant-loop-session l = SameSeat l.fn.seat l.seat

abbrev pub invariant-loop : goal.invariant-loop
invariant-loop l = SameDesk l.fn.desk l.desk
