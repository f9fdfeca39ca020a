use Rattle.host_core.specs.Cores.{SameSeats}
use Rattle.host_tests.proofs.settling.take_turns.Given as goal

abbrev pub invariant-loop : goal.invariant-loop
invariant-loop l = SameSeats l.initial.core l.core
