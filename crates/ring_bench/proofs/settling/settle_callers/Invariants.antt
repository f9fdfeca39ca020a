use Rattle.host_core.specs.Cores.{SameSeats}
use Rattle.host_core.specs.Settling.{core_of, AreCallersOf}
use Rattle.ring_bench.proofs.settling.settle_callers.Given as goal

abbrev pub invariant-loop : goal.invariant-loop
invariant-loop l = AreCallersOf (core_of l.core) l.callers.items × SameSeats (core_of l.initial.core) (core_of l.core)
