use Rattle.host_core.specs.Cores.{SameSeats}
use Rattle.host_core.specs.Settling.{core_of, AreDevicesOf}
use Rattle.ring_bench.proofs.settling.settle_devices.Given as goal

abbrev pub invariant-loop : goal.invariant-loop
invariant-loop l = AreDevicesOf (core_of l.core) l.devices.items × SameSeats (core_of l.initial.core) (core_of l.core)
