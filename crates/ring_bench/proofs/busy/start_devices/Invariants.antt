use Rattle.host_core.specs.Opening.{AreIdle}
use Rattle.ring_bench.proofs.busy.start_devices.Given as goal

abbrev pub invariant-loop-number : goal.invariant-loop-number
invariant-loop-number g l = AreIdle l.devices.items
