use Rattle.std.proofs.Common.{subst, sym}
use Rattle.host_core.specs.Cores.{SameSeats}
use Rattle.host_core.specs.Settling.{core_of, AreDevicesOf}
use Rattle.ring_bench.proofs.Stays.{devices-stay}
use Rattle.ring_bench.proofs.settling.settle_devices.Goals as goal
use Rattle.ring_bench.proofs.settling.settle_devices.Goals.{in-Some, in_default}

pub loop-preserved : goal.loop-preserved
loop-preserved c =
    let first = c.args.core.now in
    let seats = c.last_device.new.devices.items in
    elim c.match-last_device.branch [
      | in-Some w ↦ subst (λ core. AreDevicesOf (core_of core) seats × SameSeats (core_of first) (core_of core)) (sym w.core-is)
          (devices-stay first c.loop.core w.settle_device.new.core seats c.last_device.ensures.rest c.loop.invariant.1 w.settle_device.ensures)
      | in_default w ↦ subst (λ core. AreDevicesOf (core_of core) seats × SameSeats (core_of first) (core_of core)) (sym w.core-is)
          (c.last_device.ensures.rest, c.loop.invariant.1)
    ]
