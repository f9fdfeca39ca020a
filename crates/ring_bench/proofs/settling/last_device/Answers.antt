use Rattle.host_core.specs.Settling.{core_of, IsDeviceOf}
use Rattle.ring_bench.proofs.Last.{of-rest, of-last}
use Rattle.ring_bench.proofs.settling.last_device.Goals as goal

pub returns-clause-rest : goal.returns-clause-rest
returns-clause-rest c = of-rest (IsDeviceOf (core_of c.args.core.now)) c.args.devices.now.items c.pop.new.self.items c.pop.result c.pop.ensures.items c.requires

pub returns-clause-seat : goal.returns-clause-seat
returns-clause-seat c = of-last (IsDeviceOf (core_of c.args.core.now)) c.args.devices.now.items c.pop.new.self.items c.pop.result c.pop.ensures.items c.requires
