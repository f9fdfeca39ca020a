use Rattle.std.proofs.Common.{sym, subst}
use Rattle.host_core.specs.Settling.{core_of, IsDeviceOf}
use Rattle.ring_bench.proofs.settling.settle_device.Goals as goal

pub settle-requires : goal.settle-requires
settle-requires c = subst (λ seat. IsDeviceOf (core_of c.args.core.now) seat) (sym c.finish.ensures) c.requires
