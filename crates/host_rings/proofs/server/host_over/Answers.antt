use Rattle.std.proofs.Common.{◌<◌, ◌^◌, subst, sym}
use Rattle.host_rings.proofs.server.host_over.Goals as goal

pub host-requires : goal.host-requires
host-requires g c = subst (λ n. n < 2 ^ 55) (sym c.sectors.ensures.sectors) c.sectors.ensures.few
