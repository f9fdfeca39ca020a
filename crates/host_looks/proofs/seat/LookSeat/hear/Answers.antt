use Rattle.std.proofs.Common.{[], ◌∷◌, ◌++◌, refl, ap, ◌∙◌}
use Rattle.host_looks.proofs.SameSeats.{seat-none, seat-twice}
use Rattle.host_looks.proofs.seat.LookSeat.hear.Goals as goal

pub loop-init : goal.loop-init
loop-init g c = (seat-none c.args.self.now, refl, refl)
