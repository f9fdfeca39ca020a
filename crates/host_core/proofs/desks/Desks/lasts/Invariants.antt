use Rattle.std.proofs.Common.{◌≡◌, take}
use Rattle.host_core.specs.Desks.{lasts}
use Rattle.host_core.proofs.desks.Desks.lasts.Given as goal

abbrev pub invariant-loop-number : goal.invariant-loop-number
invariant-loop-number l = l.lasts.items ≡ take l.number (lasts l.self)
