use Rattle.std.proofs.Common.{◌≡◌, length}
use Rattle.host_core.specs.Seats.{staged, collected}
use Rattle.ring_bench.proofs.bare.ask_all.Given as goal

abbrev pub invariant-loop-session : goal.invariant-loop-session
invariant-loop-session g l = length (staged l.seat) ≡ length (collected l.seat)
