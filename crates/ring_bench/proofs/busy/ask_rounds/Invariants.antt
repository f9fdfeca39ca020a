use Rattle.std.proofs.Common.{◌≡◌, length}
use Rattle.host_core.specs.Seats.{staged, collected}
use Rattle.ring_bench.proofs.busy.ask_rounds.Given as goal

abbrev pub invariant-loop : goal.invariant-loop
invariant-loop g l = length (staged l.seat) ≡ length (collected l.seat)
