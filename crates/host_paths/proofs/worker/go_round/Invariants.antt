use Rattle.std.proofs.Common.{◌-◌, ◌^◌, ◌<◌}
use Rattle.host_core.specs.Seats.{SameSeat, seat_number}
use Rattle.host_paths.specs.declared.worker.Round.TheVariants.{Told}
use Rattle.host_paths.specs.Working.{IsOwed, IsRound, read_of}
use Rattle.host_paths.proofs.worker.go_round.Given as goal

abbrev pub invariant-loop : goal.invariant-loop
invariant-loop g l = IsOwed l.seat × SameSeat l.initial.seat l.seat × ((g.I.Image.disk l.image).faults < 2 ^ 64 - 1)
    × IsRound (seat_number l.initial.seat) Told l.initial.seat (read_of g.I.Image.disk g.I.Image.log l.initial.image) l.seat (read_of g.I.Image.disk g.I.Image.log l.image)
