use Rattle.std.proofs.Common.{◌≡◌, ◌+◌, length}
use Rattle.host_core.specs.Seats.{SameSeat, staged}
use Rattle.host_paths.specs.Operating.{IsBetween}
use Rattle.host_paths.proofs.Operated.{Stands}
use Rattle.host_paths.proofs.operator.serve_operator.Given as goal

abbrev pub invariant-loop : goal.invariant-loop
invariant-loop g l =
    SameSeat l.initial.seat l.seat × IsBetween l.seat × (length l.piece ≡ 4096)
    × Stands (g.R.Read.remaining l.initial.reader) (g.R.Read.remaining l.reader) (g.W.Write.contents l.initial.writer) (g.W.Write.contents l.writer) l.initial.seat l.seat l.feeder
    × (length (staged l.seat) + l.left ≡ length (staged l.initial.seat) + l.fn.frame_limit)
