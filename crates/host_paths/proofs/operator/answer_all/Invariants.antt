use Rattle.std.proofs.Common.{◌≡◌, ◌+◌, length}
use Rattle.std.specs.Vec.Iter.{into_iter_items}
use Rattle.host_core.specs.Seats.{SameSeat, staged}
use Rattle.host_paths.specs.Operating.{IsBetween}
use Rattle.host_paths.proofs.Operated.{AreAsked}
use Rattle.host_paths.proofs.operator.answer_all.Given as goal

abbrev pub invariant-loop-call : goal.invariant-loop-call
invariant-loop-call g l =
    SameSeat l.initial.seat l.seat × IsBetween l.seat
    × AreAsked l.initial.seat l.seat (g.W.Write.contents l.initial.writer) (g.W.Write.contents l.writer) l.fn.calls.items (into_iter_items l.call-iterator)
    × (length (staged l.seat) + l.left ≡ length (staged l.initial.seat) + l.initial.left)
