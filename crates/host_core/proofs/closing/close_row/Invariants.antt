use Rattle.std.proofs.Common.{◌≡◌, map, vec_len}
use Rattle.host_core.specs.Seats.{row_of}
use Rattle.host_core.specs.Same.{SameEach}
use Rattle.host_core.proofs.Ends.{CloseUpto}
use Rattle.host_core.proofs.closing.close_row.Given as goal

abbrev pub invariant-loop-number : goal.invariant-loop-number
invariant-loop-number g l =
    CloseUpto l.number (map (row_of g.C.Staged.asked_by g.C.Staged.named) l.fn.desks.items) (map (row_of g.C.Staged.asked_by g.C.Staged.named) l.desks.items)
    × (vec_len l.desks ≡ vec_len l.fn.desks)
    × SameEach l.fn.desks.items l.desks.items
