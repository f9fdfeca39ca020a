use Rattle.host_core.proofs.FreshRows.{fresh-more}
use Rattle.host_core.proofs.row_opening.open_row.Goals as goal

pub loop-number-preserved : goal.loop-number-preserved
loop-number-preserved g c = rw (c.in_ok-push.ensures.items, c.in_ok-push-2.ensures.items)
    (fresh-more c.loop-number.number c.loop-number.seats.items c.loop-number.desks.items c.in_ok-seat.seat c.in_ok-seat.desk c.loop-number.invariant c.in_ok-seat.ensures)
