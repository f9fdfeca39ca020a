use Rattle.host_core.specs.RowOpening.{AreFresh}
use Rattle.host_core.proofs.row_opening.open_row.Given as goal

abbrev pub invariant-loop-number : goal.invariant-loop-number
invariant-loop-number g l = AreFresh l.number l.seats.items l.desks.items
