-- A seat that has ended its work, and its desk.
use Rattle.std.specs.Prelude.{◌≡◌, ℕ, List, ◌++◌, length}
use Rattle.host_calls.specs.declared.ring.RingReply.{RingReply}
use Rattle.host_core.specs.Rows.{Row}
use Rattle.host_core.specs.declared.asked.Asked.{Asked}
use Rattle.host_core.specs.declared.seat.Seat.{Seat}
use Rattle.host_core.specs.declared.seat_settling.FinishedSeat.{FinishedSeat}

-- the seat that has ended
abbrev pub seat_of : {C P : Type 0} → FinishedSeat C P → Seat C P
seat_of end = end.seat

-- a seat that has staged these calls and collected these replies, and its row: so many calls were not taken, the last ones, and so many
-- replies not collected (our profile)
pub record AreSettled (calls : List Asked) (collected : List RingReply) (r : Row) (left uncollected : ℕ) : Type 0 where
  pub untaken : List Asked
  pub calls_are : calls ≡ r.taken ++ untaken
  pub left_is : left ≡ length untaken
  pub rest : List RingReply
  pub replies_are : r.replied ≡ collected ++ rest
  pub uncollected_is : uncollected ≡ length rest
