-- A seat of a host that has ended its work, and the desks of the host's core.
use Rattle.std.specs.Prelude.{◌≡◌, ℕ, List, map, Some, slice_get}
use Rattle.host_calls.specs.declared.ring.RingReply.{RingReply}
use Rattle.host_calls.specs.declared.seat.SeatName.{SeatName}
use Rattle.host_calls.specs.declared.seat.SeatName.TheVariants.{Client, Device as Devices, Operator as Operators}
use Rattle.host_core.specs.Asked.{client_asked, device_asked, operator_asked}
use Rattle.host_core.specs.Rows.{Row}
use Rattle.host_core.specs.Seats.{seat_number, staged, collected, AreBeside}
use Rattle.host_core.specs.SeatSettling.{seat_of, AreSettled}
use Rattle.host_core.specs.declared.asked.Asked.{Asked}
use Rattle.host_core.specs.declared.desk.Desk.{Desk}
use Rattle.host_core.specs.declared.seat.Seat.{Seat}
use Rattle.host_core.specs.declared.desks.Desks.{Desks}
use Rattle.host_core.specs.declared.row_settling.SeatEnd.{SeatEnd}
use Rattle.host_core.specs.declared.row_settling.SeatEnd.TheVariants.{Caller, Device, Operator}

-- a seat whose desk stands at its number
abbrev pub IsSeatedIn : {C P : Type 0} → Seat C P → List (Desk C P) → Type 0
IsSeatedIn s desks = (d : _) × (slice_get desks (seat_number s) ≡ Some d) × AreBeside s d

-- a seat of these desks
abbrev pub IsSeated : SeatEnd → Desks → Type 0
IsSeated (Caller end) d = IsSeatedIn (seat_of end) d.callers.items
IsSeated (Device end) d = IsSeatedIn (seat_of end) d.devices.items
IsSeated (Operator end) d = AreBeside (seat_of end) d.operator

-- whose it is
abbrev pub name_of : SeatEnd → SeatName
name_of (Caller end) = Client (seat_number (seat_of end))
name_of (Device end) = Devices (seat_number (seat_of end))
name_of (Operator end) = Operators

-- the calls that it has staged, with its number put in, and the replies that it has collected
abbrev pub staged_calls : SeatEnd → List Asked
staged_calls (Caller end) = map (client_asked (seat_number (seat_of end))) (staged (seat_of end))
staged_calls (Device end) = map (device_asked (seat_number (seat_of end))) (staged (seat_of end))
staged_calls (Operator end) = map (operator_asked (seat_number (seat_of end))) (staged (seat_of end))

abbrev pub collected_replies : SeatEnd → List RingReply
collected_replies (Caller end) = collected (seat_of end)
collected_replies (Device end) = collected (seat_of end)
collected_replies (Operator end) = collected (seat_of end)

-- it is settled with its row: so many of its calls were not taken, and so many replies not collected
pub record IsSettled (rows : List Row) (name : SeatName) (calls : List Asked) (replies : List RingReply) (left uncollected : ℕ) : Type 0 where
  pub row : Row
  pub place : ℕ
  pub stands : slice_get rows place ≡ Some row
  pub named : row.name ≡ name
  pub settled : AreSettled calls replies row left uncollected
