-- A core that has ended its work, and its seats.
use Rattle.std.specs.Prelude.{◌≡◌, ℕ, List, Some, slice_get}
use Rattle.host_calls.specs.declared.client.ClientCall.{ClientCall}
use Rattle.host_calls.specs.declared.operator.OperatorCall.{OperatorCall}
use Rattle.plain.specs.declared.call.DeviceCall.{DeviceCall}
use Rattle.rtrb.specs.declared.AnyItems.{AnyItems}
use Rattle.host_calls.specs.declared.ring.RingReply.TheVariants.{Answer as Answered}
use Rattle.host_core.specs.Journal.{Pages}
use Rattle.host_core.specs.declared.judges.Judges as journal
use Rattle.host_core.specs.Rows.{Row}
use Rattle.host_core.specs.Account.{IsFirstPart}
use Rattle.host_core.specs.Seats.{AreBeside}
use Rattle.host_core.specs.declared.seat_rules.ClientReplies.{ClientReplies}
use Rattle.host_core.specs.declared.seat_rules.OperatorReplies.{OperatorReplies}
use Rattle.host_core.specs.declared.seat.Seat.{Seat}
use Rattle.host_core.specs.RowSettling.{IsSeatedIn, IsSeated, name_of, staged_calls, collected_replies}
use Rattle.host_core.specs.declared.row_settling.SeatEnd.{SeatEnd}
use Rattle.host_core.specs.Cores.{seats_of}
use Rattle.host_core.specs.Keeping.{devices_among, judges, is_entry, entry_under, is_own, closing}
use Rattle.host_core.specs.declared.settling.CoreEnd.{CoreEnd}
use Rattle.host_core.specs.declared.turns.Core.{Core}

module _ {B : Type 0} {j : journal.Ghosts B} where
  -- the core that has ended
  abbrev pub core_of : CoreEnd B j → Core B j
  core_of end = end.core

  -- a seat of this core's host, by its kind: its two rings are those of the desk of its number
  abbrev pub IsCallerOf : Core B j → Seat ClientCall ClientReplies → Type 0
  IsCallerOf core s = IsSeatedIn s core.desks.callers.items

  abbrev pub IsDeviceOf : Core B j → Seat DeviceCall AnyItems → Type 0
  IsDeviceOf core s = IsSeatedIn s core.desks.devices.items

  abbrev pub IsOperatorOf : Core B j → Seat OperatorCall OperatorReplies → Type 0
  IsOperatorOf core s = AreBeside s core.desks.operator

  -- every seat of these
  abbrev pub AreCallersOf : Core B j → List (Seat ClientCall ClientReplies) → Type 0
  AreCallersOf core seats = (i : ℕ) (s : _) → slice_get seats i ≡ Some s → IsCallerOf core s

  abbrev pub AreDevicesOf : Core B j → List (Seat DeviceCall AnyItems) → Type 0
  AreDevicesOf core seats = (i : ℕ) (s : _) → slice_get seats i ≡ Some s → IsDeviceOf core s

  -- both are of one host
  abbrev pub AreOfOneHost : SeatEnd → Core B j → Type 0
  AreOfOneHost end core = IsSeated end core.desks

  -- what a seat has collected other than Closed is the first part of its account against a journal, beside as many of its first calls
  pub record IsFirst (p : Pages) (core : Core B j) (end : SeatEnd) : Type 0 where
    pub row : Row
    pub place : ℕ
    pub stands : slice_get (seats_of core) place ≡ Some row
    pub named : row.name ≡ name_of end
    pub first : IsFirstPart (judges (devices_among (seats_of core)) p.limits p.most (name_of end)) is_entry (entry_under (name_of end)) (is_own (name_of end)) Answered
        p.entries row.taken row.waiting row.replied (staged_calls end) (collected_replies end) (closing row.closed)
